-- What holds of books after any lists of calls.
use Rattle.std.specs.Prelude.{◌≡◌, ℕ, true, false, ◌&&◌, List, [], ◌∷◌, ◌++◌, Decides, ◌≢◌}
use Rattle.kinds.specs.Judged.{DifferWhen}
use Rattle.vocabulary.specs.declared.parameter.Parameter.{Parameter}
use Rattle.vocabulary.specs.Conditions.{condition_in_force, in_zone}
use Rattle.vocabulary.specs.Numbers.{parameter_number}
use Rattle.vocabulary.specs.Orders.{product_of}
use Rattle.vocabulary.specs.Verdicts.{failed}
use Rattle.verdicts.specs.Rules.{impact}
use Rattle.charges.specs.Findings.{Meanings}
use Rattle.answers.specs.Answers.{conduct}
use Rattle.entries.specs.Table.{kinds}
use Rattle.ledger.specs.Slots.{Slots, entry_file}
use Rattle.ledger.specs.Ledger.{Act, ledger}
use Rattle.ledger.specs.Readings.{slot, lines, own}
use Rattle.ledger.specs.Mitigation.{mitigated}
use Rattle.ledger.specs.Listing.{listing_line}
use Rattle.ledger.specs.Promises.{Agree, For, ShareNone}
use Rattle.histories.specs.declared.again.Rewritten.{Rewritten}
use Rattle.histories.specs.declared.compare.Comparison.{Comparison}
use Rattle.histories.specs.Documents.{bytes_of, DrawnFrom}

-- what the slots hold after a list of calls
abbrev pub slots_after : List Act → Slots
slots_after calls = (ledger kinds calls).slots

-- what mitigation does to the offers of an hour
pub record OffersMitigated (m : Meanings) (s : Slots) : Type 0 where
  -- outside uncompetitive intertie zones an offer differs exactly where its conduct and its product's impact fail
  pub outside_zones_where_both_fail : (resource : ℕ) (p : Parameter)
      → in_zone (condition_in_force (own s resource) (product_of p)) ≡ false
      → DifferWhen (failed (conduct m (lines s) (own s resource) p) && failed (impact m.impacts (lines s) (own s resource) (product_of p)))
      (slot (mitigated m s) 3 resource (parameter_number p)) (slot s 3 resource (parameter_number p))
  -- inside them it never does
  pub inside_zones_never : (resource : ℕ) (p : Parameter)
      → in_zone (condition_in_force (own s resource) (product_of p)) ≡ true
      → slot (mitigated m s) 3 resource (parameter_number p) ≡ slot s 3 resource (parameter_number p)

pub record Compared (first second : List Act) (r : Comparison) : Type 0 where
  -- each book's entry file is the one drawn from its list's ledger
  pub first_entry_file : bytes_of r.first.entries ≡ entry_file kinds (ledger kinds first).slots
  pub second_entry_file : bytes_of r.second.entries ≡ entry_file kinds (ledger kinds second).slots
  -- the files are equal exactly where the ledgers end with equal slots, and the answer says which
  pub equal_files_equal_slots : bytes_of r.first.entries ≡ bytes_of r.second.entries → (ledger kinds first).slots ≡ (ledger kinds second).slots
  pub equal_slots_equal_files : (ledger kinds first).slots ≡ (ledger kinds second).slots → bytes_of r.first.entries ≡ bytes_of r.second.entries
  pub alike_says_which : Decides r.alike ((ledger kinds first).slots ≡ (ledger kinds second).slots)

-- what holds beyond that of the three files of each book; m and n are the meanings of the bounds of the first and of the second
pub record ComparedWhole (m n : Meanings) (first second : List Act) (r : Comparison) : Type 0 where
  -- each book's three files are those drawn from its list's ledger and its bounds' meanings
  pub first_files : DrawnFrom m (slots_after first) r.first
  pub second_files : DrawnFrom n (slots_after second) r.second
  -- bounds that agree on every line, reference and value leave no difference
  pub agreeing_bounds_equal_listings : Agree m n → slots_after first ≡ slots_after second → bytes_of r.first.listing ≡ bytes_of r.second.listing
  pub agreeing_bounds_equal_mitigated : Agree m n → slots_after first ≡ slots_after second → bytes_of r.first.mitigated ≡ bytes_of r.second.mitigated
  -- one more post or clear for a resource leaves the line of every other that shares no entity with it before or after
  pub one_more_call_leaves_neighbours : (a : Act) (resource other : ℕ) → second ≡ first ++ (a ∷ []) → Agree m n
      → For a resource → (other ≢ resource) → ShareNone (slots_after first) resource other → ShareNone (slots_after second) resource other
      → listing_line n (slots_after second) other ≡ listing_line m (slots_after first) other
  -- what the mitigated files change
  pub first_offers : OffersMitigated m (slots_after first)
  pub second_offers : OffersMitigated n (slots_after second)
  -- the first's mitigated file is taken by a new book over the same bounds, and is that book's mitigated file
  pub mitigated_file_is_taken : r.taken ≡ true
  pub mitigated_file_stays : bytes_of r.again ≡ bytes_of r.first.mitigated

-- an entry file is taken by a new book and written again byte for byte
pub record WrittenAgain (calls : List Act) (r : Rewritten) : Type 0 where
  pub entry_file_of_calls : bytes_of r.before ≡ entry_file kinds (ledger kinds calls).slots
  pub is_taken : r.taken ≡ true
  pub same_bytes : bytes_of r.after ≡ bytes_of r.before
