-- Files of ledgers, and what holds among them.
use Rattle.std.proofs.Common.{◌≡◌, ℕ, Bool, true, List, is_ok, Ok, Err, Decides, Result, sym, refl, ap, ◌∙◌, subst, arith}
use Rattle.std.proofs.lemmas.Bool.Decides.{Decides-like}
use Rattle.bodies.specs.declared.fault.Refusal.{Refusal}
use Rattle.charges.specs.Findings.{Meanings}
use Rattle.entries.specs.Files.{Told, told, no_fault}
use Rattle.entries.proofs.Reading.{fault_positive}
use Rattle.entries.specs.Table.{kinds}
use Rattle.ledger.specs.Slots.{Slots, entry_file, WellFormed}
use Rattle.ledger.specs.Ledger.{Act, loaded, Ledger, empty, fault, step, ledger}
use Rattle.ledger.specs.Listing.{listing, listing_line}
use Rattle.ledger.specs.Mitigation.{mitigated, mitigated_file}
use Rattle.charges.specs.Lawful.{Lawful}
use Rattle.ledger.specs.Promises.{ShareNone}
use Rattle.ledger.proofs.Laws.{reached, reloads, injective}
use Rattle.ledger.proofs.Agreeing.{same}
use Rattle.ledger.proofs.Listed.{neighbours_lines}
use Rattle.ledger.proofs.Mitigating.{mitigates}
use Rattle.table.specs.declared.hour.Table.{Table}
use Rattle.table.specs.Tables.{slots_of}
use Rattle.book.specs.Ledgers.{ledger_of}
use Rattle.histories.specs.declared.drawn.Files.{Files}
use Rattle.histories.specs.declared.compare.Comparison.{Comparison}
use Rattle.histories.specs.Documents.{bytes_of, DrawnFrom}
use Rattle.histories.specs.Histories.{slots_after, OffersMitigated, Compared, ComparedWhole}

accepted : (r : Result Unit Refusal) → told r ≡ no_fault → is_ok r ≡ true
accepted (Ok _) e = refl
accepted (Err r) e = absurd (let h = ap (λ (t : Told). t.number) e in let some = fault_positive r.fault in omega arith)

-- a book that a list of calls led to
module _ (t : Table) (is_open : Bool) (calls : List Act) (is : ledger_of t is_open ≡ ledger kinds calls) where
  pub slots_are : slots_of t ≡ slots_after calls
  slots_are = ap (λ (l : Ledger). l.slots) is

  pub well : WellFormed kinds (slots_of t)
  well = subst (WellFormed kinds) (sym slots_are) (reached calls)

  pub files_are : (m k : Meanings) → k ≡ m → (files : Files) → DrawnFrom k (slots_of t) files → DrawnFrom m (slots_after calls) files
  files_are m k e files d =
      subst (λ s. DrawnFrom m s files) slots_are (subst (λ (x : Meanings). DrawnFrom x (slots_of t) files) e d)

-- a file of well-formed slots, loaded into a new book
module _ (s : Slots) (fits : WellFormed kinds s) (bytes : List ℕ) (l : Ledger) (are : bytes ≡ entry_file kinds s) (new : l ≡ empty kinds) where
  act_is : loaded bytes ≡ loaded (entry_file kinds s)
  act_is = ap loaded are

  pub reloaded : (l' : Ledger) → l' ≡ step kinds l (loaded bytes) → l'.slots ≡ s
  reloaded l' is = ap (λ (x : Ledger). x.slots) (is ∙ (λ i. step kinds (new i) (act_is i)) ∙ (reloads s fits).ledgered)

  pub taken : (r : Result Unit Refusal) → told r ≡ fault kinds l (loaded bytes) → is_ok r ≡ true
  taken r is = accepted r (is ∙ (λ i. fault kinds (new i) (act_is i)) ∙ (reloads s fits).obeyed)

module _ (m : Meanings) (lawful : Lawful m) (calls : List Act) where
  pub mitigated_fits : WellFormed kinds (mitigated m (slots_after calls))
  mitigated_fits = (mitigates m lawful (slots_after calls) (reached calls)).well_formed

  pub offers : OffersMitigated m (slots_after calls)
  offers =
      let all = (mitigates m lawful (slots_after calls) (reached calls)).offers in
      record { outside_zones_where_both_fail = λ r p. (all r p).outside; inside_zones_never = λ r p. (all r p).inside }

  -- mitigated slots, mitigated again
  pub stays : (k : Meanings) → k ≡ m → (t : Slots) → t ≡ mitigated m (slots_after calls) → mitigated_file k t ≡ mitigated_file m (slots_after calls)
  stays k e t is = (λ j. mitigated_file (e j) (is j)) ∙ ap (entry_file kinds) (mitigates m lawful (slots_after calls) (reached calls)).again

-- the promises, from the files and the answers of the third book
module _ (m n : Meanings) (first second : List Act) (r : Comparison)
    (a : DrawnFrom m (slots_after first) r.first) (b : DrawnFrom n (slots_after second) r.second) where
  pub compared : Decides r.alike (bytes_of r.first.entries ≡ bytes_of r.second.entries) → Compared first second r
  compared d =
      let left = a.entry_file_drawn.same in
      let right = b.entry_file_drawn.same in
      let to : bytes_of r.first.entries ≡ bytes_of r.second.entries → slots_after first ≡ slots_after second = λ e. injective first second (sym left ∙ e ∙ right) in
      let back : slots_after first ≡ slots_after second → bytes_of r.first.entries ≡ bytes_of r.second.entries = λ e. left ∙ ap (entry_file kinds) e ∙ sym right in
      record {
        first_entry_file = left;
        second_entry_file = right;
        equal_files_equal_slots = to;
        equal_slots_equal_files = back;
        alike_says_which = Decides-like r.alike to back d;
      }

  pub whole : Lawful m → Lawful n → r.taken ≡ true → bytes_of r.again ≡ mitigated_file m (slots_after first) → ComparedWhole m n first second r
  whole lawful-m lawful-n took stayed = record {
    first_files = a;
    second_files = b;
    agreeing_bounds_equal_listings = λ agree e. a.listing_drawn.same ∙ (λ j. listing (same m n agree j) (e j)) ∙ sym b.listing_drawn.same;
    agreeing_bounds_equal_mitigated = λ agree e. a.mitigated_file_drawn.same ∙ (λ j. mitigated_file (same m n agree j) (e j)) ∙ sym b.mitigated_file_drawn.same;
    one_more_call_leaves_neighbours = λ act resource other is agree for ne before after.
        (λ j. listing_line (sym (same m n agree) j) (slots_after (is j)) other)
        ∙ neighbours_lines m first act resource other for ne before (subst (λ acts. ShareNone (slots_after acts) resource other) is after);
    first_offers = offers m lawful-m first;
    second_offers = offers n lawful-n second;
    mitigated_file_is_taken = took;
    mitigated_file_stays = stayed ∙ sym a.mitigated_file_drawn.same;
  }
