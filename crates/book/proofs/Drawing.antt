-- The listing of what is found of each resource of a table.
use Rattle.std.proofs.Common.{◌≡◌, ℕ, zero, suc, ◌<◌, List, ◌++◌, get_or, None, Option, Result, sym, refl, ap, ◌∙◌, subst, arith}
use Rattle.bodies.specs.declared.fault.Refusal.{Refusal}
use Rattle.vocabulary.specs.Readings.{lines_of}
use Rattle.charges.specs.Findings.{Meanings}
use Rattle.charges.specs.Tables.{owns_of}
use Rattle.answers.specs.declared.answer.Answer.{Answer}
use Rattle.answers.specs.Answers.{answer, listed}
use Rattle.ledger.specs.Listing.{line_if, listing_line, listing}
use Rattle.ledger.proofs.Listed.{listing_line_said}
use Rattle.ledger.specs.Readings.{lines, own}
use Rattle.ledger.specs.Views.{joined_below}
use Rattle.table.specs.declared.hour.Table.{Table}
use Rattle.table.specs.Ranges.{AllRanged}
use Rattle.table.specs.Tables.{slots_of}
use Rattle.table.proofs.Saying.{lines_said, owns_said}
use Rattle.files.specs.Placing.{Written}
use Rattle.book.specs.Rows.{listing_rows}
use Rattle.listing.specs.Wholes.{line_at}
use Rattle.listing.specs.Wholes as wholes

-- parts that are the same below n
joined_same : (n : ℕ) (f g : ℕ → List ℕ) → ((k : ℕ) → k < n → f k ≡ g k) → joined_below n f ≡ joined_below n g
unfolding joined_below
joined_same zero f g same = refl
joined_same (suc n) f g same = λ j. joined_same n f g (λ k h. same k (omega arith)) j ++ same n (omega arith) j

-- the same file written
pub redrawn : {place : ℕ} {file file' before after : List ℕ} {r : Result ℕ Refusal} → file ≡ file' → Written place file before after r → Written place file' before after r
redrawn {place} {file} {file'} {before} {after} {r} e w = subst (λ f. Written place f before after r) e w

module _ (m : Meanings) (t : Table) where
  row_line : ℕ → List ℕ
  row_line r = line_if r (listed m (lines_of t.lines) (owns_of t.resources) r)

  pub rows_drawn : (answers : List (Option Answer)) → ((k : ℕ) → k < 32 → get_or answers k None ≡ listed m (lines_of t.lines) (owns_of t.resources) k)
      → wholes.lines_of answers ≡ listing_rows m t
  unfolding row_line
  rows_drawn answers made = joined_same 32 (line_at answers) row_line (λ k h. ap (line_if k) (made k h))

module _ (m : Meanings) (t : Table) (fit : AllRanged t) where
  pub rows_listed : listing_rows m t ≡ listing m (slots_of t)
  unfolding row_line
  rows_listed =
      joined_same 32 (row_line m t) (listing_line m (slots_of t))
      (λ k h. ap (line_if k) (λ j. listed m (sym (lines_said t fit) j) (sym (owns_said t fit) j) k) ∙ sym (listing_line_said m (slots_of t) k))

  pub answered : (r : ℕ) → answer m (lines_of t.lines) (owns_of t.resources) r ≡ answer m (lines (slots_of t)) (own (slots_of t)) r
  answered r = λ j. answer m (sym (lines_said t fit) j) (sym (owns_said t fit) j) r
