-- The lines of all resources that are listed.
use Rattle.std.specs.Prelude.{ℕ, ◌^◌, ◌<◌, List, IfSome, None, Option, slice_index_or, sum}
use Rattle.answers.specs.declared.answer.Answer.{Answer}
use Rattle.ledger.specs.Listing.{line_if}
use Rattle.ledger.specs.Views.{joined_below}

-- the charges add up within eight bytes
abbrev pub Fit : Option Answer → Type 0
Fit answer = IfSome answer (λ a. sum a.charges < 2 ^ 64)

abbrev pub Fits : List (Option Answer) → Type 0
Fits answers = (k : ℕ) → k < 32 → Fit (slice_index_or answers k None)

-- the line of a resource
abbrev pub line_at : List (Option Answer) → ℕ → List ℕ
line_at answers r = line_if r (slice_index_or answers r None)

abbrev pub lines_of : List (Option Answer) → List ℕ
lines_of answers = joined_below 32 (line_at answers)
