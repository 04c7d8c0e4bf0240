use Rattle.std.proofs.Common.{◌≡◌, ℕ, ◌<◌, length, get_or, None}
use Rattle.vocabulary.specs.Readings.{lines_of}
use Rattle.charges.specs.Tables.{owns_of}
use Rattle.answers.proofs.Listing.{Made}
use Rattle.answers.proofs.listed.listed.Given as goal

abbrev pub invariant-loop-i : goal.invariant-loop-i
invariant-loop-i g l =
    (length l.answers ≡ 32)
    × ((k : ℕ) → k < l.i-counter → Made (g.R.Rules.meanings l.rules) (lines_of l.lines) (owns_of l.table) k (get_or l.answers k None))
