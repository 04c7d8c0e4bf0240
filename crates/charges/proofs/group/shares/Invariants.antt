use Rattle.std.proofs.Common.{◌≡◌, ℕ, ◌<◌, length, get_or}
use Rattle.vocabulary.specs.Readings.{lines_of}
use Rattle.charges.specs.Tables.{owns_of}
use Rattle.charges.specs.Groups.{no_share}
use Rattle.charges.proofs.Shares.{Made}
use Rattle.charges.proofs.group.shares.Given as goal

abbrev pub invariant-loop-i : goal.invariant-loop-i
invariant-loop-i g l =
    (length l.shares ≡ 32)
    × ((k : ℕ) → k < l.i → Made (g.Q.Bound.meaning l.quantities.bound) (lines_of l.lines) (owns_of l.table) l.product k (get_or l.shares k no_share))
