use Rattle.std.proofs.Common.{length}
use Rattle.scripts.proofs.Wholes.{Unparted}
use Rattle.scripts.proofs.parting.part.Given as goal

abbrev pub invariant-loop-line : goal.invariant-loop-line
invariant-loop-line l = Unparted l.text l.rest l.number

abbrev pub decreases-loop-line : goal.decreases-loop-line
decreases-loop-line l = length l.rest
