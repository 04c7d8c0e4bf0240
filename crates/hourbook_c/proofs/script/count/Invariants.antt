use Rattle.std.proofs.Common.{◌+◌, ◌≤◌, length}
use Rattle.hourbook_c.proofs.script.count.Given as goal

abbrev pub invariant-loop-call : goal.invariant-loop-call
invariant-loop-call l = l.calls + length l.rest ≤ length l.script

abbrev pub decreases-loop-call : goal.decreases-loop-call
decreases-loop-call l = length l.rest
