use Rattle.bodies.proofs.Streaming.{Looked}
use Rattle.bodies.proofs.steps.check_steps.Given as goal

abbrev pub invariant-loop-bytes : goal.invariant-loop-bytes
invariant-loop-bytes l = Looked l.body l.more l.bytes-index l.last l.ordered
