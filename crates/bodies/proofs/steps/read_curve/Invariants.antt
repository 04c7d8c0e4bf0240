use Rattle.bodies.proofs.Stepping.{Sofar}
use Rattle.bodies.proofs.steps.read_curve.Given as goal

abbrev pub invariant-loop-i : goal.invariant-loop-i
invariant-loop-i l = Sofar l.chunks l.steps l.i
