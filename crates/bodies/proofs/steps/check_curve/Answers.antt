use Rattle.std.proofs.Common.{arith}
use Rattle.bodies.specs.Bodies.{most_steps}
use Rattle.bodies.proofs.Stepping.{counted_fault}
use Rattle.bodies.proofs.steps.check_curve.Goals as goal

pub returns : goal.returns
returns c =
    let n = c.in_ok-step_count.ensures in
    counted_fault (most_steps c.args.parameter) c.args.body.now (omega arith) (omega arith) (omega arith) _ c.check_steps.ensures
