use Rattle.std.proofs.Common.{◌/◌, ◌<◌, ◌⊎◌, length, arith}
use Rattle.std.proofs.lemmas.Grind.{common_steps}
use Rattle.bodies.specs.Bodies.{most_steps}
use Rattle.bodies.proofs.Stepping.{count_fault}
use Rattle.bodies.proofs.steps.step_count.Goals as goal

pub returns-then-not-contains : goal.returns-then-not-contains
returns-then-not-contains c =
    let out : (length c.args.body.now / 8 < 1) ⊎ (most_steps c.args.parameter < length c.args.body.now / 8) = grind (arith, common_steps) in
    count_fault (most_steps c.args.parameter) c.args.body.now c.if-body-ne0.false out
