use Rattle.std.proofs.Common.{◌≡◌, length, arith}
use Rattle.std.proofs.lemmas.List.{length-take-le}
use Rattle.curves.specs.Rows.{row_steps}
use Rattle.writers.proofs.Lending.{stepped_more, stepped_end}
use Rattle.writers.proofs.entry.write_steps.Goals as goal

pub loop-step-preserved : goal.loop-step-preserved
loop-step-preserved c =
    stepped_more c.loop-step.invariant _ (omega arith) _ _ c.step_bytes.ensures c.write_bytes-at.ensures.bytes _ c.write_bytes-at.ensures.len

pub returns-clause-whole : goal.returns-clause-whole
returns-clause-whole c =
    let long : length (row_steps c.args.row) ≡ c.args.row.count = length-take-le c.args.row.count c.args.row.steps (omega arith) in
    (stepped_end c.loop-step.invariant (omega arith)).0
