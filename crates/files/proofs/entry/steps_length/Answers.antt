use Rattle.std.proofs.Common.{arith}
use Rattle.files.proofs.Contents.{length_steps}
use Rattle.files.proofs.entry.steps_length.Goals as goal

pub returns-clause-len : goal.returns-clause-len
returns-clause-len c = length_steps c.args.row (omega arith)
