use Rattle.std.proofs.Common.{arith}
use Rattle.files.proofs.Drawn.{file_length}
use Rattle.files.proofs.file.file_length.Goals as goal

pub returns-clause-len : goal.returns-clause-len
returns-clause-len g c = let whole = file_length (g.S.Slots.holding c.args.slots.now) in omega arith
