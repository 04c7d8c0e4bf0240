use Rattle.std.proofs.Common.{arith}
use Rattle.listing.proofs.Lining.{length_line}
use Rattle.listing.proofs.line.line_length.Goals as goal

pub returns-clause-len : goal.returns-clause-len
returns-clause-len c = λ resource. omega (arith, length_line resource c.args.answer.now)
