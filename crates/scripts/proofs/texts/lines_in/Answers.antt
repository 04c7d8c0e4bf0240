use Rattle.std.proofs.Common.{arith}
use Rattle.scripts.proofs.Cutting.{few_lines}
use Rattle.scripts.proofs.texts.lines_in.Goals as goal

pub invariant_of-result : goal.invariant_of-result
invariant_of-result c = let few = few_lines c.args.text.now in omega arith
