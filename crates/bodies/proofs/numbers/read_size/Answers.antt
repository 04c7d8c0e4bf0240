use Rattle.std.proofs.Common.{get_or-drop, rules}
use Rattle.bodies.specs.Numbers.{size}
use Rattle.bodies.proofs.numbers.read_size.Goals as goal

pub returns : goal.returns
unfolding size
returns c = search (rules, get_or-drop)
