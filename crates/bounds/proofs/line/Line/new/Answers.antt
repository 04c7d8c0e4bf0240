use Rattle.std.proofs.Common.{rules}
use Rattle.bounds.proofs.Lines.{line_inside, line_outside}
use Rattle.bounds.proofs.line.Line.new.Goals as goal

pub returns-then-in_range : goal.returns-then-in_range
returns-then-in_range c = search (rules, line_inside)

pub returns-else-in_range : goal.returns-else-in_range
returns-else-in_range c = search (rules, line_outside)
