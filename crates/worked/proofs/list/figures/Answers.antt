use Rattle.std.proofs.Common.{rules}
use Rattle.bounds.specs.Lines.{line_of}
use Rattle.charges.specs.Groups.{total}
use Rattle.charges.specs.Findings.{finding}
use Rattle.worked.proofs.list.figures.Goals as goal

pub returns-clause-hold : goal.returns-clause-hold
unfolding line_of total finding
returns-clause-hold c = search rules depth 20
