use Rattle.std.proofs.Common.{◌∙◌}
use Rattle.vocabulary.specs.Readings.{lines_of}
use Rattle.charges.specs.Tables.{owns_of}
use Rattle.charges.proofs.Shares.{verdict_same}
use Rattle.charges.proofs.group.entity_quantity.Goals as goal

pub returns : goal.returns
returns g c =
    c.group_verdict.ensures
    ∙ verdict_same (g.Q.Bound.meaning c.args.quantities.now.bound) (lines_of c.args.lines.now) (owns_of c.args.table.now) c.args.product c.args.shares.now c.requires.made c.args.i c.requires.index
