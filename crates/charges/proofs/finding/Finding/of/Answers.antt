use Rattle.std.proofs.Common.{ap, sym, ◌∙◌}
use Rattle.vocabulary.specs.Readings.{lines_of}
use Rattle.charges.specs.declared.share.Share.{Share}
use Rattle.charges.specs.Tables.{owns_of}
use Rattle.charges.specs.Groups.{share}
use Rattle.charges.specs.Findings.{Meanings, meant_by, finding}
use Rattle.charges.proofs.Findings.{same_verdicts, same_found}
use Rattle.charges.proofs.finding.Finding.of.Goals as goal

pub returns-clause-value : goal.returns-clause-value
unfolding share finding
returns-clause-value g c =
    let lines = lines_of c.args.lines.now in
    let owns = owns_of c.args.table.now in
    let m = meant_by g.R.Curves.Bound.meaning g.R.Amounts.Bound.meaning g.R.Impact.Bound.meaning g.R.Quantities.Bound.meaning c.places-places.result.now in
    let resource = ap (λ (s : Share). s.verdict) (c.requires.made c.args.i c.requires.index) ∙ ap (λ (n : Meanings). (share n.quantities lines (owns c.args.i) c.args.product).verdict) (sym c.places-places.ensures) in
    let verdicts = same_verdicts c.curve_conduct.ensures c.impact.ensures resource c.entity_quantity.ensures c.quantity_impact.ensures in
    same_found m lines (owns c.args.i) c.args.product _ _ _ verdicts c.charge.ensures.value ∙ ap (λ n. finding n lines owns c.args.product c.args.i) c.places-places.ensures
