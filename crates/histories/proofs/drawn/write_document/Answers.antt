use Rattle.std.proofs.Common.{◌≤◌, length, sym, ap, subst}
use Rattle.ledger.specs.Mitigation.{mitigated}
use Rattle.ledger.proofs.Bounding.{bounded}
use Rattle.ledger.proofs.Mitigating.{mitigates}
use Rattle.table.specs.Tables.{slots_of}
use Rattle.histories.specs.Documents.{drawn}
use Rattle.histories.proofs.drawn.write_document.Goals as goal

pub returns-in-Entries-clause-most : goal.returns-in-Entries-clause-most
returns-in-Entries-clause-most g c =
    let m = g.R.Rules.meanings c.args.book.now.rules in
    let s = slots_of c.args.book.now.table in
    let is = ap (λ d. drawn d m s) (sym c.in-Entries.is) in
    subst (λ f. length f ≤ 31319) is (bounded s c.requires.well)

pub returns-in-Mitigated-clause-most : goal.returns-in-Mitigated-clause-most
returns-in-Mitigated-clause-most g c =
    let m = g.R.Rules.meanings c.args.book.now.rules in
    let s = slots_of c.args.book.now.table in
    let is = ap (λ d. drawn d m s) (sym c.in-Mitigated.is) in
    let keeps = g.met.R.Rules.lawful c.args.book.now.rules in
    subst (λ f. length f ≤ 31319) is (bounded (mitigated m s) (mitigates m keeps s c.requires.well).well_formed)
