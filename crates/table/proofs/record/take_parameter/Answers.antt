use Rattle.std.proofs.Common.{Some, ap, ◌∙◌, arith, w32, SFits, rules}
use Rattle.std.proofs.lemmas.Int.{to_z-of_z}
use Rattle.bodies.specs.Numbers.{number, number_bytes}
use Rattle.ledger.proofs.Bodies.{sized_none, inside}
use Rattle.table.specs.Ranges.{amount_ranged}
use Rattle.table.proofs.Keeping.{amount_fits}
use Rattle.table.proofs.Records.{curve_changed, amount_changed}
use Rattle.table.proofs.Rows.{row_held, row_ranged_of}
use Rattle.table.proofs.record.take_parameter.Goals as goal

pub returns-in-Ok : goal.returns-in-Ok
returns-in-Ok c =
    let h = c.in-Ok.ensures in
    curve_changed c.args.values.now c.args.parameter _ c.in-Ok.row (omega arith) (omega arith) (row_held c.args.parameter c.args.body.now c.in-Ok.row h.0 h.1)
    (row_ranged_of c.args.parameter c.args.body.now c.in-Ok.row h.0 h.1)

pub returns-in-Ok-read_amount : goal.returns-in-Ok-read_amount
returns-in-Ok-read_amount c =
    let f : SFits w32 c.in-Ok-read_amount.amount = search rules in
    let same = to_z-of_z w32 c.in-Ok-read_amount.amount f in
    let h = c.in-Ok-read_amount.ensures.1 in
    let bytes = ap number_bytes same ∙ h.1 in
    amount_changed c.args.values.now c.args.parameter _ _ (omega arith) (omega arith) (ap Some bytes) (ap (λ z. amount_ranged (Some z)) (same ∙ h.0) ∙ amount_fits c.args.parameter (number c.args.body.now) (inside _ (sized_none 4 c.args.body.now _ c.in-Ok-read_amount.ensures.0)))
