use Rattle.std.proofs.Common.{◌<◌, leb, Some, None, ap, ◌∙◌, arith, w32, SFits, rules}
use Rattle.std.proofs.lemmas.Int.{to_z-of_z}
use Rattle.std.proofs.lemmas.Bool.{cond-true, eq-eqb}
use Rattle.std.proofs.lemmas.Grind.{common_steps}
use Rattle.bounds.specs.Ranges.{in_price_range}
use Rattle.bodies.specs.Bodies.{remark_fault}
use Rattle.bodies.specs.Numbers.{number_bytes}
use Rattle.entries.specs.Entries.{raw_of}
use Rattle.ledger.proofs.Bodies.{sized_none, inside}
use Rattle.table.proofs.Records.{standing_changed, offer_changed, reference_changed, quantity_changed, price_changed, remark_changed, changes_by}
use Rattle.table.proofs.record.take.Goals as goal

pub returns-in-Ok : goal.returns-in-Ok
returns-in-Ok c = changes_by _ _ (ap raw_of c.in-Standing.is) (standing_changed c.args.resource.now (Some c.in-Ok.standing) _ (ap Some c.in-Ok.ensures.1.1))

pub returns-in-Offer : goal.returns-in-Offer
returns-in-Offer c = changes_by _ _ (ap raw_of c.in-Offer.is) (offer_changed c.args.resource.now c.in-Offer.parameter _ _ c.take_parameter.ensures)

pub returns-in-Reference : goal.returns-in-Reference
returns-in-Reference c = changes_by _ _ (ap raw_of c.in-Reference.is) (reference_changed c.args.resource.now c.in-Reference.parameter _ _ c.take_parameter-in-Reference.ensures)

pub returns-in-Ok-read_quantity : goal.returns-in-Ok-read_quantity
returns-in-Ok-read_quantity c =
    let h = c.in-Ok-read_quantity.ensures in
    let few : c.in-Quantity.product < 4 = grind (arith, common_steps) in
    changes_by _ _ (ap raw_of c.in-Quantity.is) (quantity_changed c.args.resource.now c.in-Quantity.product _ (Some c.in-Ok-read_quantity.quantity) (omega arith) (ap Some h.1.1)
    (ap (λ n. leb n 100000) h.1.0 ∙ inside _ (sized_none 4 c.in-Quantity.body.now _ h.0)))

pub returns-in-Ok-read_price : goal.returns-in-Ok-read_price
returns-in-Ok-read_price c =
    let f : SFits w32 c.in-Ok-read_price.price = search rules in
    let same = to_z-of_z w32 c.in-Ok-read_price.price f in
    let h = c.in-Ok-read_price.ensures.1 in
    let bytes = ap number_bytes same ∙ h.1 in
    let few : c.in-Price.run' < 12 = grind (arith, common_steps) in
    changes_by _ _ (ap raw_of c.in-Price.is) (price_changed c.args.resource.now c.in-Price.run' _ _ (omega arith) (ap Some bytes) (ap in_price_range (same ∙ h.0) ∙ inside _ (sized_none 4 c.in-Price.body.now _ c.in-Ok-read_price.ensures.0)))

pub returns-in-Ok-read_remark : goal.returns-in-Ok-read_remark
returns-in-Ok-read_remark c =
    let h = c.in-Ok-read_remark.ensures in
    changes_by _ _ (ap raw_of c.in-Remark.is) (remark_changed c.args.resource.now c.in-Ok-read_remark.remark _ (cond-true _ _ None (eq-eqb _ 0 (ap remark_fault h.1.1 ∙ h.0)) ∙ ap Some h.1.1))
