-- The verdicts on one resource, from what its records say and the meanings of the bounds.
use Rattle.std.specs.Prelude.{ℕ, List, pos, Some, None, Option}
use Rattle.std.specs.Option.{option_map}
use Rattle.bounds.specs.declared.line.Line.{Line}
use Rattle.bounds.specs.Meanings.{Meaning}
use Rattle.curves.specs.declared.step.Step.{Step}
use Rattle.curves.specs.Steps.{last_end}
use Rattle.kinds.specs.Conduct.{all_pass}
use Rattle.kinds.specs.Judged.{judged}
use Rattle.vocabulary.specs.declared.product.Product.{Product}
use Rattle.vocabulary.specs.declared.product.Product.TheVariants.{Energy}
use Rattle.vocabulary.specs.declared.amount.Amount.{Amount}
use Rattle.vocabulary.specs.declared.amount.Amount.TheVariants.{StartUp, SpeedNoLoad, RunTime, RampRate}
use Rattle.vocabulary.specs.declared.test.Test.TheVariants.{ResourceQuantity}
use Rattle.vocabulary.specs.declared.run.Run.{Run}
use Rattle.vocabulary.specs.declared.run.Run.TheVariants.{AsOffered, ReferenceLevel, ReferenceQuantity as AtReferenceQuantity}
use Rattle.vocabulary.specs.declared.verdict.Verdict.{Verdict}
use Rattle.vocabulary.specs.Tests.{curve_test, impact_test, amount_test}
use Rattle.vocabulary.specs.Readings.{Lines, Own, line_under}
use Rattle.vocabulary.specs.Conditions.{condition_in_force, outside_zones}

-- an offer curve passes where each of its steps does
abbrev pub curve_conduct : Meaning → Lines → Own → Product → Verdict
curve_conduct curves lines o product =
    judged (λ line. all_pass (curves line)) (line_under lines (condition_in_force o product) (curve_test product)) (o.reference.curve product) (o.offer.curve product)

-- a ramp rate is asked of the bound for quantities, the other amounts of the bound for amounts
abbrev pub amount_meaning : Meaning → Meaning → Amount → Meaning
amount_meaning amounts quantities StartUp = amounts
amount_meaning amounts quantities SpeedNoLoad = amounts
amount_meaning amounts quantities RunTime = amounts
amount_meaning amounts quantities RampRate = quantities

abbrev pub amount_conduct : Meaning → Meaning → Lines → Own → Amount → Verdict
amount_conduct amounts quantities lines o amount =
    judged (amount_meaning amounts quantities amount) (line_under lines (condition_in_force o Energy) (amount_test amount)) (o.reference.amount amount) (o.offer.amount amount)

-- the as-offered price against that of another run
abbrev pub price_impact : Meaning → Option Line → Own → Product → Run → Verdict
price_impact impact line o product run = judged impact line (o.price product run) (o.price product AsOffered)

abbrev pub impact : Meaning → Lines → Own → Product → Verdict
impact impacts lines o product =
    price_impact impacts (line_under lines (condition_in_force o product) (impact_test product)) o product ReferenceLevel

-- not tested in an uncompetitive intertie zone
abbrev pub quantity_impact : Meaning → Lines → Own → Product → Verdict
quantity_impact impacts lines o product =
    price_impact impacts (line_under lines (outside_zones (condition_in_force o product)) (impact_test product)) o product AtReferenceQuantity

abbrev pub end_of_offer : Option (List Step) → ℕ
end_of_offer None = 0
end_of_offer (Some steps) = last_end steps

-- the offered quantity: where the offer's last step ends, 0 without an offer
abbrev pub offered : Own → Product → ℕ
offered o product = end_of_offer (o.offer.curve product)

-- not tested in an uncompetitive intertie zone
abbrev pub resource_quantity : Meaning → Lines → Own → Product → Verdict
resource_quantity quantities lines o product =
    judged quantities (line_under lines (outside_zones (condition_in_force o product)) ResourceQuantity) (option_map pos (o.quantity product)) (Some (pos (offered o product)))
