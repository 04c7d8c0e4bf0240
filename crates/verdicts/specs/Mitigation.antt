-- What an offer becomes, from what its resource's records say and the meanings of the bounds.
use Rattle.std.specs.Prelude.{Bool, ◌&&◌, List, ℤ, is_some, Option}
use Rattle.bounds.specs.Meanings.{Meaning}
use Rattle.curves.specs.declared.step.Step.{Step}
use Rattle.curves.specs.Steps.{last_end, substitute}
use Rattle.kinds.specs.Conduct.{all_pass}
use Rattle.kinds.specs.Judged.{mitigated}
use Rattle.vocabulary.specs.declared.product.Product.{Product}
use Rattle.vocabulary.specs.declared.product.Product.TheVariants.{Energy}
use Rattle.vocabulary.specs.declared.amount.Amount.{Amount}
use Rattle.vocabulary.specs.Verdicts.{failed}
use Rattle.vocabulary.specs.Tests.{curve_test, amount_test}
use Rattle.vocabulary.specs.Readings.{Lines, Own, line_under}
use Rattle.vocabulary.specs.Conditions.{condition_in_force, outside_zones}
use Rattle.verdicts.specs.Rules.{curve_conduct, amount_conduct, impact, amount_meaning}

-- outside uncompetitive intertie zones, where the product's impact fails
abbrev pub replaceable : Meaning → Lines → Own → Product → Bool
replaceable impacts lines o product = is_some (outside_zones (condition_in_force o product)) && failed (impact impacts lines o product)

-- conduct fails, and the product's impact too
abbrev pub curve_substituted : Meaning → Meaning → Lines → Own → Product → Bool
curve_substituted curves impacts lines o product = failed (curve_conduct curves lines o product) && replaceable impacts lines o product

abbrev pub amount_substituted : Meaning → Meaning → Meaning → Lines → Own → Amount → Bool
amount_substituted amounts impacts quantities lines o amount = failed (amount_conduct amounts quantities lines o amount) && replaceable impacts lines o Energy

abbrev pub mitigated_curve : Meaning → Meaning → Lines → Own → Product → Option (List Step)
mitigated_curve curves impacts lines o product =
    mitigated (λ line. all_pass (curves line)) (λ reference offer. substitute reference (last_end offer))
    (line_under lines (condition_in_force o product) (curve_test product)) (replaceable impacts lines o product) (o.reference.curve product) (o.offer.curve product)

abbrev pub mitigated_amount : Meaning → Meaning → Meaning → Lines → Own → Amount → Option ℤ
mitigated_amount amounts impacts quantities lines o amount =
    mitigated (amount_meaning amounts quantities amount) (λ reference offer. reference)
    (line_under lines (condition_in_force o Energy) (amount_test amount)) (replaceable impacts lines o Energy) (o.reference.amount amount) (o.offer.amount amount)
