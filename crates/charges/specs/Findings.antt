-- All that is found of one product of one resource.
use Rattle.std.specs.Prelude.{ℕ, Bool, cond, ◌&&◌, ◌||◌}
use Rattle.bounds.specs.Meanings.{Meaning}
use Rattle.vocabulary.specs.declared.product.Product.{Product}
use Rattle.vocabulary.specs.declared.verdict.Verdict.{Verdict}
use Rattle.vocabulary.specs.Verdicts.{failed}
use Rattle.vocabulary.specs.Readings.{Lines, Own}
use Rattle.vocabulary.specs.Conditions.{condition_in_force, in_zone}
use Rattle.verdicts.specs.declared.places.Places.{Places}
use Rattle.verdicts.specs.Rules.{curve_conduct, impact, quantity_impact, resource_quantity}
use Rattle.charges.specs.declared.finding.Verdicts.{Verdicts}
use Rattle.charges.specs.declared.finding.Finding.{Finding}
use Rattle.charges.specs.Tables.{Owns}
use Rattle.charges.specs.Groups.{entity_quantity}
use Rattle.charges.specs.Charges.{shortage_charge, width_charge}

-- the meanings of the bounds in the four places
pub record Meanings : Type 0 where
  pub curves : Meaning
  pub amounts : Meaning
  pub impacts : Meaning
  pub quantities : Meaning

-- each bound's type has its own meaning
abbrev pub meant_by : {C A I Q : Type 0} → (C → Meaning) → (A → Meaning) → (I → Meaning) → (Q → Meaning) → Places C A I Q → Meanings
meant_by c a i q places = record {
  curves = c places.curves.bound;
  amounts = a places.amounts.bound;
  impacts = i places.impact.bound;
  quantities = q places.quantities.bound;
}

-- a quantity verdict and the quantity impact fail
abbrev pub held_back : Verdicts → Bool
held_back v = (failed v.resource || failed v.entity) && failed v.quantity_impact

-- the curve's conduct and the impact fail
abbrev pub overpriced : Verdicts → Bool
overpriced v = failed v.conduct && failed v.impact

-- a shortage is charged where output is held back, failed steps in uncompetitive intertie zones
abbrev pub charge : Meaning → Lines → Own → Product → Verdicts → ℕ
charge curves lines o product v =
    cond (held_back v) (shortage_charge o product) (
    cond (in_zone (condition_in_force o product) && overpriced v) (width_charge curves lines o product) 0)

-- from the resource's own records and its entity verdict
abbrev pub verdicts_of : Meanings → Lines → Own → Product → Verdict → Verdicts
verdicts_of m lines o product entity = record {
  conduct = curve_conduct m.curves lines o product;
  impact = impact m.impacts lines o product;
  resource = resource_quantity m.quantities lines o product;
  entity = entity;
  quantity_impact = quantity_impact m.impacts lines o product;
}

abbrev pub found : Meanings → Lines → Own → Product → Verdicts → Finding
found m lines o product v = record { verdicts = v; charge = charge m.curves lines o product v }

unfoldable pub finding : Meanings → Lines → Owns → Product → ℕ → Finding
finding m lines owns product i =
    found m lines (owns i) product (verdicts_of m lines (owns i) product (entity_quantity m.quantities lines owns product i))
