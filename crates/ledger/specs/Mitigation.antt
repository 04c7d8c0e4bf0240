-- The slots with mitigated offers in place of offers, and the file drawn from them.
use Rattle.std.specs.Prelude.{ℕ, Bool, cond, List, Option, ◌==◌}
use Rattle.std.specs.Option.{option_map}
use Rattle.vocabulary.specs.declared.parameter.Parameter.{Parameter}
use Rattle.vocabulary.specs.declared.parameter.Parameter.TheVariants.{Curve, Amount}
use Rattle.vocabulary.specs.Orders.{parameter_at}
use Rattle.vocabulary.specs.Readings.{Lines, Own}
use Rattle.verdicts.specs.Mitigation.{curve_substituted, amount_substituted, mitigated_curve, mitigated_amount}
use Rattle.charges.specs.Findings.{Meanings}
use Rattle.bodies.specs.Numbers.{number_bytes}
use Rattle.bodies.specs.Curves.{curve_bytes}
use Rattle.entries.specs.Table.{kinds}
use Rattle.ledger.specs.Slots.{Slots, entry_file}
use Rattle.ledger.specs.Views.{Holding, slots_from}
use Rattle.ledger.specs.Readings.{held, lines, own}

-- the rules, parameter by parameter
abbrev pub substituted : Meanings → Lines → Own → Parameter → Bool
substituted m lines o (Curve product) = curve_substituted m.curves m.impacts lines o product
substituted m lines o (Amount amount) = amount_substituted m.amounts m.impacts m.quantities lines o amount

abbrev pub mitigated_bytes : Meanings → Lines → Own → Parameter → Option (List ℕ)
mitigated_bytes m lines o (Curve product) = option_map curve_bytes (mitigated_curve m.curves m.impacts lines o product)
mitigated_bytes m lines o (Amount amount) = option_map number_bytes (mitigated_amount m.amounts m.impacts m.quantities lines o amount)

-- the bytes of the mitigated value where the offer is substituted, else its body as it is
abbrev pub mitigated_body : Meanings → Lines → Own → Parameter → Option (List ℕ) → Option (List ℕ)
mitigated_body m lines o parameter body = cond (substituted m lines o parameter) (mitigated_bytes m lines o parameter) body

-- offers are of kind 3; every other slot stays
abbrev pub mitigated_held : Meanings → Slots → Holding
mitigated_held m s h = cond (h.kind == 3) (mitigated_body m (lines s) (own s h.first) (parameter_at h.sub) (held s h)) (held s h)

unfoldable pub mitigated : Meanings → Slots → Slots
mitigated m s = slots_from (mitigated_held m s)

abbrev pub mitigated_file : Meanings → Slots → List ℕ
mitigated_file m s = entry_file kinds (mitigated m s)
