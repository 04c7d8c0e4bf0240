-- Figures on output that is held back.
use Rattle.std.specs.Prelude.{◌≡◌, ℕ, ◌+◌, ◌*◌, List, [], ◌∷◌, replicate, Some, None, Option, slice_set}
use Rattle.curves.specs.Rows.{empty_row}
use Rattle.vocabulary.specs.declared.lines.Terms.{Terms}
use Rattle.vocabulary.specs.declared.product.Product.TheVariants.{Energy}
use Rattle.vocabulary.specs.declared.resource.Resource.{Resource}
use Rattle.vocabulary.specs.Numbers.{condition_number}
use Rattle.vocabulary.specs.Readings.{lines_of}
use Rattle.vocabulary.specs.Empty.{empty_resource}
use Rattle.charges.specs.declared.finding.Finding.{Finding}
use Rattle.charges.specs.Tables.{owns_of}
use Rattle.charges.specs.Findings.{finding}
use Rattle.worked.specs.declared.quantity_figure.Held.{Held}
use Rattle.worked.specs.declared.quantity_figure.QuantityFigure.{QuantityFigure}
use Rattle.worked.specs.Hours.{row_of, standing, energy_resource, market}

abbrev base : QuantityFigure → ℕ
base f = 10 * condition_number f.condition

abbrev pub lines : QuantityFigure → List (Option Terms)
lines f = slice_set (slice_set (slice_set (replicate 50 None) (base f + 6) (Some f.impact)) (base f + 8) (Some f.alone)) (base f + 9) f.together

abbrev pub resource : QuantityFigure → Held → Resource
resource f held =
    energy_resource (standing f.entity f.set) (row_of held.offer) empty_row held.reference (Some f.as_offered ∷ None ∷ Some f.reference_quantity ∷ [])

abbrev pub table : QuantityFigure → List Resource
table f = slice_set (slice_set (replicate 32 empty_resource) 0 (resource f f.first)) 1 (resource f f.second)

abbrev pub found_of : QuantityFigure → ℕ → Finding
found_of f i = finding market (lines_of (lines f)) (owns_of (table f)) Energy i

abbrev pub found : QuantityFigure → List Finding
found f = found_of f 0 ∷ found_of f 1 ∷ []

pub record QuantityHolds (f : QuantityFigure) : Type 0 where
  pub resource : (found_of f 0).verdicts.resource ≡ f.resource_verdict
  pub entity : (found_of f 0).verdicts.entity ≡ f.entity_verdict
  pub first : (found_of f 0).charge ≡ f.first.owes
  pub second : (found_of f 1).charge ≡ f.second.owes
