-- Figures on an energy offer in a broad constrained area.
use Rattle.std.specs.Prelude.{◌≡◌, Bool, List, [], ◌∷◌, map, take, replicate, Some, None, Option, slice_set}
use Rattle.bounds.specs.declared.line.Line.{Line}
use Rattle.curves.specs.declared.step.Step.{Step}
use Rattle.curves.specs.Rows.{curve_in}
use Rattle.kinds.specs.Conduct.{step_passes}
use Rattle.vocabulary.specs.declared.lines.Terms.{Terms}
use Rattle.vocabulary.specs.declared.condition.Condition.TheVariants.{Broad}
use Rattle.vocabulary.specs.declared.product.Product.TheVariants.{Energy}
use Rattle.vocabulary.specs.declared.test.Test.TheVariants.{EnergyCurve}
use Rattle.vocabulary.specs.declared.resource.Resource.{Resource}
use Rattle.vocabulary.specs.Readings.{lines_of, own_of}
use Rattle.verdicts.specs.Mitigation.{mitigated_curve}
use Rattle.worked.specs.declared.curve_figure.CurveFigure.{CurveFigure}
use Rattle.worked.specs.Hours.{row_of, terms, standing, energy_resource, market}

-- energy curves at 300 percent and $100, energy impact at 100 percent and $50
abbrev pub lines : List (Option Terms)
lines = slice_set (slice_set (replicate 50 None) 20 (Some (terms 300 10000))) 26 (Some (terms 100 5000))

abbrev pub resource : CurveFigure → Resource
resource f = energy_resource (standing 0 4) (row_of f.offer) (row_of f.reference) None (f.as_offered ∷ f.reference_level ∷ None ∷ [])

abbrev pub passes_beside : Option Line → Option (List Step) → Step → Option Bool
passes_beside None reference s = None
passes_beside (Some line) None s = None
passes_beside (Some line) (Some reference) s = Some (step_passes (market.curves line) reference s)

-- whether a step passes
abbrev pub passes : CurveFigure → Step → Option Bool
passes f s = passes_beside (lines_of lines Broad EnergyCurve) (curve_in 20 (row_of f.reference)) s

-- what the offer becomes
abbrev pub becomes : CurveFigure → Option (List Step)
becomes f = mitigated_curve market.curves market.impacts (lines_of lines) (own_of (resource f)) Energy

pub record CurveHolds (f : CurveFigure) : Type 0 where
  pub steps : map (passes f) f.offer.list ≡ map Some f.passes
  pub offer : becomes f ≡ Some (take f.becomes.count f.becomes.list)
