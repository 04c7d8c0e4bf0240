-- Figures that ask a bound about two values.
use Rattle.std.specs.Prelude.{Bool, true, false, not, ◌&&◌, ℤ, Some, None, Option}
use Rattle.std.specs.Option.{option_map}
use Rattle.bounds.specs.Lines.{line_of}
use Rattle.bounds.specs.Meanings.{Meaning, ceiling_passes, shortfall_passes, exempt_passes}
use Rattle.worked.specs.declared.bound_figure.BoundFigure.{BoundFigure}
use Rattle.worked.specs.declared.bound_figure.Asked.{Asked}
use Rattle.worked.specs.declared.bound_figure.Asked.TheVariants.{Ceiling, Exemption, Shortfall}

abbrev pub meaning_of : Asked → Meaning
meaning_of Ceiling = ceiling_passes
meaning_of Exemption = exempt_passes ceiling_passes
meaning_of Shortfall = shortfall_passes

-- whether a value passes, where the figure's line is in range
abbrev pub answered : BoundFigure → ℤ → Option Bool
answered f value = option_map (λ line. meaning_of f.asked line f.reference value) (line_of f.percent f.«cap» f.floor)

abbrev says : Option Bool → Bool → Bool
says None _ = false
says (Some true) b = b
says (Some false) b = not b

-- the one value passes and the other fails
abbrev pub holds : BoundFigure → Bool
holds f = says (answered f f.passes) true && says (answered f f.fails) false
