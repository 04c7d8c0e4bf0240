-- The twelve worked figures in one list, and that each holds by the rules alone.
use Rattle.std.specs.Prelude.{◌≡◌, ℕ, true, false, List, [], ◌∷◌, ℤ, pos, negsuc, Some, None, Option}
use Rattle.curves.specs.declared.step.Step.{Step}
use Rattle.curves.specs.Steps.{step}
use Rattle.vocabulary.specs.declared.condition.Condition.TheVariants.{Broad, Narrow}
use Rattle.vocabulary.specs.declared.verdict.Verdict.TheVariants.{NotTested, Passed, Failed}
use Rattle.worked.specs.declared.hour.Steps.{Steps}
use Rattle.worked.specs.declared.bound_figure.Asked.{Asked}
use Rattle.worked.specs.declared.bound_figure.Asked.TheVariants.{Ceiling, Exemption, Shortfall}
use Rattle.worked.specs.declared.quantity_figure.Held.{Held}
use Rattle.worked.specs.declared.quantity_figure.QuantityFigure.{QuantityFigure}
use Rattle.worked.specs.declared.list.Figure.{Figure}
use Rattle.worked.specs.declared.list.Figure.TheVariants.{Bound, Curve, Quantity}
use Rattle.worked.specs.Hours.{terms}
use Rattle.worked.specs.BoundFigures.{holds}
use Rattle.worked.specs.CurveFigures.{CurveHolds}
use Rattle.worked.specs.QuantityFigures.{QuantityHolds}

-- money is in cents, quantities in tenths of a megawatt, charges in twentieths of a cent

abbrev bound : Asked → ℕ → ℕ → ℤ → ℤ → ℤ → ℤ → Figure
bound asked percent limit floor reference passes fails =
    Bound (record { asked = asked; percent = percent; «cap» = limit; floor = floor; reference = reference; passes = passes; fails = fails })

abbrev steps4 : Step → Step → Step → Step → ℕ → Steps
steps4 a b c d count = record { list = a ∷ b ∷ c ∷ d ∷ []; count = count }

abbrev to : ℕ → ℕ → Step
to price end = step (pos price) end

abbrev none : Step
none = to 0 0

-- $19, $35, $40 and $800, the last to q; its reference $5, $15 and $45, the last to q
abbrev pub offer : ℕ → Steps
offer q = steps4 (to 1900 500) (to 3500 750) (to 4000 1200) (to 80000 q) 4

abbrev pub reference : ℕ → Steps
reference q = steps4 (to 500 500) (to 1500 1000) (to 4500 q) none 3

-- only the last step fails
abbrev pub curve : ℕ → Option ℤ → Option ℤ → Steps → Figure
curve q as-offered at-reference becomes =
    Curve (record { offer = offer q; reference = reference 1500; as_offered = as-offered; reference_level = at-reference; passes = true ∷ true ∷ true ∷ false ∷ []; becomes = becomes })

abbrev held : Steps → Option ℕ → ℕ → Held
held offer reference owes = record { offer = offer; reference = reference; owes = owes }

-- 75 MW offered of 90 in a broad constrained area
abbrev pub one_alone : QuantityFigure
one_alone = record {
  condition = Broad;
  set = 4;
  impact = terms 100 5000;
  alone = terms 10 100000;
  together = None;
  entity = 0;
  first = held (steps4 (to 3000 500) (to 4000 600) (to 5000 750) none 3) (Some 900) 8100000;
  second = held (steps4 none none none none 0) None 0;
  as_offered = pos 18000;
  reference_quantity = pos 7000;
  resource_verdict = Failed;
  entity_verdict = NotTested;
}

-- 217 of 220 and 87 of 90 MW, sisters in a narrow constrained area
abbrev pub two_sisters : QuantityFigure
two_sisters = record {
  condition = Narrow;
  set = 1;
  impact = terms 50 2500;
  alone = terms 10 50;
  together = Some (terms 10 50);
  entity = 1;
  first = held (steps4 (to 3000 2170) none none none 1) (Some 2200) 1620000;
  second = held (steps4 (to 3000 870) none none none 1) (Some 900) 1620000;
  as_offered = pos 18000;
  reference_quantity = pos 7000;
  resource_verdict = Passed;
  entity_verdict = Failed;
}

abbrev pub figures : List Figure
figures =
    bound Ceiling 300 10000 (pos 0) (pos 500) (pos 2000) (pos 2001) ∷
    bound Ceiling 300 10000 (pos 0) (pos 4500) (pos 14500) (pos 14501) ∷
    bound Ceiling 50 2500 (pos 0) (pos 700) (pos 1050) (pos 1100) ∷
    bound Ceiling 50 2500 (pos 0) (negsuc 1999) (negsuc 1999) (negsuc 1998) ∷
    bound Exemption 50 2500 (pos 500) (pos 100) (pos 499) (pos 500) ∷
    curve 1500 None None (offer 1500) ∷
    curve 1500 (Some (pos 80000)) (Some (pos 4500)) (reference 1500) ∷
    curve 1500 (Some (pos 9000)) (Some (pos 4500)) (offer 1500) ∷
    curve 2000 (Some (pos 80000)) (Some (pos 4500)) (reference 2000) ∷
    bound Shortfall 10 100 (pos 0) (pos 900) (pos 810) (pos 809) ∷
    Quantity one_alone ∷
    Quantity two_sisters ∷
    []

abbrev pub Holds : Figure → Type 0
Holds (Bound f) = holds f ≡ true
Holds (Curve f) = CurveHolds f
Holds (Quantity f) = QuantityHolds f

abbrev EachHolds : List Figure → Type 0
EachHolds [] = Unit {0}
EachHolds (f ∷ rest) = Holds f × EachHolds rest

abbrev pub AllHold : Type 0
AllHold = EachHolds figures
