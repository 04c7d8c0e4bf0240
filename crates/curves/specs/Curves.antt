-- The steps that a curve says.
use Rattle.std.specs.Prelude.{List, take}
use Rattle.curves.specs.declared.step.Step.{Step}
use Rattle.curves.specs.declared.curve.Curve.{Curve}

abbrev pub steps_of : Curve → List Step
steps_of c = take c.count c.steps
