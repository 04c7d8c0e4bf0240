-- The conduct of an offer curve against its reference curve.
use Rattle.std.specs.Prelude.{ℕ, ◌+◌, ◌-◌, Bool, cond, List, [], ◌∷◌, ℤ}
use Rattle.std.specs.List.{list_all}
use Rattle.curves.specs.declared.step.Step.{Step}
use Rattle.curves.specs.Steps.{price_at}

-- a step is held against the reference price where it ends; ask takes reference and value
abbrev pub step_passes : (ℤ → ℤ → Bool) → List Step → Step → Bool
step_passes ask reference s = ask (price_at reference s.end) s.price

abbrev pub all_pass : (ℤ → ℤ → Bool) → List Step → List Step → Bool
all_pass ask reference = list_all (step_passes ask reference)

-- the widths of the steps that fail, added up; e is where the step before ends
abbrev pub failed_widths : (ℤ → ℤ → Bool) → List Step → ℕ → List Step → ℕ
failed_widths ask reference e [] = 0
failed_widths ask reference e (s ∷ rest) =
    cond (step_passes ask reference s) 0 (s.end - e) + failed_widths ask reference s.end rest
