-- The widths of the steps that fail.
use Rattle.std.proofs.Common.{◌≡◌, ◌+◌, ◌≤◌, Bool, true, List, [], ◌∷◌, ℤ, arith}
use Rattle.curves.specs.declared.step.Step.{Step}
use Rattle.curves.specs.Steps.{rises_on, in_order, end_after, last_end}
use Rattle.kinds.specs.Conduct.{failed_widths}

-- widths that fail are no more than where the steps end
module _ (ask : ℤ → ℤ → Bool) (reference : List Step) where
  widths_after : (last : Step) (xs : List Step) → rises_on last xs ≡ true → failed_widths ask reference last.end xs + last.end ≤ end_after last.end xs
  widths_after last [] f = omega arith
  widths_after last (s ∷ rest) f = grind (arith, widths_after s rest)

  pub widths_small : (xs : List Step) → in_order xs ≡ true → failed_widths ask reference 0 xs ≤ last_end xs
  widths_small [] f = omega arith
  widths_small (s ∷ rest) f = grind (arith, widths_after s rest)
