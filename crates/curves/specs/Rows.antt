-- The curve that a row of the table holds.
use Rattle.std.specs.Prelude.{ℕ, Bool, cond, ◌&&◌, List, take, replicate, pos, Some, None, Option, nat_le}
use Rattle.curves.specs.declared.step.Step.{Step}
use Rattle.curves.specs.declared.row.Row.{Row}
use Rattle.curves.specs.Steps.{step, in_order, last_end}

abbrev pub empty_row : Row
empty_row = record { steps = replicate 20 (step (pos 0) 0); count = 0 }

abbrev pub row_steps : Row → List Step
row_steps row = take row.count row.steps

-- from 1 to limit steps, of at most 20, in order, the last ending at no more than 10,000 MW
abbrev pub holds_curve : ℕ → Row → Bool
holds_curve limit row =
    (nat_le 1 row.count && nat_le row.count limit && nat_le limit 20) && (nat_le (last_end (row_steps row)) 100000 && in_order (row_steps row))

abbrev pub curve_in : ℕ → Row → Option (List Step)
curve_in limit row = cond (holds_curve limit row) (Some (row_steps row)) None
