-- A curve as bytes: its steps, and why it is refused.
use Rattle.std.specs.Prelude.{◌≡◌, ℕ, zero, suc, ◌/◌, Bool, true, cond, ◌&&◌, List, [], ◌∷◌, ◌++◌, length, drop, nat_le}
use Rattle.bounds.specs.Ranges.{in_price_range}
use Rattle.curves.specs.declared.row.Row.{Row}
use Rattle.curves.specs.declared.step.Step.{Step}
use Rattle.curves.specs.Rows.{row_steps}
use Rattle.curves.specs.Steps.{step, in_order}
use Rattle.bodies.specs.Numbers.{word, number, word_bytes, number_bytes}

-- the step in the first eight bytes; its end is read unsigned, since a negative one is out of range either way
abbrev pub step_of : List ℕ → Step
step_of bs = step (number bs) (word (drop 4 bs))

abbrev pub first_steps : ℕ → List ℕ → List Step
first_steps zero bs = []
first_steps (suc n) bs = step_of bs ∷ first_steps n (drop 8 bs)

abbrev pub curve_steps : List ℕ → List Step
curve_steps body = first_steps (length body / 8) body

abbrev pub step_bytes : Step → List ℕ
step_bytes s = number_bytes s.price ++ word_bytes s.end

abbrev pub curve_bytes : List Step → List ℕ
curve_bytes [] = []
curve_bytes (s ∷ rest) = step_bytes s ++ curve_bytes rest

-- a price, and a quantity from 0.1 to 10,000 MW
abbrev pub in_step_range : Step → Bool
in_step_range s = in_price_range s.price && (nat_le 1 s.end && nat_le s.end 100000)

abbrev pub all_in_range : List Step → Bool
all_in_range [] = true
all_in_range (s ∷ rest) = in_step_range s && all_in_range rest

-- faults 6 and 7, or 0, of a curve that may have so many steps
abbrev pub steps_fault : ℕ → List Step → ℕ
steps_fault most steps =
    cond (nat_le 1 (length steps) && (nat_le (length steps) most && all_in_range steps)) (cond (in_order steps) 0 7) 6

-- a row that a body was read into, with no fault
pub record Holds (body : List ℕ) (row : Row) : Type 0 where
  pub count : row.count ≡ length (curve_steps body)
  pub steps : row_steps row ≡ curve_steps body
  pub ordered : in_order (row_steps row) ≡ true
  pub again : curve_bytes (row_steps row) ≡ body
