-- A body that was written for a value reads as that value, with the value's own fault.
use Rattle.std.specs.Prelude.{◌≡◌, ℕ, true, List, ℤ, pos, nat_le}
use Rattle.bounds.specs.Ranges.{in_price_range}
use Rattle.curves.specs.declared.step.Step.{Step}
use Rattle.vocabulary.specs.declared.lines.Terms.{Terms}
use Rattle.vocabulary.specs.declared.standing.Standing.{Standing}
use Rattle.bodies.specs.Numbers.{word, number}
use Rattle.bodies.specs.Curves.{curve_steps, all_in_range, steps_fault}
use Rattle.bodies.specs.Bodies.{unless_in_range, between, terms_of, in_terms_range, line_fault, standing_of, in_standing_range, standing_fault, most_steps, curve_fault, most_amount, amount_fault, quantity_fault, price_fault}

pub record LineReads (test : ℕ) (t : Terms) (body : List ℕ) : Type 0 where
  pub value : terms_of body ≡ t
  pub fault : line_fault test body ≡ unless_in_range (in_terms_range test t)

pub record StandingReads (s : Standing) (body : List ℕ) : Type 0 where
  pub value : standing_of body ≡ s
  pub fault : standing_fault body ≡ unless_in_range (in_standing_range s)

-- as an amount of any parameter, and as a price
pub record NumberReads (z : ℤ) (body : List ℕ) : Type 0 where
  pub value : number body ≡ z
  pub amount : (parameter : ℕ) → amount_fault parameter body ≡ unless_in_range (between (pos 0) (most_amount parameter) z)
  pub price : price_fault body ≡ unless_in_range (in_price_range z)

pub record QuantityReads (n : ℕ) (body : List ℕ) : Type 0 where
  pub value : word body ≡ n
  pub fault : quantity_fault body ≡ unless_in_range (nat_le n 100000)

-- steps with each number in its range
pub record CurveReads (parameter : ℕ) (steps : List Step) (body : List ℕ) : Type 0 where
  pub value : all_in_range steps ≡ true → curve_steps body ≡ steps
  pub fault : all_in_range steps ≡ true → curve_fault parameter body ≡ steps_fault (most_steps parameter) steps
