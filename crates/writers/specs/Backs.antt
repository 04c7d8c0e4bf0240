-- What is written for a value reads as that value, with the value's own fault.
use Rattle.std.specs.Prelude.{◌≡◌, ℕ, true, List, ℤ, pos, nat_le}
use Rattle.bounds.specs.Ranges.{in_price_range}
use Rattle.curves.specs.declared.step.Step.{Step}
use Rattle.vocabulary.specs.declared.lines.Terms.{Terms}
use Rattle.vocabulary.specs.declared.standing.Standing.{Standing}
use Rattle.bodies.specs.Numbers.{word, number, word_bytes, number_bytes}
use Rattle.bodies.specs.Curves.{curve_steps, curve_bytes, all_in_range, steps_fault}
use Rattle.bodies.specs.Bodies.{unless_in_range, between, terms_of, terms_bytes, in_terms_range, line_fault, standing_of, standing_bytes, in_standing_range, standing_fault, most_steps, curve_fault, most_amount, amount_fault, quantity_fault, price_fault}

pub record LineBack (test : ℕ) (t : Terms) : Type 0 where
  pub value : terms_of (terms_bytes t) ≡ t
  pub fault : line_fault test (terms_bytes t) ≡ unless_in_range (in_terms_range test t)

pub record StandingBack (s : Standing) : Type 0 where
  pub value : standing_of (standing_bytes s) ≡ s
  pub fault : standing_fault (standing_bytes s) ≡ unless_in_range (in_standing_range s)

-- as an amount of any parameter, and as a price
pub record NumberBack (z : ℤ) : Type 0 where
  pub value : number (number_bytes z) ≡ z
  pub amount : (parameter : ℕ) → amount_fault parameter (number_bytes z) ≡ unless_in_range (between (pos 0) (most_amount parameter) z)
  pub price : price_fault (number_bytes z) ≡ unless_in_range (in_price_range z)

pub record QuantityBack (n : ℕ) : Type 0 where
  pub value : word (word_bytes n) ≡ n
  pub fault : quantity_fault (word_bytes n) ≡ unless_in_range (nat_le n 100000)

-- steps with each number in its range
pub record CurveBack (parameter : ℕ) (steps : List Step) : Type 0 where
  pub value : all_in_range steps ≡ true → curve_steps (curve_bytes steps) ≡ steps
  pub fault : all_in_range steps ≡ true → curve_fault parameter (curve_bytes steps) ≡ steps_fault (most_steps parameter) steps
