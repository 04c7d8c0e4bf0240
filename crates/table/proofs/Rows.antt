-- A row that a curve's body was read into holds that curve.
use Rattle.std.proofs.Common.{◌≡◌, ℕ, ◌%◌, ◌<◌, ◌≤◌, Bool, true, false, cond, ◌&&◌, eqb, leb, List, [], ◌∷◌, length, Some, None, refl, ap, ◌∙◌, arith}
use Rattle.std.proofs.lemmas.Bool.{cond-true, and_parts, and_from, le-leb, leb-true}
use Rattle.std.specs.Option.{option_map}
use Rattle.bounds.specs.Ranges.{in_price_range}
use Rattle.curves.specs.declared.row.Row.{Row}
use Rattle.curves.specs.declared.step.Step.{Step}
use Rattle.curves.specs.Rows.{row_steps, holds_curve, curve_in}
use Rattle.curves.specs.Steps.{in_order, end_after, last_end}
use Rattle.bodies.specs.Bodies.{most_steps, curve_fault}
use Rattle.bodies.specs.Curves.{curve_steps, curve_bytes, in_step_range, all_in_range, steps_fault, Holds}
use Rattle.bodies.proofs.Stepping.{most_few}
use Rattle.table.specs.Ranges.{row_ranged}

pub record FaultFree (most : ℕ) (ss : List Step) : Type 0 where
  pub some : 1 ≤ length ss
  pub few : length ss ≤ most
  pub ranged : all_in_range ss ≡ true
  pub ordered : in_order ss ≡ true

-- a number chosen by a test is 0 only where the test holds
chosen : (b : Bool) (n m : ℕ) → cond b n m ≡ 0 → 0 < m → (b ≡ true) × (n ≡ 0)
chosen true n m e h = (refl, e)
chosen false n m e h = absurd (omega arith)

pub fault_free : (most : ℕ) (ss : List Step) → steps_fault most ss ≡ 0 → FaultFree most ss
fault_free most ss e =
    let outer = chosen (leb 1 (length ss) && (leb (length ss) most && all_in_range ss)) _ 6 e (omega arith) in
    let a = and_parts (leb 1 (length ss)) _ outer.0 in
    let b = and_parts (leb (length ss) most) _ a.1 in
    record {
      some = leb-true _ _ a.0;
      few = leb-true _ _ b.0;
      ranged = b.1;
      ordered = (chosen (in_order ss) 0 7 outer.1 (omega arith)).0;
    }

-- the last end of steps in range
end_small : (e : ℕ) (ss : List Step) → e ≤ 100000 → all_in_range ss ≡ true → end_after e ss ≤ 100000
end_small e [] h r = h
end_small e (s ∷ rest) h r =
    let parts = and_parts (in_step_range s) (all_in_range rest) r in
    let ends = (and_parts (in_price_range s.price) _ parts.0).1 in
    end_small s.end rest (leb-true _ _ (and_parts (leb 1 s.end) (leb s.end 100000) ends).1) parts.1

module _ (parameter : ℕ) (body : List ℕ) (row : Row) (clean : curve_fault parameter body ≡ 0) (held : Holds body row) where
  free : FaultFree (most_steps parameter) (curve_steps body)
  free = fault_free _ _ (chosen (eqb (length body % 8) 0) _ 5 clean (omega arith)).1

  holds_it : holds_curve (most_steps parameter) row ≡ true
  holds_it =
      let f = free in
      let count = held.count in
      let few = most_few parameter in
      and_from _ _
      (and_from _ _ (and_from _ _ (le-leb 1 row.count (omega arith)) (le-leb row.count (most_steps parameter) (omega arith))) (le-leb (most_steps parameter) 20 few))
      (and_from _ _ (ap (λ ss. leb (last_end ss) 100000) held.steps ∙ le-leb _ _ (end_small 0 (curve_steps body) (omega arith) f.ranged)) held.ordered)

  pub row_held : option_map curve_bytes (curve_in (most_steps parameter) row) ≡ Some body
  row_held = ap (option_map curve_bytes) (cond-true _ (Some (row_steps row)) None holds_it) ∙ ap Some held.again

  pub row_ranged_of : row_ranged row ≡ true
  row_ranged_of = ap all_in_range held.steps ∙ free.ranged
