-- Curves as bytes: read back, and substituted.
use Rattle.std.proofs.Common.{◌≡◌, ℕ, ◌-◌, ◌%◌, ◌≤◌, Bool, true, ◌&&◌, ltb, leb, List, [], ◌∷◌, ◌++◌, length, ℤ, pos, refl, ap, ◌∙◌, arith}
use Rattle.std.proofs.lemmas.List.{length-append}
use Rattle.std.proofs.lemmas.Bool.{and_parts, and_from, cond-true, cond_both, eq-eqb}
use Rattle.bounds.specs.Meanings.{Meaning}
use Rattle.bounds.specs.Ranges.{in_price_range}
use Rattle.curves.specs.declared.step.Step.{Step}
use Rattle.curves.specs.Steps.{step, price_after, price_at, end_after, last_end, kept, substitute}
use Rattle.curves.proofs.Substitutes.{substitute_in_order}
use Rattle.kinds.specs.Conduct.{all_pass}
use Rattle.kinds.specs.Passing.{substitute_passes}
use Rattle.bodies.specs.Curves.{curve_steps, curve_bytes, in_step_range, all_in_range, steps_fault}
use Rattle.bodies.specs.Bodies.{most_steps, curve_fault}
use Rattle.bodies.proofs.Backs.{length_curve, curve_back}
use Rattle.charges.specs.Lawful.{PassesReference}
use Rattle.ledger.proofs.Bodies.{Fair, unfaulted, curve_parts}
use Rattle.ledger.proofs.Anew.{Form, Substitutes}

abbrev in_end_range : ℕ → Bool
in_end_range end = leb 1 end && leb end 100000

body_fault : (p : ℕ) (ss : List Step) → Fair (most_steps p) ss → curve_fault p (curve_bytes ss) ≡ 0
body_fault p ss x =
    let l = length_curve ss in
    let whole : length (curve_bytes ss) % 8 ≡ 0 = omega arith in
    cond-true _ _ _ (eq-eqb (length (curve_bytes ss) % 8) 0 whole) ∙ ap (steps_fault (most_steps p)) (curve_back ss x.ranged) ∙ unfaulted (most_steps p) ss x

-- a substitute of curves without a fault has none

range_push : (xs : List Step) (x : Step) → all_in_range xs ≡ true → in_step_range x ≡ true → all_in_range (xs ++ (x ∷ [])) ≡ true
range_push [] x f h = and_from (in_step_range x) true h refl
range_push (y ∷ xs) x f h = let p = and_parts (in_step_range y) (all_in_range xs) f in and_from (in_step_range y) _ p.0 (range_push xs x p.1 h)

range_kept : (xs : List Step) (q : ℕ) → all_in_range xs ≡ true → all_in_range (kept xs q) ≡ true
range_kept [] q f = refl
range_kept (x ∷ []) q f = refl
range_kept (x ∷ (y ∷ xs)) q f =
    let p = and_parts (in_step_range x) (all_in_range (y ∷ xs)) f in
    cond_both (ltb x.end q) (x ∷ kept (y ∷ xs) q) [] (λ zs. all_in_range zs ≡ true)
    (λ t. and_from (in_step_range x) _ p.0 (range_kept (y ∷ xs) q p.1)) (λ t. refl)

price_in_range : (p : ℤ) (xs : List Step) (q : ℕ) → in_price_range p ≡ true → all_in_range xs ≡ true → in_price_range (price_after p xs q) ≡ true
price_in_range p [] q h f = h
price_in_range p (x ∷ xs) q h f =
    let a = and_parts (in_step_range x) (all_in_range xs) f in
    let here : in_price_range x.price ≡ true = (and_parts (in_price_range x.price) (in_end_range x.end) a.0).0 in
    cond_both (leb q x.end) x.price (price_after x.price xs q) (λ z. in_price_range z ≡ true) (λ t. here) (λ t. price_in_range x.price xs q here a.1)

end_in_range : (e : ℕ) (xs : List Step) → in_end_range e ≡ true → all_in_range xs ≡ true → in_end_range (end_after e xs) ≡ true
end_in_range e [] h f = h
end_in_range e (x ∷ xs) h f =
    let p = and_parts (in_step_range x) (all_in_range xs) f in
    end_in_range x.end xs (and_parts (in_price_range x.price) (in_end_range x.end) p.0).1 p.1

last_in_range : (xs : List Step) → 1 ≤ length xs → all_in_range xs ≡ true → in_end_range (last_end xs) ≡ true
last_in_range [] h f = absurd (omega arith)
last_in_range (x ∷ xs) h f =
    let p = and_parts (in_step_range x) (all_in_range xs) f in
    end_in_range x.end xs (and_parts (in_price_range x.price) (in_end_range x.end) p.0).1 p.1

few_kept : (xs : List Step) (q : ℕ) → length (kept xs q) ≤ length xs - 1
few_kept [] q = omega arith
few_kept (x ∷ []) q = omega arith
few_kept (x ∷ (y ∷ xs)) q =
    cond_both (ltb x.end q) (x ∷ kept (y ∷ xs) q) [] (λ zs. length zs ≤ length (x ∷ (y ∷ xs)) - 1) (λ t. let r = few_kept (y ∷ xs) q in omega arith) (λ t. omega arith)

fair_substitute : (most : ℕ) (reference offer : List Step) → Fair most reference → Fair most offer → Fair most (substitute reference (last_end offer))
fair_substitute most reference offer x y =
    let q = last_end offer in
    let l = length-append (kept reference q) (step (price_at reference q) q ∷ []) in
    let k = few_kept reference q in
    record {
      some = omega arith;
      few = omega (arith, x.some, x.few);
      ranged = range_push (kept reference q) (step (price_at reference q) q) (range_kept reference q x.ranged)
          (and_from (in_price_range (price_at reference q)) (in_end_range q) (price_in_range (pos 0) reference q refl x.ranged) (last_in_range offer y.some y.ranged));
      ordered = substitute_in_order reference q x.ordered;
    }

abbrev pub curve_form : Meaning → ℕ → Form (List Step)
curve_form curves p = record {
  decode = curve_steps;
  encode = curve_bytes;
  fault = curve_fault p;
  test = λ line. all_pass (curves line);
  substitute = λ reference offer. substitute reference (last_end offer);
}

pub curve_substitutes : (curves : Meaning) → PassesReference curves → (p : ℕ) → Substitutes (curve_form curves p)
curve_substitutes curves lawful p =
    let made : (x o : List ℕ) → curve_fault p x ≡ 0 → curve_fault p o ≡ 0 → Fair (most_steps p) (substitute (curve_steps x) (last_end (curve_steps o))) =
    λ x o a b. fair_substitute (most_steps p) (curve_steps x) (curve_steps o) (curve_parts p x a).fair (curve_parts p o b).fair in
    record {
      fits = λ x o a b. body_fault p (substitute (curve_steps x) (last_end (curve_steps o))) (made x o a b);
      back = λ x o a b. curve_back (substitute (curve_steps x) (last_end (curve_steps o))) (made x o a b).ranged;
      passes = λ l x o a. substitute_passes (curves l) (lawful l) (curve_steps x) (last_end (curve_steps o)) (curve_parts p x a).fair.ordered;
    }
