-- What a body without a fault says.
use Rattle.std.proofs.Common.{◌≡◌, ℕ, ◌%◌, ◌≤◌, Bool, true, ◌&&◌, leb, List, length, sym, ◌∙◌, ⊎_elim, arith}
use Rattle.std.proofs.lemmas.Bool.{le-leb, leb-true, and_parts, and_from, cases_Bool, cases_eq, cond-true, cond-false, eq-eqb, ne_eqb}
use Rattle.curves.specs.declared.step.Step.{Step}
use Rattle.curves.specs.Steps.{in_order}
use Rattle.bodies.specs.Curves.{curve_steps, all_in_range, steps_fault}
use Rattle.bodies.specs.Bodies.{unless_in_range, sized, most_steps, curve_fault}

-- a body of its length, with what it says in range
pub sized_none : (n : ℕ) (body : List ℕ) (m : ℕ) → sized n body m ≡ 0 → m ≡ 0
sized_none n body m z =
    ⊎_elim
    (λ e. sym (cond-true _ _ _ (eq-eqb (length body) n e)) ∙ z)
    (λ ne. absurd (let five : sized n body m ≡ 5 = cond-false _ _ _ (ne_eqb (length body) n ne) in omega arith))
    (cases_eq (length body) n)

pub inside : (b : Bool) → unless_in_range b ≡ 0 → b ≡ true
inside b z = ⊎_elim (λ t. t) (λ f. absurd (let six : unless_in_range b ≡ 6 = cond-false _ _ _ f in omega arith)) (cases_Bool b)

-- steps without a fault
pub record Fair (most : ℕ) (ss : List Step) : Type 0 where
  pub some : 1 ≤ length ss
  pub few : length ss ≤ most
  pub ranged : all_in_range ss ≡ true
  pub ordered : in_order ss ≡ true

pub fair : (most : ℕ) (ss : List Step) → steps_fault most ss ≡ 0 → Fair most ss
fair most ss z =
    let a : Bool = leb 1 (length ss) in
    let b : Bool = leb (length ss) most in
    ⊎_elim
    (λ t.
    let p = and_parts a (b && all_in_range ss) t in
    let q = and_parts b (all_in_range ss) p.1 in
    record {
      some = leb-true _ _ p.0;
      few = leb-true _ _ q.0;
      ranged = q.1;
      ordered = ⊎_elim (λ o. o) (λ o. absurd (let seven : steps_fault most ss ≡ 7 = cond-true _ _ _ t ∙ cond-false _ _ _ o in omega arith)) (cases_Bool (in_order ss));
    })
    (λ f. absurd (let six : steps_fault most ss ≡ 6 = cond-false _ _ _ f in omega arith))
    (cases_Bool (a && (b && all_in_range ss)))

pub unfaulted : (most : ℕ) (ss : List Step) → Fair most ss → steps_fault most ss ≡ 0
unfaulted most ss x =
    cond-true _ _ _ (and_from (leb 1 (length ss)) _ (le-leb _ _ x.some) (and_from (leb (length ss) most) _ (le-leb _ _ x.few) x.ranged))
    ∙ cond-true _ _ _ x.ordered

-- a curve's body without a fault
pub record CurveParts (p : ℕ) (body : List ℕ) : Type 0 where
  pub whole : length body % 8 ≡ 0
  pub fair : Fair (most_steps p) (curve_steps body)

pub curve_parts : (p : ℕ) (body : List ℕ) → curve_fault p body ≡ 0 → CurveParts p body
curve_parts p body z =
    ⊎_elim
    (λ e. record { whole = e; fair = fair (most_steps p) (curve_steps body) (sym (cond-true _ _ _ (eq-eqb (length body % 8) 0 e)) ∙ z) })
    (λ ne. absurd (let five : curve_fault p body ≡ 5 = cond-false _ _ _ (ne_eqb (length body % 8) 0 ne) in omega arith))
    (cases_eq (length body % 8) 0)
