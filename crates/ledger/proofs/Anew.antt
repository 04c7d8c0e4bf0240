-- What an offer's body becomes, for values of any kind that bytes can say.
use Rattle.std.proofs.Common.{◌≡◌, ℕ, Bool, true, false, cond, ◌&&◌, List, Some, None, Option, sym, refl, ap, ◌∙◌, ⊎_elim}
use Rattle.std.proofs.lemmas.Bool.{and_parts, and_left, both_ways, cases_Bool, cond-false}
use Rattle.std.specs.Option.{option_map}
use Rattle.bounds.specs.declared.line.Line.{Line}
use Rattle.vocabulary.specs.declared.verdict.Verdict.{Verdict}
use Rattle.vocabulary.specs.Verdicts.{failed, said}
use Rattle.kinds.specs.Judged.{judged, replaced, mitigated, DifferWhen}

-- a kind of value, with its bytes and the fault of a body
pub record Form (V : Type 0) : Type 0 where
  pub decode : List ℕ → V
  pub encode : V → List ℕ
  pub fault : List ℕ → ℕ
  pub test : Line → V → V → Bool
  pub substitute : V → V → V

-- the fault of what may be there
abbrev pub contained : (List ℕ → ℕ) → Option (List ℕ) → ℕ
contained fault None = 0
contained fault (Some body) = fault body

module _ {V : Type 0} (form : Form V) where
  -- the verdict on the offer's body o beside the reference's body x, and whether it is substituted
  abbrev verdict : Option Line → Option (List ℕ) → Option (List ℕ) → Verdict
  verdict l x o = judged form.test l (option_map form.decode x) (option_map form.decode o)

  abbrev pub chosen : Option Line → Bool → Option (List ℕ) → Option (List ℕ) → Bool
  chosen l may x o = failed (verdict l x o) && may

  -- the body that stands there then
  abbrev pub anew : Option Line → Bool → Option (List ℕ) → Option (List ℕ) → Option (List ℕ)
  anew l may x o =
      cond (chosen l may x o) (option_map form.encode (mitigated form.test form.substitute l may (option_map form.decode x) (option_map form.decode o))) o

  abbrev stand_in : List ℕ → List ℕ → V
  stand_in x o = form.substitute (form.decode x) (form.decode o)

  pub anew_none : (l : Option Line) (may : Bool) (x : Option (List ℕ)) → anew l may x None ≡ None
  anew_none None may x = refl
  anew_none (Some l) may None = refl
  anew_none (Some l) may (Some x) = refl

  anew_stays : (l : Option Line) (may : Bool) (x o : Option (List ℕ)) → chosen l may x o ≡ false → anew l may x o ≡ o
  anew_stays l may x o f = cond-false _ _ _ f

  anew_changes : (l : Line) (may : Bool) (x o : List ℕ) → chosen (Some l) may (Some x) (Some o) ≡ true → anew (Some l) may (Some x) (Some o) ≡ Some (form.encode (stand_in x o))
  anew_changes l may x o t = ap (λ b. cond b (option_map form.encode (replaced form.substitute b (Some (form.decode x)) (Some (form.decode o)))) (Some o)) t

  -- a substitute has no fault, is read back, and passes
  pub record Substitutes : Type 0 where
    pub fits : (x o : List ℕ) → form.fault x ≡ 0 → form.fault o ≡ 0 → form.fault (form.encode (stand_in x o)) ≡ 0
    pub back : (x o : List ℕ) → form.fault x ≡ 0 → form.fault o ≡ 0 → form.decode (form.encode (stand_in x o)) ≡ stand_in x o
    pub passes : (l : Line) (x o : List ℕ) → form.fault x ≡ 0 → form.test l (form.decode x) (stand_in x o) ≡ true

  module _ (so : Substitutes) where
    anew_fits_by : (l : Option Line) (may : Bool) (x o : Option (List ℕ)) → contained form.fault x ≡ 0 → contained form.fault o ≡ 0 → contained form.fault (anew l may x o) ≡ 0
    anew_fits_by None may x o a b = b
    anew_fits_by (Some l) may None o a b = b
    anew_fits_by (Some l) may (Some x) None a b = refl
    anew_fits_by (Some l) may (Some x) (Some o) a b =
        ⊎_elim
        (λ t. ap (contained form.fault) (anew_changes l may x o t) ∙ so.fits x o a b)
        (λ f. ap (contained form.fault) (anew_stays (Some l) may (Some x) (Some o) f) ∙ b)
        (cases_Bool (chosen (Some l) may (Some x) (Some o)))

    mended : (l : Option Line) (may : Bool) (x o : Option (List ℕ)) → contained form.fault x ≡ 0 → contained form.fault o ≡ 0 → chosen l may x o ≡ true → failed (verdict l x (anew l may x o)) ≡ false
    mended None may x o a b t = refl
    mended (Some l) may None o a b t = refl
    mended (Some l) may (Some x) None a b t = refl
    mended (Some l) may (Some x) (Some o) a b t =
        ap (λ z. failed (verdict (Some l) (Some x) z)) (anew_changes l may x o t)
        ∙ ap (λ v. failed (said (form.test l (form.decode x) v))) (so.back x o a b)
        ∙ ap (λ v. failed (said v)) (so.passes l x o a)

    -- x and o have no fault
    module _ (l : Option Line) (may : Bool) (x o : Option (List ℕ)) (a : contained form.fault x ≡ 0) (b : contained form.fault o ≡ 0) where
      pub anew_fits : contained form.fault (anew l may x o) ≡ 0
      anew_fits = anew_fits_by l may x o a b

      differs_by : (c : Bool) → chosen l may x o ≡ c → DifferWhen c (anew l may x o) o
      differs_by true t = λ e.
          both_ways (failed (verdict l x o)) (ap (λ z. failed (verdict l x z)) (sym e) ∙ mended l may x o a b t) (and_parts (failed (verdict l x o)) may t).0
      differs_by false f = anew_stays l may x o f

      pub anew_differs : DifferWhen (chosen l may x o) (anew l may x o) o
      anew_differs = differs_by (chosen l may x o) refl

      -- what stands there then is not substituted again
      pub settled : chosen l may x (anew l may x o) ≡ false
      settled =
          ⊎_elim
          (λ t. and_left _ may (mended l may x o a b t))
          (λ f. ap (chosen l may x) (anew_stays l may x o f) ∙ f)
          (cases_Bool (chosen l may x o))
