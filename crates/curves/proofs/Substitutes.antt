-- What stands in for an offer, step by step along the reference, and that it is in order.
use Rattle.std.proofs.Common.{◌≡◌, ℕ, ◌+◌, ◌<◌, ◌≤◌, true, ltb, List, [], ◌∷◌, ◌++◌, length, get_or, take, set, ℤ, pos, sym, refl, ap, ◌∙◌, subst, ap₂, ⊎_elim, arith}
use lib.Signed.{le_z}
use Rattle.std.proofs.lemmas.List.{take_more_set, take-take}
use Rattle.std.proofs.lemmas.Bool.{lt-ltb, and_parts, and_from, cases_lt}
use Rattle.curves.specs.declared.step.Step.{Step}
use Rattle.curves.specs.Steps.{step, rises, rises_on, in_order, price_after, end_after, last_end, kept, substitute}
use Rattle.curves.proofs.Walks.{absent_step, kept_take, price_kept}

-- what stands in, where p is the price before the steps that are left
abbrev pub stand_in : ℕ → ℤ → List Step → List Step
stand_in q p xs = kept xs q ++ (step (price_after p xs q) q ∷ [])

module _ (q : ℕ) (p : ℤ) (s : Step) where
  pub stand_in_more : (t : Step) (rest : List Step) → s.end < q → stand_in q p (s ∷ (t ∷ rest)) ≡ s ∷ stand_in q s.price (t ∷ rest)
  stand_in_more t rest h = grind arith

  pub stand_in_stop : (t : Step) (rest : List Step) → q ≤ s.end → stand_in q p (s ∷ (t ∷ rest)) ≡ step s.price q ∷ []
  stand_in_stop t rest h = grind arith

  pub stand_in_last : stand_in q p (s ∷ []) ≡ step s.price q ∷ []
  stand_in_last = grind arith

module _ (q : ℕ) where
  rises_to : (u s : Step) → u.end < q → rises u s ≡ true → rises_on u (step s.price q ∷ []) ≡ true
  rises_to u s h r = and_from _ true (and_from (ltb u.end q) _ (lt-ltb _ _ h) (and_parts (ltb u.end s.end) (le_z u.price s.price) r).1) refl

  stand_in_rises : (u : Step) (p : ℤ) (s : Step) (rest : List Step) → u.end < q → rises u s ≡ true → rises_on s rest ≡ true → rises_on u (stand_in q p (s ∷ rest)) ≡ true
  stand_in_rises u p s [] h r f = subst (λ (zs : List Step). rises_on u zs ≡ true) (sym (stand_in_last q p s)) (rises_to u s h r)
  stand_in_rises u p s (t ∷ rest) h r f =
      let P : List Step → Type 0 = λ zs. rises_on u zs ≡ true in
      let parts = and_parts (rises s t) (rises_on t rest) f in
      ⊎_elim
      (λ k. subst P (sym (stand_in_more q p s t rest k)) (and_from (rises u s) _ r (stand_in_rises s s.price t rest k parts.0 parts.1)))
      (λ k. subst P (sym (stand_in_stop q p s t rest k)) (rises_to u s h r))
      (cases_lt s.end q)

pub substitute_in_order : (xs : List Step) (q : ℕ) → in_order xs ≡ true → in_order (substitute xs q) ≡ true
substitute_in_order [] q f = refl
substitute_in_order (s ∷ []) q f = refl
substitute_in_order (s ∷ (t ∷ rest)) q f =
    let P : List Step → Type 0 = λ zs. in_order zs ≡ true in
    let parts = and_parts (rises s t) (rises_on t rest) f in
    ⊎_elim
    (λ k. subst P (sym (stand_in_more q (pos 0) s t rest k)) (stand_in_rises q s s.price t rest k parts.0 parts.1))
    (λ k. subst P (sym (stand_in_stop q (pos 0) s t rest k)) refl)
    (cases_lt s.end q)

end_push : (e : ℕ) (xs : List Step) (x : Step) → end_after e (xs ++ (x ∷ [])) ≡ x.end
end_push e [] x = refl
end_push e (y ∷ xs) x = end_push y.end xs x

-- it ends where the offer does
pub substitute_end : (xs : List Step) (q : ℕ) → last_end (substitute xs q) ≡ q
substitute_end xs q = end_push 0 (kept xs q) _

-- one step written behind those that are kept
pub written : (xs : List Step) (m n q : ℕ) → m ≤ length xs → n < m → n ≡ length (kept (take m xs) q)
    → take (n + 1) (set xs n (step (get_or xs n absent_step).price q)) ≡ substitute (take m xs) q
written xs m n q fit h e =
    let these : kept (take m xs) q ≡ take n xs = kept_take q (take m xs) ∙ ap (λ k. take k (take m xs)) (sym e) ∙ take-take n m xs (omega arith) in
    take_more_set xs n _ (omega arith) ∙ ap₂ (λ (zs : List Step) (v : ℤ). zs ++ (step v q ∷ [])) (sym these) (price_kept q xs m n fit h e)
