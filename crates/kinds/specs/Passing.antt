-- A substitute passes the test of its reference.
use Rattle.std.specs.Prelude.{◌≡◌, ℕ, ◌<◌, ◌≤◌, Bool, true, List, [], ◌∷◌, ℤ, pos, int_le, nat_lt, refl}
use Rattle.std.proofs.Common.{sym, ap, subst, ◌∙◌, ⊎_elim, arith}
use Rattle.std.specs.Int.Signed.{≤ℤ_refl}
use Rattle.std.proofs.lemmas.Bool.{le-leb, lt-leb, ltb-true, and_parts, and_from, cases_lt, cond-true, cond-false}
use Rattle.bounds.specs.declared.side.Side.{Side}
use Rattle.bounds.specs.declared.side.Side.TheVariants.{Below, Above}
use Rattle.bounds.specs.Meanings.{Harmless}
use Rattle.curves.specs.declared.step.Step.{Step}
use Rattle.curves.specs.Steps.{step, rises, rises_on, in_order, price_after, price_at, last_end, substitute}
use Rattle.curves.proofs.Substitutes.{stand_in, stand_in_more, stand_in_stop, substitute_end}
use Rattle.kinds.specs.Conduct.{all_pass}

-- the reference itself does no harm
pub harmless_self : (side : Side) (r : ℤ) → Harmless side r r
harmless_self Below r = ≤ℤ_refl r
harmless_self Above r = ≤ℤ_refl r

module _ (ask : ℤ → ℤ → Bool) (same : (r : ℤ) → ask r r ≡ true) (reference : List Step) (q : ℕ) where
  -- a price that the reference has where the step ends
  equal_passes : (s : Step) → price_at reference s.end ≡ s.price → (rest : List Step) → all_pass ask reference rest ≡ true → all_pass ask reference (s ∷ rest) ≡ true
  equal_passes s e rest f = and_from _ _ (ap (ask (price_at reference s.end)) (sym e) ∙ same _) f

  -- what is left of the reference has its prices from s on, and the price at q
  stand_in_passes : (p : ℤ) (s : Step) (rest : List Step) → rises_on s rest ≡ true
      → price_at reference q ≡ price_after p (s ∷ rest) q
      → ((e : ℕ) → s.end ≤ e → price_at reference e ≡ price_after p (s ∷ rest) e)
      → all_pass ask reference (stand_in q p (s ∷ rest)) ≡ true
  stand_in_passes p s [] f at-q from = equal_passes (step _ q) at-q [] refl
  stand_in_passes p s (t ∷ rest) f at-q from =
      let P : List Step → Type 0 = λ zs. all_pass ask reference zs ≡ true in
      let parts = and_parts (rises s t) (rises_on t rest) f in
      let up : s.end < t.end = ltb-true _ _ (and_parts (nat_lt s.end t.end) (int_le s.price t.price) parts.0).0 in
      ⊎_elim
      (λ k. subst P (sym (stand_in_more q p s t rest k))
      (equal_passes s (from s.end (omega arith) ∙ cond-true _ _ _ (le-leb s.end s.end (omega arith))) _
      (stand_in_passes s.price t rest parts.1 (at-q ∙ cond-false _ _ _ (lt-leb q s.end k))
      (λ e h. from e (omega arith) ∙ cond-false _ _ _ (lt-leb e s.end (omega arith))))))
      (λ k. subst P (sym (stand_in_stop q p s t rest k)) (equal_passes (step s.price q) (at-q ∙ cond-true _ _ _ (le-leb q s.end k)) [] refl))
      (cases_lt s.end q)

pub substitute_passes : (ask : ℤ → ℤ → Bool) → ((r : ℤ) → ask r r ≡ true) → (xs : List Step) (q : ℕ) → in_order xs ≡ true → all_pass ask xs (substitute xs q) ≡ true
substitute_passes ask same [] q f = and_from _ true (same (pos 0)) refl
substitute_passes ask same (s ∷ rest) q f = stand_in_passes ask same (s ∷ rest) q (pos 0) s rest f refl (λ e h. refl)

pub substitute_again : (xs : List Step) (q : ℕ) → substitute xs (last_end (substitute xs q)) ≡ substitute xs q
substitute_again xs q = ap (substitute xs) (substitute_end xs q)
