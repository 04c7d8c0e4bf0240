-- Walks along a list of steps, from step i on.
use Rattle.std.proofs.Common.{◌≡◌, ℕ, zero, suc, ◌-◌, ◌<◌, ◌≤◌, Bool, true, false, ltb, List, [], ◌∷◌, length, get_or, take, ℤ, pos, sym, refl, ap, ◌∙◌, subst, add-one, ⊎_elim, arith}
use Rattle.std.proofs.lemmas.List.{length-take-le, get_or-take}
use Rattle.std.proofs.lemmas.List.Folds.{length-prefix_len}
use Rattle.std.proofs.lemmas.Bool.{le-leb, lt-leb, lt-ltb, le-ltb, cases_lt, and_left, and_right}
use Rattle.std.specs.List.{prefix_len, take_while, IsAllAdjacentAnswer}
use Rattle.curves.specs.declared.step.Step.{Step}
use Rattle.curves.specs.Steps.{step, rises, in_order, price_after, price_at, end_after, last_end, kept}

-- what an array of steps reads past its end
abbrev pub absent_step : Step
absent_step = step (pos 0) 0

-- whether each step rises to the next
in_order_all : (xs : List Step) → ((k : ℕ) → suc k < length xs → true ≡ rises (get_or xs k absent_step) (get_or xs (suc k) absent_step)) → in_order xs ≡ true
in_order_all [] h = refl
in_order_all (x ∷ []) h = refl
in_order_all (x ∷ (y ∷ xs)) h = grind (arith, h 0, in_order_all (y ∷ xs) (λ k l. h (suc k) (omega arith)))

in_order_breaks : (xs : List Step) (k : ℕ) → suc k < length xs → false ≡ rises (get_or xs k absent_step) (get_or xs (suc k) absent_step) → in_order xs ≡ false
in_order_breaks [] k l e = absurd (omega arith)
in_order_breaks (x ∷ []) k l e = absurd (omega arith)
in_order_breaks (x ∷ (y ∷ xs)) zero l e = and_left _ _ (sym e)
in_order_breaks (x ∷ (y ∷ xs)) (suc k) l e = and_right _ _ (in_order_breaks (y ∷ xs) k (omega arith) e)

pub in_order_answer : (xs : List Step) (r : Bool) → IsAllAdjacentAnswer (λ x y b. b ≡ rises x y) xs r → r ≡ in_order xs
in_order_answer xs true h = sym (in_order_all xs (λ k l. rw add-one at (h k absent_step (omega arith))))
in_order_answer xs false h = sym (in_order_breaks xs h.0 (omega (arith, h.1)) (rw add-one at (h.2 absent_step)))

end_of : (e : ℕ) (xs : List Step) (n : ℕ) → n < length xs → end_after e (take (suc n) xs) ≡ (get_or xs n absent_step).end
end_of e [] n h = absurd (omega arith)
end_of e (x ∷ xs) zero h = refl
end_of e (x ∷ xs) (suc n) h = end_of x.end xs n (omega arith)

pub last_end_at : (xs : List Step) (n : ℕ) → 1 ≤ n → n ≤ length xs → (get_or xs (n - 1) absent_step).end ≡ last_end (take n xs)
last_end_at xs n h k =
    let P : ℕ → Type 0 = λ m. (get_or xs (n - 1) absent_step).end ≡ last_end (take m xs) in
    let e : suc (n - 1) ≡ n = omega arith in
    subst P e (sym (end_of 0 xs (n - 1) (omega arith)))

module _ (q : ℕ) where
  -- those that end below q, the last left aside
  kept_before : (xs : List Step) (n : ℕ) → n < length xs → prefix_len (λ s. ltb s.end q) (take n xs) ≡ length (kept (take (suc n) xs) q)
  kept_before [] n h = absurd (omega arith)
  kept_before (x ∷ xs) zero h = refl
  kept_before (x ∷ []) (suc n) h = absurd (omega arith)
  kept_before (x ∷ (y ∷ xs)) (suc n) h = grind (arith, kept_before (y ∷ xs) n)

  pub kept_front : (xs : List Step) (m : ℕ) → 1 ≤ m → m ≤ length xs → length (take_while (λ s. ltb s.end q) (take (m - 1) xs)) ≡ length (kept (take m xs) q)
  kept_front xs m some fit =
      let e : suc (m - 1) ≡ m = omega arith in
      length-prefix_len (λ s. ltb s.end q) (take (m - 1) xs) ∙ kept_before xs (m - 1) (omega arith) ∙ ap (λ k. length (kept (take k xs) q)) e

  pub kept_take : (xs : List Step) → kept xs q ≡ take (length (kept xs q)) xs
  kept_take [] = refl
  kept_take (x ∷ []) = refl
  kept_take (x ∷ (y ∷ xs)) = grind (arith, kept_take (y ∷ xs))

  -- the price is that of the step behind them
  price_behind : (p : ℤ) (xs : List Step) → 1 ≤ length xs → (get_or xs (length (kept xs q)) absent_step).price ≡ price_after p xs q
  price_behind p [] h = absurd (omega arith)
  price_behind p (x ∷ []) h = grind arith
  price_behind p (x ∷ (y ∷ xs)) h =
      ⊎_elim
      (λ k. rw (lt-ltb x.end q k, lt-leb q x.end k) (price_behind x.price (y ∷ xs) (omega arith)))
      (λ k. rw (le-ltb x.end q k, le-leb q x.end k) refl)
      (cases_lt x.end q)

  pub price_kept : (xs : List Step) (m n : ℕ) → m ≤ length xs → n < m → n ≡ length (kept (take m xs) q) → (get_or xs n absent_step).price ≡ price_at (take m xs) q
  price_kept xs m n fit h e =
      let long = length-take-le m xs fit in
      let at = get_or-take m xs n absent_step h in
      ap (λ s. s.price) (sym at) ∙ ap (λ k. (get_or (take m xs) k absent_step).price) e ∙ price_behind (pos 0) (take m xs) (omega arith)
