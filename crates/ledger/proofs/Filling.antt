-- A file filled in entry by entry: what is left decides.
use Rattle.std.proofs.Common.{◌≡◌, ℕ, zero, suc, ◌-◌, ◌<◌, ◌≤◌, List, length, drop, sym, refl, ap, ◌∙◌, ⊎_elim, arith, length-drop}
use Rattle.std.proofs.lemmas.Bool.{eq-eqb, ne_eqb, cond-true, cond-false, cases_eq}
use Rattle.entries.specs.Sections.{Section}
use Rattle.entries.specs.Files.{entry_length}
use Rattle.ledger.specs.Slots.{Slots, put, filled, load}

module _ (table : List Section) where
  none_left : (most : ℕ) (bs : List ℕ) (s : Slots) → length bs ≡ 0 → filled table most bs s ≡ s
  unfolding filled
  none_left zero bs s e = refl
  none_left (suc most) bs s e = cond-true _ _ _ (eq-eqb (length bs) 0 e)

  one_more : (most : ℕ) (bs : List ℕ) (s : Slots) → 0 < length bs → filled table (suc most) bs s ≡ filled table most (drop (entry_length bs) bs) (put table bs s)
  unfolding filled
  one_more most bs s some = cond-false _ _ _ (ne_eqb (length bs) 0 (λ z. omega arith))

  -- any bound on the number of entries will do
  any_bound : (m n : ℕ) (bs : List ℕ) (s : Slots) → length bs ≤ m → length bs ≤ n → filled table m bs s ≡ filled table n bs s
  any_bound zero n bs s h k = none_left 0 bs s (omega arith) ∙ sym (none_left n bs s (omega arith))
  any_bound (suc m) zero bs s h k = none_left (suc m) bs s (omega arith) ∙ sym (none_left 0 bs s (omega arith))
  any_bound (suc m) (suc n) bs s h k =
      ⊎_elim
      (λ e. none_left (suc m) bs s e ∙ sym (none_left (suc n) bs s e))
      (λ ne.
      let some : 0 < length bs = omega arith in
      let long = length-drop (entry_length bs) bs in
      one_more m bs s some ∙ any_bound m n (drop (entry_length bs) bs) (put table bs s) (omega arith) (omega arith) ∙ sym (one_more n bs s some))
      (cases_eq (length bs) 0)

  -- the slots after all of bs
  abbrev pub filled_from : List ℕ → Slots → Slots
  filled_from bs s = filled table (length bs) bs s

  pub fill_starts : (file : List ℕ) (s : Slots) → load table file s ≡ filled_from (drop 5 file) s
  fill_starts file s = let long = length-drop 5 file in any_bound (length file) (length (drop 5 file)) (drop 5 file) s (omega arith) (omega arith)

  pub fill_on : (bs : List ℕ) (s : Slots) → 0 < length bs → filled_from bs s ≡ filled_from (drop (entry_length bs) bs) (put table bs s)
  fill_on bs s some =
      let rest = drop (entry_length bs) bs in
      let long = length-drop (entry_length bs) bs in
      let e : length bs ≡ suc (length bs - 1) = omega arith in
      ap (λ k. filled table k bs s) e ∙ one_more (length bs - 1) bs s some ∙ any_bound (length bs - 1) (length rest) rest (put table bs s) (omega arith) (omega arith)

  pub fill_ends : (bs : List ℕ) (s : Slots) → length bs ≡ 0 → filled_from bs s ≡ s
  fill_ends bs s e = none_left (length bs) bs s e
