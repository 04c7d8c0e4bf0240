-- Entries drawn part by part.
use Rattle.std.proofs.Common.{◌≡◌, ℕ, zero, suc, ◌+◌, List, [], ◌∷◌, ◌++◌, length, Option, sym, refl, ap, ◌∙◌, add-zero, arith}
use Rattle.std.proofs.lemmas.List.{append_assoc, append-nil, length_push}
use Rattle.entries.specs.Files.{entry_bytes, mark}
use Rattle.entries.specs.Table.{kinds}
use Rattle.ledger.specs.Slots.{Slots, head_at, entry_of, entry, entries_from, entry_file}
use Rattle.ledger.specs.Views.{tabulated, joined_below, Holding, slots_from, by_heads}
use Rattle.ledger.specs.Laws.{BySections}
use Rattle.ledger.proofs.Places.{named_from}
use Rattle.ledger.proofs.Joining.{joined_same, joined_sections}

appended : (a b : Slots) (i : ℕ) → entries_from kinds i (a ++ b) ≡ entries_from kinds i a ++ entries_from kinds (i + length a) b
unfolding entries_from
appended [] b i = ap (λ k. entries_from kinds k b) (sym (add-zero i))
appended (o ∷ a) b i =
    let e : i + 1 + length a ≡ i + suc (length a) = omega arith in
    ap (λ z. entry kinds i o ++ z) (appended a b (i + 1) ∙ ap (λ k. entries_from kinds (i + 1) a ++ entries_from kinds k b) e)
    ∙ sym (append_assoc (entry kinds i o) (entries_from kinds (i + 1) a) (entries_from kinds (i + suc (length a)) b))

pub length_tabulated : {A : Type 0} (n : ℕ) (f : ℕ → A) → length (tabulated n f) ≡ n
length_tabulated zero f = refl
length_tabulated (suc n) f = length_push (tabulated n f) (f n) ∙ (let e = length_tabulated n f in omega arith)

one : (i : ℕ) (o : Option (List ℕ)) → entries_from kinds i (o ∷ []) ≡ entry kinds i o
unfolding entries_from
one i o = append-nil (entry kinds i o)

by_place : (i n : ℕ) (f : ℕ → Option (List ℕ)) → entries_from kinds i (tabulated n f) ≡ joined_below n (λ j. entry kinds (i + j) (f j))
unfolding entries_from joined_below
by_place i zero f = refl
by_place i (suc n) f =
    let before : List ℕ = joined_below n (λ j. entry kinds (i + j) (f j)) in
    appended (tabulated n f) (f n ∷ []) i
    ∙ ap (λ z. z ++ entries_from kinds (i + length (tabulated n f)) (f n ∷ [])) (by_place i n f)
    ∙ ap (λ k. before ++ entries_from kinds (i + k) (f n ∷ [])) (length_tabulated n f)
    ∙ ap (λ z. before ++ z) (one (i + n) (f n))

drawn : (f : Holding) → entry_file kinds (slots_from f) ≡ mark ++ by_heads 1 kinds (λ h. entry_of h (f h))
unfolding slots_from
drawn f =
    ap (λ l. mark ++ l)
    (by_place 0 1138 (λ i. f (head_at kinds i))
    ∙ joined_same 1138 (λ j. entry kinds (0 + j) (f (head_at kinds j))) (λ j. entry kinds j (f (head_at kinds j))) (λ j h. let e : 0 + j ≡ j = omega arith in ap (λ k. entry kinds k (f (head_at kinds j))) e)
    ∙ joined_sections 1 kinds (λ h. entry_of h (f h)))

pub by_sections : BySections
by_sections = record {
  appended = λ i a b. appended a b i;
  by_place = by_place;
  named = λ h body z. ap (λ g. entry_bytes g body) (named_from 1 kinds h z);
  drawn = drawn;
}
