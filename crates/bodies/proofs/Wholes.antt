-- Bodies put together again from their parts.
use Rattle.std.proofs.Common.{◌≡◌, ℕ, List, [], ◌∷◌, ◌++◌, length, take, drop, sym, refl, ap, ◌∙◌, arith, length-drop, take-append-drop}
use Rattle.std.proofs.lemmas.List.{drop-drop, take_all}
use Rattle.bodies.specs.Bodies.{standing_of, standing_bytes}

pub three_words : (b : List ℕ) → length b ≡ 12 → take 4 b ++ (take 4 (drop 4 b) ++ take 4 (drop 8 b)) ≡ b
three_words b h =
    let last : take 4 (drop 8 b) ≡ drop 4 (drop 4 b) = take_all 4 (drop 8 b) (simp length-drop (omega arith)) ∙ sym (drop-drop 4 4 b) in
    ap (λ l. take 4 b ++ (take 4 (drop 4 b) ++ l)) last ∙ ap (λ l. take 4 b ++ l) (take-append-drop 4 (drop 4 b)) ∙ take-append-drop 4 b

pub six_bytes : (b : List ℕ) → length b ≡ 6 → standing_bytes (standing_of b) ≡ b
six_bytes [] h = absurd (omega arith)
six_bytes (a ∷ []) h = absurd (omega arith)
six_bytes (a ∷ b ∷ []) h = absurd (omega arith)
six_bytes (a ∷ b ∷ c ∷ []) h = absurd (omega arith)
six_bytes (a ∷ b ∷ c ∷ d ∷ []) h = absurd (omega arith)
six_bytes (a ∷ b ∷ c ∷ d ∷ e ∷ []) h = absurd (omega arith)
six_bytes (a ∷ b ∷ c ∷ d ∷ e ∷ f ∷ []) h = refl
six_bytes (a ∷ b ∷ c ∷ d ∷ e ∷ f ∷ g ∷ rest) h = absurd (omega arith)
