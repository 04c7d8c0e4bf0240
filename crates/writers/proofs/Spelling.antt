-- Bytes spelled one by one.
use Rattle.std.proofs.Common.{◌≡◌, ℕ, List, [], ◌∷◌, ◌++◌, get_or, ap, ◌∙◌}
use Rattle.bodies.specs.Numbers.{word_bytes}

module _ (p : List ℕ) (n : ℕ) (is : p ≡ word_bytes n) where
  pub spelled : (rest : List ℕ) → get_or p 0 0 ∷ get_or p 1 0 ∷ get_or p 2 0 ∷ get_or p 3 0 ∷ rest ≡ word_bytes n ++ rest
  unfolding word_bytes
  spelled rest = λ i. get_or (is i) 0 0 ∷ get_or (is i) 1 0 ∷ get_or (is i) 2 0 ∷ get_or (is i) 3 0 ∷ rest

  pub spelled_last : get_or p 0 0 ∷ get_or p 1 0 ∷ get_or p 2 0 ∷ get_or p 3 0 ∷ [] ≡ word_bytes n
  unfolding word_bytes
  spelled_last = λ i. get_or (is i) 0 0 ∷ get_or (is i) 1 0 ∷ get_or (is i) 2 0 ∷ get_or (is i) 3 0 ∷ []

module _ (p q : List ℕ) (m n : ℕ) (is : p ≡ word_bytes m) (next : q ≡ word_bytes n) where
  pub three_words : (r : List ℕ) (o : ℕ) → r ≡ word_bytes o → get_or p 0 0 ∷ get_or p 1 0 ∷ get_or p 2 0 ∷ get_or p 3 0 ∷ get_or q 0 0 ∷ get_or q 1 0 ∷ get_or q 2 0 ∷ get_or q 3 0 ∷ get_or r 0 0 ∷ get_or r 1 0 ∷ get_or r 2 0 ∷ get_or r 3 0 ∷ [] ≡ word_bytes m ++ (word_bytes n ++ word_bytes o)
  three_words r o last = spelled p m is _ ∙ ap (λ l. word_bytes m ++ l) (spelled q n next _ ∙ ap (λ l. word_bytes n ++ l) (spelled_last r o last))
