-- Texts cut into words and lines.
use Rattle.std.specs.Prelude.{ℕ, cond, List, [], ◌∷◌, ◌==◌}

-- what stands before the first b, or all where there is none
abbrev pub before : ℕ → List ℕ → List ℕ
before b [] = []
before b (x ∷ xs) = cond (x == b) [] (x ∷ before b xs)

-- what stands behind the first b, or nothing where there is none
abbrev pub behind : ℕ → List ℕ → List ℕ
behind b [] = []
behind b (x ∷ xs) = cond (x == b) xs (behind b xs)

-- x put in front of the first of the pieces, or a piece by itself where there is none
abbrev pub onto : ℕ → List (List ℕ) → List (List ℕ)
onto x [] = (x ∷ []) ∷ []
onto x (piece ∷ more) = (x ∷ piece) ∷ more

-- each blank, 32, ends a word and begins another, so there is one word more than there are blanks
abbrev pub words_of : List ℕ → List (List ℕ)
words_of [] = [] ∷ []
words_of (x ∷ xs) = cond (x == 32) ([] ∷ words_of xs) (onto x (words_of xs))

-- each LF, 10, ends a line; what follows the last one is a line unless it is nothing
abbrev pub lines_of : List ℕ → List (List ℕ)
lines_of [] = []
lines_of (x ∷ xs) = cond (x == 10) ([] ∷ lines_of xs) (onto x (lines_of xs))
