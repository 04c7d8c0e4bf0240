-- Numbers and their bytes, there and back.
use Rattle.std.proofs.Common.{◌≡◌, ℕ, ◌+◌, ◌*◌, ◌/◌, ◌%◌, ◌^◌, ◌<◌, ◌≤◌, List, [], ◌∷◌, ◌++◌, length, get_or, take, drop, ℤ, sym, refl, ap, ◌∙◌, mod-eq_of_lt, arith, length-drop, w32, SFits, to_z, of_z}
use native.Mathlib.Nat.{div-div-eq-div-mul}
use Rattle.std.proofs.lemmas.Nat.{div-add-mod'}
use Rattle.std.proofs.lemmas.List.{get_or-drop}
use Rattle.std.proofs.lemmas.Int.{to_z-of_z, of_z-to_z, ints}
use Rattle.bodies.specs.Numbers.{word, number, word_bytes, number_bytes}

joined : (u a b c d e f g : ℕ) → a * 256 + d ≡ u → b * 256 + e ≡ a → c * 256 + f ≡ b → g ≡ c → g * 16777216 + f * 65536 + e * 256 + d ≡ u
joined u a b c d e f g p q r s = omega arith

-- a word is put together again from its bytes, whatever follows them
pub word_back : (u : ℕ) (rest : List ℕ) → u < 2 ^ 32 → word (word_bytes u ++ rest) ≡ u
unfolding word word_bytes
word_back u rest h =
    let p : u / 256 * 256 + u % 256 ≡ u = div-add-mod' u 256 in
    let q : u / 65536 * 256 + u / 256 % 256 ≡ u / 256 = rw (← div-div-eq-div-mul u 256 256) (div-add-mod' (u / 256) 256) in
    let r : u / 16777216 * 256 + u / 65536 % 256 ≡ u / 65536 = rw (← div-div-eq-div-mul u 65536 256) (div-add-mod' (u / 65536) 256) in
    let s : u / 16777216 % 256 ≡ u / 16777216 = mod-eq_of_lt (omega arith) in
    joined u (u / 256) (u / 65536) (u / 16777216) (u % 256) (u / 256 % 256) (u / 65536 % 256) (u / 16777216 % 256) p q r s

pub word_back_alone : (u : ℕ) → u < 2 ^ 32 → word (word_bytes u) ≡ u
unfolding word_bytes
word_back_alone u h = word_back u [] h

unsigned_fits : (z : ℤ) → SFits w32 z → of_z w32 z < 2 ^ 32
unsigned_fits z f = omega (arith, ints)

pub number_back : (z : ℤ) (rest : List ℕ) → SFits w32 z → number (number_bytes z ++ rest) ≡ z
unfolding number
number_back z rest f = ap (to_z w32) (word_back (of_z w32 z) rest (unsigned_fits z f)) ∙ to_z-of_z w32 z f

pub number_back_alone : (z : ℤ) → SFits w32 z → number (number_bytes z) ≡ z
unfolding word_bytes
number_back_alone z f = number_back z [] f

module _ (a b c d : ℕ) (ha : a < 256) (hb : b < 256) (hc : c < 256) (hd : d < 256) where
  high : (a * 16777216 + b * 65536 + c * 256 + d) / 16777216 % 256 ≡ a
  high = omega arith

  second : (a * 16777216 + b * 65536 + c * 256 + d) / 65536 % 256 ≡ b
  second = omega arith

  third : (a * 16777216 + b * 65536 + c * 256 + d) / 256 % 256 ≡ c
  third = omega arith

  low : (a * 16777216 + b * 65536 + c * 256 + d) % 256 ≡ d
  low = omega arith

  pub word_small : a * 16777216 + b * 65536 + c * 256 + d < 2 ^ 32
  word_small = omega arith

  cut : word_bytes (a * 16777216 + b * 65536 + c * 256 + d) ≡ a ∷ b ∷ c ∷ d ∷ []
  unfolding word_bytes
  cut = λ i. high i ∷ second i ∷ third i ∷ low i ∷ []

front : (bs : List ℕ) → 4 ≤ length bs → take 4 bs ≡ get_or bs 0 0 ∷ get_or bs 1 0 ∷ get_or bs 2 0 ∷ get_or bs 3 0 ∷ []
front [] h = absurd (omega arith)
front (a ∷ []) h = absurd (omega arith)
front (a ∷ b ∷ []) h = absurd (omega arith)
front (a ∷ b ∷ c ∷ []) h = absurd (omega arith)
front (a ∷ b ∷ c ∷ d ∷ bs) h = refl

-- the bytes of the word that four bytes make are those four
pub word_again : (bs : List ℕ) → 4 ≤ length bs → get_or bs 0 0 < 256 → get_or bs 1 0 < 256 → get_or bs 2 0 < 256 → get_or bs 3 0 < 256 → word_bytes (word bs) ≡ take 4 bs
unfolding word
word_again bs h a b c d = cut _ _ _ _ a b c d ∙ sym (front bs h)

-- the same for the four from `at` on
pub word_again_at : (bs : List ℕ) (at : ℕ) → at + 4 ≤ length bs → get_or bs at 0 < 256 → get_or bs (at + 1) 0 < 256 → get_or bs (at + 2) 0 < 256 → get_or bs (at + 3) 0 < 256 → word_bytes (word (drop at bs)) ≡ take 4 (drop at bs)
word_again_at bs at h a b c d =
    let here : get_or (drop at bs) 0 0 ≡ get_or bs at 0 = get_or-drop at bs 0 0 ∙ ap (λ n. get_or bs n 0) (omega arith) in
    let next = get_or-drop at bs 1 0 in
    let third = get_or-drop at bs 2 0 in
    let last = get_or-drop at bs 3 0 in
    word_again (drop at bs) (simp length-drop (omega arith)) (omega arith) (omega arith) (omega arith) (omega arith)

-- every element is a byte
abbrev pub Octets : List ℕ → Type 0
Octets bs = (i : ℕ) → get_or bs i 0 < 256

pub octets_drop : (n : ℕ) (bs : List ℕ) → Octets bs → Octets (drop n bs)
octets_drop n bs byte i = rw (get_or-drop n bs i 0) (byte (n + i))

pub word_front : (bs : List ℕ) → 4 ≤ length bs → Octets bs → word_bytes (word bs) ≡ take 4 bs
word_front bs h byte = word_again bs h (byte 0) (byte 1) (byte 2) (byte 3)

word_fits : (bs : List ℕ) → Octets bs → word bs < 2 ^ 32
unfolding word
word_fits bs byte = word_small _ _ _ _ (byte 0) (byte 1) (byte 2) (byte 3)

pub number_front : (bs : List ℕ) → 4 ≤ length bs → Octets bs → number_bytes (number bs) ≡ take 4 bs
unfolding number
number_front bs h byte = ap word_bytes (of_z-to_z w32 (word bs) (word_fits bs byte)) ∙ word_front bs h byte
