-- Hex text two digits at a time.
use Rattle.std.proofs.Common.{◌≡◌, ℕ, zero, suc, ◌+◌, ◌*◌, ◌/◌, ◌%◌, ◌<◌, ◌≤◌, true, false, ◌&&◌, List, [], ◌∷◌, ◌++◌, length, get_or, drop, map, refl, ap, ◌∙◌, append_assoc, arith}
use Rattle.std.proofs.lemmas.List.{append-nil, at_drop_all}
use Rattle.scripts.specs.Digits.{is_hex_digit, both_digits, hex_value, is_hex, hex_bytes, hex_digit, hex_of}
use Rattle.std.proofs.lemmas.Bool.{and_from, and_right}
use Rattle.std.specs.List.{list_all}
use Rattle.std.specs.Simd.{first_chunks}
use Rattle.std.proofs.lemmas.Bool.Decides.{nat_tests}

-- the byte that a chunk of two digits says
abbrev pub pair_value : List ℕ → ℕ
pair_value p = 16 * hex_value (get_or p 0 0) + hex_value (get_or p 1 0)

pub pairs_said : (n : ℕ) (text : List ℕ) → n ≡ length text / 2 → map pair_value (first_chunks 2 n text) ≡ hex_bytes text
pairs_said zero [] e = refl
pairs_said zero (a ∷ []) e = refl
pairs_said zero (a ∷ b ∷ more) e = absurd (omega arith)
pairs_said (suc n) [] e = absurd (omega arith)
pairs_said (suc n) (a ∷ []) e = absurd (omega arith)
pairs_said (suc n) (a ∷ b ∷ more) e = ap (λ l. (16 * hex_value a + hex_value b) ∷ l) (pairs_said n more (omega arith))

pub pairs_are_hex : (n : ℕ) (text : List ℕ) → length text ≡ n * 2 → list_all both_digits (first_chunks 2 n text) ≡ is_hex text
pairs_are_hex zero [] e = refl
pairs_are_hex zero (a ∷ more) e = absurd (omega arith)
pairs_are_hex (suc n) [] e = absurd (omega arith)
pairs_are_hex (suc n) (a ∷ []) e = absurd (omega arith)
pairs_are_hex (suc n) (a ∷ b ∷ more) e = ap (λ t. (is_hex_digit a && is_hex_digit b) && t) (pairs_are_hex n more (omega arith))

pub odd_is_not : (n : ℕ) (text : List ℕ) → length text ≡ n * 2 + 1 → is_hex text ≡ false
odd_is_not n [] e = absurd (omega arith)
odd_is_not zero (a ∷ []) e = refl
odd_is_not (suc n) (a ∷ []) e = refl
odd_is_not zero (a ∷ b ∷ more) e = absurd (omega arith)
odd_is_not (suc n) (a ∷ b ∷ more) e = and_right (is_hex_digit a && is_hex_digit b) _ (odd_is_not n more (omega arith))

-- a digit that was written says its number again
digit_again : (n : ℕ) → n < 16 → hex_value (hex_digit n) ≡ n
digit_again n h = grind (arith, nat_tests)

digit_is_hex : (n : ℕ) → n < 16 → is_hex_digit (hex_digit n) ≡ true
digit_is_hex n h = grind (arith, nat_tests)

module _ (b : ℕ) (fits : b < 256) where
  high_fits : b / 16 < 16
  high_fits = omega arith

  low_fits : b % 16 < 16
  low_fits = omega arith

  byte_again : 16 * hex_value (hex_digit (b / 16)) + hex_value (hex_digit (b % 16)) ≡ b
  byte_again =
      let h = digit_again (b / 16) high_fits in
      let l = digit_again (b % 16) low_fits in
      omega arith

  byte_is_hex : (is_hex_digit (hex_digit (b / 16)) && is_hex_digit (hex_digit (b % 16))) ≡ true
  byte_is_hex = and_from _ _ (digit_is_hex (b / 16) high_fits) (digit_is_hex (b % 16) low_fits)

pub written_is_hex : (bytes : List ℕ) → ((i : ℕ) → get_or bytes i 0 < 256) → is_hex (hex_of bytes) ≡ true
written_is_hex [] fit = refl
written_is_hex (b ∷ more) fit = and_from _ _ (byte_is_hex b (fit 0)) (written_is_hex more (λ i. fit (suc i)))

pub written_again : (bytes : List ℕ) → ((i : ℕ) → get_or bytes i 0 < 256) → hex_bytes (hex_of bytes) ≡ bytes
written_again [] fit = refl
written_again (b ∷ more) fit = λ i. byte_again b (fit 0) i ∷ written_again more (λ k. fit (suc k)) i

-- two digits pushed one after the other
pub two_digits : (was one two e f : List ℕ) (d g high low : ℕ) → one ≡ was ++ e → two ≡ one ++ f → e ≡ d ∷ [] → f ≡ g ∷ [] → d ≡ high → g ≡ low
    → two ≡ was ++ high ∷ low ∷ []
two_digits was one two e f d g high low p q r s t u =
    q ∙ (λ i. p i ++ s i) ∙ (λ i. (was ++ r i) ++ g ∷ []) ∙ append_assoc was (d ∷ []) (g ∷ []) ∙ (λ i. was ++ t i ∷ u i ∷ [])

pub all_written : (bytes done : List ℕ) (i : ℕ) → length bytes ≤ i → done ++ hex_of (drop i bytes) ≡ done
all_written bytes done i h = ap (λ l. done ++ l) (at_drop_all hex_of bytes i h) ∙ append-nil done
