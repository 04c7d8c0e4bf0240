-- Amounts as bytes: read back, and substituted.
use Rattle.std.proofs.Common.{◌≡◌, ℕ, ◌^◌, ◌<◌, true, cond, eqb, List, ℤ, pos, refl, ap, ◌∙◌, arith, w32, SFits}
use lib.Signed.{le_z}
use Rattle.std.proofs.lemmas.Int.{ints}
use Rattle.std.proofs.lemmas.Bool.{and_parts, cond_both}
use Rattle.bounds.specs.Meanings.{Meaning}
use Rattle.bodies.specs.Numbers.{number, word_bytes, number_bytes}
use Rattle.bodies.specs.Bodies.{unless_in_range, between, most_amount, amount_fault}
use Rattle.bodies.proofs.Bytes.{number_back_alone}
use Rattle.charges.specs.Lawful.{PassesReference}
use Rattle.ledger.proofs.Bodies.{sized_none, inside}
use Rattle.ledger.proofs.Anew.{Form, Substitutes}

up_to : (high : ℕ) (z : ℤ) → high < 2 ^ 31 → between (pos 0) (pos high) z ≡ true → SFits w32 z
up_to high z h e = let p = and_parts (le_z (pos 0) z) (le_z z (pos high)) e in grind (arith, ints)

amount_fits : (p : ℕ) (z : ℤ) → between (pos 0) (most_amount p) z ≡ true → SFits w32 z
amount_fits p z =
    let P : ℤ → Type 0 = λ high. between (pos 0) high z ≡ true → SFits w32 z in
    cond_both (eqb p 6) (pos 24) (cond (eqb p 7) (pos 10000) (pos 100000000)) P (λ t e. up_to 24 z (omega arith) e)
    (λ t. cond_both (eqb p 7) (pos 10000) (pos 100000000) P (λ t e. up_to 10000 z (omega arith) e) (λ t e. up_to 100000000 z (omega arith) e))

written_fault : (p : ℕ) (z : ℤ) → amount_fault p (number_bytes z) ≡ unless_in_range (between (pos 0) (most_amount p) (number (number_bytes z)))
unfolding word_bytes
written_fault p z = refl

module _ (p : ℕ) (x : List ℕ) (a : amount_fault p x ≡ 0) where
  within : unless_in_range (between (pos 0) (most_amount p) (number x)) ≡ 0
  within = sized_none 4 x _ a

  amount_back : number (number_bytes (number x)) ≡ number x
  amount_back = number_back_alone (number x) (amount_fits p (number x) (inside _ within))

  amount_again : amount_fault p (number_bytes (number x)) ≡ 0
  amount_again = written_fault p (number x) ∙ ap (λ z. unless_in_range (between (pos 0) (most_amount p) z)) amount_back ∙ within

abbrev pub amount_form : Meaning → ℕ → Form ℤ
amount_form amounts p = record {
  decode = number;
  encode = number_bytes;
  fault = amount_fault p;
  test = amounts;
  substitute = λ reference offer. reference;
}

pub amount_substitutes : (amounts : Meaning) → PassesReference amounts → (p : ℕ) → Substitutes (amount_form amounts p)
amount_substitutes amounts lawful p = record {
  fits = λ x o a b. amount_again p x a;
  back = λ x o a b. amount_back p x a;
  passes = λ l x o a. lawful l (number x);
}
