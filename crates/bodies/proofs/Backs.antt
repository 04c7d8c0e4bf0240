-- Values whose bytes read back: terms, and steps with each number in its range.
use Rattle.std.proofs.Common.{◌≡◌, ℕ, ◌+◌, ◌*◌, ◌/◌, true, ◌&&◌, leb, List, [], ◌∷◌, ◌++◌, length, drop, ℤ, pos, negsuc, refl, ap, ◌∙◌, append_assoc, arith, w32, SFits, of_z}
use lib.Signed.{le_z}
use Rattle.std.proofs.lemmas.Int.{ints}
use Rattle.std.proofs.lemmas.Bool.{and_parts, leb-true}
use Rattle.bounds.specs.Ranges.{in_price_range}
use Rattle.curves.specs.declared.step.Step.{Step}
use Rattle.vocabulary.specs.declared.lines.Terms.{Terms}
use Rattle.bodies.specs.Numbers.{word, number, word_bytes, number_bytes}
use Rattle.bodies.specs.Bodies.{terms_of, terms_bytes}
use Rattle.bodies.specs.Curves.{step_of, first_steps, curve_steps, step_bytes, curve_bytes, in_step_range, all_in_range}
use Rattle.bodies.proofs.Bytes.{word_back, number_back, number_back_alone}

one_off : (m : ℕ) (rest : List ℕ) → drop 4 (word_bytes m ++ rest) ≡ rest
unfolding word_bytes
one_off m rest = refl

two_off : (m n : ℕ) (rest : List ℕ) → drop 8 (word_bytes m ++ (word_bytes n ++ rest)) ≡ rest
unfolding word_bytes
two_off m n rest = refl

only_four : (n : ℕ) (rest : List ℕ) → word (word_bytes n ++ rest) ≡ word (word_bytes n)
unfolding word word_bytes
only_four n rest = refl

module _ (t : Terms) (p : word (word_bytes t.percent) ≡ t.percent) (c : word (word_bytes t.«cap») ≡ t.«cap») (f : SFits w32 t.floor) where
  pub terms_back : terms_of (terms_bytes t) ≡ t
  terms_back =
      let last = number_bytes t.floor in
      λ i. record {
        percent = (only_four t.percent (word_bytes t.«cap» ++ last) ∙ p) i;
        «cap» = (ap word (one_off t.percent (word_bytes t.«cap» ++ last)) ∙ only_four t.«cap» last ∙ c) i;
        floor = (ap number (two_off t.percent t.«cap» last) ∙ number_back_alone t.floor f) i;
      }

pub price_fits : (z : ℤ) → in_price_range z ≡ true → SFits w32 z
price_fits z e = let p = and_parts (le_z (negsuc 9999) z) (le_z z (pos 200000)) e in grind (arith, ints)

step_off : (s : Step) (rest : List ℕ) → drop 8 (step_bytes s ++ rest) ≡ rest
unfolding word_bytes
step_off s rest = refl

length_step : (s : Step) (rest : List ℕ) → length (step_bytes s ++ rest) ≡ 8 + length rest
unfolding word_bytes
length_step s rest = omega arith

step_back : (s : Step) (rest : List ℕ) → in_step_range s ≡ true → step_of (step_bytes s ++ rest) ≡ s
step_back s rest h =
    let p = and_parts (in_price_range s.price) (leb 1 s.end && leb s.end 100000) h in
    let small = leb-true s.end 100000 (and_parts (leb 1 s.end) (leb s.end 100000) p.1).1 in
    let price = number_bytes s.price in
    let end = word_bytes s.end in
    ap step_of (append_assoc price end rest)
    ∙ (λ i. record {
      price = number_back s.price (end ++ rest) (price_fits s.price p.0) i;
      end = (ap word (one_off (of_z w32 s.price) (end ++ rest)) ∙ word_back s.end rest (omega arith)) i;
    })

pub length_curve : (ss : List Step) → length (curve_bytes ss) ≡ 8 * length ss
length_curve [] = refl
length_curve (s ∷ ss) = let a = length_step s (curve_bytes ss) in let b = length_curve ss in omega arith

steps_back : (ss : List Step) → all_in_range ss ≡ true → first_steps (length ss) (curve_bytes ss) ≡ ss
steps_back [] h = refl
steps_back (s ∷ ss) h =
    let p = and_parts (in_step_range s) (all_in_range ss) h in
    (λ i. step_back s (curve_bytes ss) p.0 i ∷ first_steps (length ss) (step_off s (curve_bytes ss) i)) ∙ ap (λ l. s ∷ l) (steps_back ss p.1)

pub curve_back : (ss : List Step) → all_in_range ss ≡ true → curve_steps (curve_bytes ss) ≡ ss
curve_back ss h =
    let l = length_curve ss in
    let e : length (curve_bytes ss) / 8 ≡ length ss = omega arith in
    ap (λ k. first_steps k (curve_bytes ss)) e ∙ steps_back ss h
