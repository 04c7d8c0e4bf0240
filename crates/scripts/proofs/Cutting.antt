-- A text cut at the first of a byte.
use Rattle.std.proofs.Common.{◌≡◌, ℕ, Bool, not, nat_lt, is_some, suc, ◌+◌, ◌-◌, ◌<◌, ◌≤◌, true, false, cond, eqb, List, [], ◌∷◌, length, take, drop, Some, None, Option, sym, refl, ap, ◌∙◌, add-one, arith, Bor, MatchOption}
use Rattle.std.proofs.lemmas.List.{take_all, drop_all, take_rest}
use Rattle.std.proofs.lemmas.Bool.{leb-true, leb-false}
use Rattle.std.specs.Prelude.{position}
use Rattle.std.specs.List.{position_or_len}
use Rattle.std.specs.Option.{unwrap_or, option_or}
use Rattle.scripts.specs.Commands.{command_in, command_of}
use Rattle.scripts.specs.Texts.{before, behind, onto, words_of, lines_of}

-- the place that a search finds is behind what stands before it
before_length : (b : ℕ) (text : List ℕ) → position_or_len (λ x. eqb x b) text ≡ length (before b text)
before_length b [] = refl
before_length b (x ∷ xs) =
    elim (eqb x b) as (λ v. cond (not v) (1 + position_or_len (λ y. eqb y b) xs) 0 ≡ length (cond v [] (x ∷ before b xs))) [
      | true ↦ refl
      | false ↦ let h = before_length b xs in omega arith
    ]

some_case : (v : Bool) (m n : ℕ) → cond v (Some m) None ≡ Some n → (n ≡ m) × (v ≡ true)
some_case true m n e = (sym (ap (λ o. unwrap_or o 0) e), refl)
some_case false m n e = absurd (let h = ap is_some e in cc)

none_case : (v : Bool) (m : ℕ) → cond v (Some m) None ≡ None → v ≡ false
none_case true m e = ap is_some e
none_case false m e = refl

module _ (b : ℕ) (text : List ℕ) where
  found_at : cond (nat_lt (length (before b text)) (length text)) (Some (length (before b text))) None ≡ position (λ x. eqb x b) text
  found_at = λ i. cond (nat_lt (sym (before_length b text) i) (length text)) (Some (sym (before_length b text) i)) None

  pub found : (n : ℕ) → position (λ x. eqb x b) text ≡ Some n → (n ≡ length (before b text)) × (n < length text)
  found n e =
      let at = some_case _ _ n (found_at ∙ e) in
      (at.0, let less = leb-true _ _ at.1 in omega arith)

  pub not_found : position (λ x. eqb x b) text ≡ None → length text ≤ length (before b text)
  not_found e = let h = leb-false _ _ (none_case _ _ (found_at ∙ e)) in omega arith

-- the two parts by their lengths
pub take_before : (b : ℕ) (text : List ℕ) → take (length (before b text)) text ≡ before b text
take_before b [] = refl
take_before b (x ∷ xs) =
    elim (eqb x b) as (λ v. take (length (cond v [] (x ∷ before b xs))) (x ∷ xs) ≡ cond v [] (x ∷ before b xs)) [
      | true ↦ refl
      | false ↦ ap (λ l. x ∷ l) (take_before b xs)
    ]

pub drop_behind : (b : ℕ) (text : List ℕ) → drop (suc (length (before b text))) text ≡ behind b text
drop_behind b [] = refl
drop_behind b (x ∷ xs) =
    elim (eqb x b) as (λ v. drop (length (cond v [] (x ∷ before b xs))) xs ≡ cond v xs (behind b xs)) [
      | true ↦ refl
      | false ↦ drop_behind b xs
    ]

pub behind_short : (b : ℕ) (text : List ℕ) → 0 < length text → length (behind b text) < length text
behind_short b [] h = omega arith
behind_short b (x ∷ xs) h =
    elim (eqb x b) as (λ v. length (cond v xs (behind b xs)) < suc (length xs)) [ true ↦ omega arith | false ↦ behind_less b xs ]
  where
    behind_less : (b : ℕ) (text : List ℕ) → length (behind b text) < suc (length text)
    behind_less b [] = omega arith
    behind_less b (x ∷ xs) =
        let h = behind_less b xs in
        elim (eqb x b) as (λ v. length (cond v xs (behind b xs)) < suc (suc (length xs))) [ true ↦ omega arith | false ↦ omega arith ]

-- a text with no blank is one word; else its first word comes before those of the rest
pub one_word : (text : List ℕ) → length (before 32 text) ≡ length text → words_of text ≡ text ∷ []
one_word [] h = refl
one_word (x ∷ xs) h =
    elim (eqb x 32) as (λ v. length (cond v [] (x ∷ before 32 xs)) ≡ suc (length xs) → cond v ([] ∷ words_of xs) (onto x (words_of xs)) ≡ (x ∷ xs) ∷ []) [
      | true ↦ λ k. absurd (omega arith)
      | false ↦ λ k. ap (onto x) (one_word xs (omega arith))
    ] h

pub more_words : (text : List ℕ) → length (before 32 text) < length text → words_of text ≡ before 32 text ∷ words_of (behind 32 text)
more_words [] h = absurd (omega arith)
more_words (x ∷ xs) h =
    elim (eqb x 32) as (λ v. length (cond v [] (x ∷ before 32 xs)) < suc (length xs) → cond v ([] ∷ words_of xs) (onto x (words_of xs)) ≡ cond v [] (x ∷ before 32 xs) ∷ words_of (cond v xs (behind 32 xs))) [
      | true ↦ λ k. refl
      | false ↦ λ k. ap (onto x) (more_words xs (omega arith))
    ] h

-- no more lines than bytes
pub few_lines : (text : List ℕ) → length (lines_of text) ≤ length text
few_lines [] = omega arith
few_lines (x ∷ xs) =
    let h = few_lines xs in
    elim (eqb x 10) as (λ v. length (cond v ([] ∷ lines_of xs) (onto x (lines_of xs))) ≤ suc (length xs)) [
      | true ↦ omega arith
      | false ↦ elim (lines_of xs) as (λ ls. length ls ≤ length xs → length (onto x ls) ≤ suc (length xs)) [ [] ↦ λ k. omega arith | l ∷ ls ↦ λ k. omega arith ] h
    ]

-- the first line of a text, and those of the rest
pub more_lines : (text : List ℕ) → 0 < length text → lines_of text ≡ before 10 text ∷ lines_of (behind 10 text)
more_lines [] h = absurd (omega arith)
more_lines (x ∷ []) h =
    elim (eqb x 10) as (λ v. cond v ([] ∷ []) ((x ∷ []) ∷ []) ≡ cond v [] (x ∷ []) ∷ lines_of (cond v [] [])) [ true ↦ refl | false ↦ refl ]
more_lines (x ∷ y ∷ ys) h =
    elim (eqb x 10) as (λ v. cond v ([] ∷ lines_of (y ∷ ys)) (onto x (lines_of (y ∷ ys))) ≡ cond v [] (x ∷ before 10 (y ∷ ys)) ∷ lines_of (cond v (y ∷ ys) (behind 10 (y ∷ ys)))) [
      | true ↦ refl
      | false ↦ ap (onto x) (more_lines (y ∷ ys) (omega arith))
    ]

-- the parts as the checker reads them
module _ (b : ℕ) (text : List ℕ) (end : ℕ) (is : end ≡ length (before b text)) where
  pub front_is : take end text ≡ before b text
  front_is = ap (λ n. take n text) is ∙ take_before b text

  pub back_is : take (length text - (end + 1)) (drop (end + 1) text) ≡ behind b text
  back_is = take_rest text (end + 1) ∙ ap (λ n. drop n text) (add-one end ∙ ap suc is) ∙ drop_behind b text

  pub no_byte : length text ≤ end → before b text ≡ text
  no_byte h = sym (take_before b text) ∙ take_all (length (before b text)) text (omega arith)

  pub no_back : length text ≤ end → behind b text ≡ []
  no_back h = sym (drop_behind b text) ∙ drop_all (suc (length (before b text))) text (omega arith)

pub words_by : (text : List ℕ) (r : Option (Bor (List ℕ) × Bor (List ℕ)))
    → MatchOption r (before 32 text ≡ text) (λ _. length (before 32 text) < length text)
    → MatchOption r (behind 32 text ≡ []) (λ p. (p.0.now ≡ before 32 text) × (p.1.now ≡ behind 32 text))
    → MatchOption r (words_of text ≡ text ∷ []) (λ p. words_of text ≡ p.0.now ∷ words_of p.1.now)
words_by text None test parts = one_word text (ap length test)
words_by text (Some p) test parts = more_words text test ∙ (λ i. sym parts.0 i ∷ words_of (sym parts.1 i))

pub lines_by : (text line rest : List ℕ) → 0 < length text → line ≡ before 10 text → rest ≡ behind 10 text → lines_of text ≡ line ∷ lines_of rest
lines_by text line rest some front back = more_lines text some ∙ (λ i. sym front i ∷ lines_of (sym back i))

-- a text with no LF is one line, and nothing is behind it
pub first_line : (text : List ℕ) (r : Option (Bor (List ℕ) × Bor (List ℕ))) (whole : Bor (List ℕ) × Bor (List ℕ)) → whole.0.now ≡ text → whole.1.now ≡ []
    → MatchOption r (before 10 text ≡ text) (λ _. length (before 10 text) < length text)
    → MatchOption r (behind 10 text ≡ []) (λ p. (p.0.now ≡ before 10 text) × (p.1.now ≡ behind 10 text))
    → (p : Bor (List ℕ) × Bor (List ℕ)) × (option_or r (Some whole) ≡ Some p) × (p.0.now ≡ before 10 text) × (p.1.now ≡ behind 10 text)
first_line text None whole all none test parts = (whole, refl, all ∙ sym test, none ∙ sym parts)
first_line text (Some p) whole all none test parts = (p, refl, parts.0, parts.1)

-- a text has at least one word, so that a line of four words and more is no command
more_than_four : (a b c d text : List ℕ) → command_in (a ∷ b ∷ c ∷ d ∷ words_of text) ≡ None
more_than_four a b c d [] = refl
more_than_four a b c d (x ∷ xs) =
    elim (eqb x 32) as (λ v. command_in (a ∷ b ∷ c ∷ d ∷ cond v ([] ∷ words_of xs) (onto x (words_of xs))) ≡ None) [
      | true ↦ refl
      | false ↦ elim (words_of xs) as (λ ws. command_in (a ∷ b ∷ c ∷ d ∷ onto x ws) ≡ None) [ [] ↦ refl | w ∷ ws ↦ refl ]
    ]

pub five_words : (line a b c d r s t u : List ℕ)
    → words_of line ≡ a ∷ words_of r → words_of r ≡ b ∷ words_of s → words_of s ≡ c ∷ words_of t → words_of t ≡ d ∷ words_of u
    → None ≡ command_of line
five_words line a b c d r s t u e f g h =
    sym (ap command_in (e ∙ ap (λ l. a ∷ l) (f ∙ ap (λ l. b ∷ l) (g ∙ ap (λ l. c ∷ l) h))) ∙ more_than_four a b c d u)
