-- Texts of whole lines, and a text parted between two of its lines.
use Rattle.std.proofs.Common.{◌≡◌, ℕ, ◌+◌, ◌<◌, ◌≤◌, true, false, eqb, List, [], ◌∷◌, ◌++◌, length, Some, None, Option, sym, refl, ap, ◌∙◌, subst, ⊎_elim, append_assoc, arith}
use Rattle.std.proofs.lemmas.List.{length-append}
use Rattle.std.proofs.lemmas.Bool.{cases_Bool, cond-true, cond-false}
use Rattle.scripts.specs.Commands.{is}
use Rattle.scripts.specs.Scripts.{under, parted}
use Rattle.scripts.specs.Texts.{before, behind, onto, lines_of}

-- what follows such a text begins a line
abbrev Whole : List ℕ → Type 0
Whole front = (more : List ℕ) → lines_of (front ++ more) ≡ lines_of front ++ lines_of more

both_whole : (a b : List ℕ) → Whole a → Whole b → Whole (a ++ b)
both_whole a b p q more =
    ap lines_of (append_assoc a b more) ∙ p (b ++ more) ∙ ap (λ l. lines_of a ++ l) (q more)
    ∙ sym (append_assoc (lines_of a) (lines_of b) (lines_of more)) ∙ ap (λ l. l ++ lines_of more) (sym (p b))

-- the first line of a text with its LF, if it has one
record First (text piece : List ℕ) : Type 0 where
  split : text ≡ piece ++ behind 10 text
  line : lines_of piece ≡ before 10 text ∷ []
  whole : 0 < length (behind 10 text) → Whole piece

module _ (x : ℕ) (xs : List ℕ) where
  first_lf : eqb x 10 ≡ true → First (x ∷ xs) (x ∷ [])
  first_lf e = record {
    split = ap (λ l. x ∷ l) (sym (cond-true (eqb x 10) xs (behind 10 xs) e));
    line = cond-true (eqb x 10) ([] ∷ []) ((x ∷ []) ∷ []) e ∙ ap (λ l. l ∷ []) (sym (cond-true (eqb x 10) [] (x ∷ before 10 xs) e));
    whole = λ h more.
        cond-true (eqb x 10) ([] ∷ lines_of more) (onto x (lines_of more)) e
        ∙ ap (λ l. l ++ lines_of more) (sym (cond-true (eqb x 10) ([] ∷ []) ((x ∷ []) ∷ []) e));
  }

first_alone : (x : ℕ) → eqb x 10 ≡ false → First (x ∷ []) (x ∷ [])
first_alone x e = record {
  split = ap (λ l. x ∷ l) (sym (cond-false (eqb x 10) [] [] e));
  line = cond-false (eqb x 10) ([] ∷ []) ((x ∷ []) ∷ []) e ∙ ap (λ l. l ∷ []) (sym (cond-false (eqb x 10) [] (x ∷ []) e));
  whole = λ h. absurd (let none : length (behind 10 (x ∷ [])) ≡ 0 = ap length (cond-false (eqb x 10) [] [] e) in omega arith);
}

first_more : (x : ℕ) (xs piece : List ℕ) → eqb x 10 ≡ false → First xs piece → First (x ∷ xs) (x ∷ piece)
first_more x xs piece e f =
    let back = cond-false (eqb x 10) xs (behind 10 xs) e in
    let front = λ (l : List ℕ). cond-false (eqb x 10) ([] ∷ lines_of l) (onto x (lines_of l)) e in
    record {
      split = ap (λ l. x ∷ l) (f.split ∙ ap (λ l. piece ++ l) (sym back));
      line = front piece ∙ ap (onto x) f.line ∙ ap (λ l. l ∷ []) (sym (cond-false (eqb x 10) [] (x ∷ before 10 xs) e));
      whole = λ h more.
          front (piece ++ more)
          ∙ ap (onto x) (f.whole (subst (λ l. 0 < length l) back h) more ∙ ap (λ l. l ++ lines_of more) f.line)
          ∙ ap (λ l. l ++ lines_of more) (sym (front piece ∙ ap (onto x) f.line));
    }

first_of : (text : List ℕ) → 0 < length text → (piece : List ℕ) × First text piece
first_of [] h = absurd (omega arith)
first_of (x ∷ []) h = ⊎_elim (λ e. (x ∷ [], first_lf x [] e)) (λ e. (x ∷ [], first_alone x e)) (cases_Bool (eqb x 10))
first_of (x ∷ y ∷ ys) h =
    let rest = first_of (y ∷ ys) (omega arith) in
    ⊎_elim (λ e. (x ∷ [], first_lf x (y ∷ ys) e)) (λ e. (x ∷ rest.0, first_more x (y ∷ ys) rest.0 e rest.1)) (cases_Bool (eqb x 10))

-- lines in front of those above a parting
abbrev over : List (List ℕ) → Option (List (List ℕ) × List (List ℕ)) → Option (List (List ℕ) × List (List ℕ))
over lines None = None
over lines (Some parts) = Some (lines ++ parts.0, parts.1)

over_more : (lines : List (List ℕ)) (line : List ℕ) (r : Option (List (List ℕ) × List (List ℕ))) → over lines (under line r) ≡ over (lines ++ line ∷ []) r
over_more lines line None = refl
over_more lines line (Some parts) = ap (λ l. Some (l, parts.1)) (sym (append_assoc lines (line ∷ []) parts.0))

-- no line of `front` is a parting; `number` lines are done and `rest` is left
pub record Unparted (text rest : List ℕ) (number : ℕ) : Type 0 where
  pub front : List ℕ
  pub split : text ≡ front ++ rest
  pub whole : 0 < length rest → Whole front
  pub left : parted (lines_of text) ≡ over (lines_of front) (parted (lines_of rest))
  pub count : number ≡ length (lines_of front)
  pub fits : number + length rest ≤ length text

module _ {text rest : List ℕ} {number : ℕ} (so : Unparted text rest number) where
  module _ (line more : List ℕ) (cut : lines_of rest ≡ line ∷ lines_of more) where
    pub parts_later : 0 < length rest → is line "--" ≡ false → line ≡ before 10 rest → more ≡ behind 10 rest → length more < length rest → Unparted text more (number + 1)
    parts_later some e first behind-is shorter =
        let f = first_of rest some in
        let piece = f.0 in
        let front-lines : lines_of (so.front ++ f.0) ≡ lines_of so.front ++ line ∷ []
        = so.whole some f.0 ∙ ap (λ l. lines_of so.front ++ l) (f.1.line ∙ ap (λ l. l ∷ []) (sym first)) in
        let counted = ap length front-lines ∙ length-append (lines_of so.front) (line ∷ []) in
        record {
          front = so.front ++ piece;
          split = so.split ∙ ap (λ l. so.front ++ l) (f.1.split ∙ ap (λ l. piece ++ l) (sym behind-is)) ∙ sym (append_assoc so.front piece more);
          whole = λ h. both_whole so.front piece (so.whole some) (f.1.whole (subst (λ l. 0 < length l) behind-is h));
          left =
              so.left ∙ ap (λ l. over (lines_of so.front) (parted l)) cut ∙ ap (over (lines_of so.front)) (cond-false _ _ _ e)
              ∙ over_more (lines_of so.front) line (parted (lines_of more)) ∙ ap (λ l. over l (parted (lines_of more))) (sym front-lines);
          count = ap (λ n. n + 1) so.count ∙ sym counted;
          fits = let was = so.fits in omega arith;
        }
