-- A curve read chunk by chunk, and written again.
use Rattle.std.proofs.Common.{◌≡◌, ℕ, zero, suc, ◌+◌, ◌*◌, ◌/◌, ◌%◌, ◌<◌, ◌≤◌, Bool, true, false, cond, eqb, leb, ◌&&◌, ◌⊎◌, List, [], ◌∷◌, ◌++◌, length, get_or, take, drop, set, map, sym, refl, ap, ◌∙◌, ⊎_elim, append_assoc, arith, length-drop, length-set, take-append-drop}
use mathlib.Core.Bool.{and-false}
use Rattle.std.specs.Simd.{first_chunks}
use Rattle.std.proofs.lemmas.List.{drop-drop, take_more_set, map_more, take_all, nil_from_length}
use Rattle.std.proofs.lemmas.Bool.{lt-leb, le-leb, eq-eqb, and_from, and_parts, and_right, cond-true, cond_both}
use Rattle.curves.specs.declared.step.Step.{Step}
use Rattle.curves.specs.Steps.{in_order}
use Rattle.bodies.specs.Bodies.{most_steps}
use Rattle.bodies.specs.Numbers.{word, number, word_bytes, number_bytes}
use Rattle.bodies.specs.Curves.{step_of, first_steps, curve_steps, step_bytes, curve_bytes, in_step_range, all_in_range, steps_fault}
use Rattle.bodies.proofs.Bytes.{Octets, octets_drop, word_front, number_front}

step_front : (bs : List ℕ) → 8 ≤ length bs → Octets bs → step_bytes (step_of bs) ++ drop 8 bs ≡ bs
step_front bs h byte =
    let price = number_front bs (omega arith) byte in
    let end = word_front (drop 4 bs) (simp length-drop (omega arith)) (octets_drop 4 bs byte) in
    let rest : drop 8 bs ≡ drop 4 (drop 4 bs) = sym (drop-drop 4 4 bs) in
    append_assoc (number_bytes (number bs)) (word_bytes (word (drop 4 bs))) (drop 8 bs)
    ∙ (λ i. price i ++ (end i ++ rest i))
    ∙ ap (λ l. take 4 bs ++ l) (take-append-drop 4 (drop 4 bs))
    ∙ take-append-drop 4 bs

steps_again : (n : ℕ) (bs : List ℕ) → length bs ≡ n * 8 → Octets bs → curve_bytes (first_steps n bs) ≡ bs
steps_again zero bs h byte = sym (nil_from_length bs (omega arith))
steps_again (suc n) bs h byte =
    ap (λ l. step_bytes (step_of bs) ++ l) (steps_again n (drop 8 bs) (simp length-drop (omega arith)) (octets_drop 8 bs byte))
    ∙ step_front bs (omega arith) byte

-- a whole body is written again as it was
pub curve_again : (body : List ℕ) → length body % 8 ≡ 0 → Octets body → curve_bytes (curve_steps body) ≡ body
curve_again body h byte = steps_again (length body / 8) body (omega arith) byte

length_steps : (n : ℕ) (bs : List ℕ) → length (first_steps n bs) ≡ n
length_steps zero bs = refl
length_steps (suc n) bs = ap suc (length_steps n (drop 8 bs))

pub length_curve_steps : (body : List ℕ) → length (curve_steps body) ≡ length body / 8
length_curve_steps body = length_steps (length body / 8) body

-- a step is what its own eight bytes say
step_alone : (bs : List ℕ) → step_of (take 8 bs) ≡ step_of bs
unfolding word number
step_alone [] = refl
step_alone (a ∷ []) = refl
step_alone (a ∷ b ∷ []) = refl
step_alone (a ∷ b ∷ c ∷ []) = refl
step_alone (a ∷ b ∷ c ∷ d ∷ []) = refl
step_alone (a ∷ b ∷ c ∷ d ∷ e ∷ []) = refl
step_alone (a ∷ b ∷ c ∷ d ∷ e ∷ f ∷ []) = refl
step_alone (a ∷ b ∷ c ∷ d ∷ e ∷ f ∷ g ∷ []) = refl
step_alone (a ∷ b ∷ c ∷ d ∷ e ∷ f ∷ g ∷ h ∷ bs) = refl

steps_chunked : (n : ℕ) (bs : List ℕ) → map step_of (first_chunks 8 n bs) ≡ first_steps n bs
steps_chunked zero bs = refl
steps_chunked (suc n) bs = λ i. step_alone bs i ∷ steps_chunked n (drop 8 bs) i

-- the steps of a body are those of its chunks
pub curve_chunked : (body : List ℕ) (chunks : List (List ℕ)) → chunks ≡ first_chunks 8 (length body / 8) body → curve_steps body ≡ map step_of chunks
curve_chunked body chunks is = sym (ap (map step_of) is ∙ steps_chunked (length body / 8) body)

range_more : (ss : List Step) (s : Step) → all_in_range ss ≡ true → in_step_range s ≡ true → all_in_range (ss ++ s ∷ []) ≡ true
range_more [] s a h = rw h
range_more (t ∷ ss) s a h = and_from _ _ (and_parts _ _ a).0 (range_more ss s (and_parts _ _ a).1 h)

-- one chunk out of range is enough
pub range_not : (chunks : List (List ℕ)) (m : ℕ) (s : Step) → m < length chunks → s ≡ step_of (get_or chunks m []) → false ≡ in_step_range s → all_in_range (map step_of chunks) ≡ false
range_not [] m s h e f = absurd (omega arith)
range_not (x ∷ chunks) zero s h e f = ap (λ t. in_step_range t && all_in_range (map step_of chunks)) (sym e) ∙ ap (λ b. b && all_in_range (map step_of chunks)) (sym f)
range_not (x ∷ chunks) (suc m) s h e f = and_right (in_step_range (step_of x)) _ (range_not chunks m s (omega arith) e f)

pub most_few : (parameter : ℕ) → most_steps parameter ≤ 20
most_few parameter = cond_both (eqb parameter 0) 20 5 (λ n. n ≤ 20) (λ _. omega arith) (λ _. omega arith)

module _ (most : ℕ) (body : List ℕ) (whole : length body % 8 ≡ 0) where
  -- a body of whole steps has the fault of its steps
  whole_fault : (n : ℕ) → n ≡ steps_fault most (curve_steps body) → n ≡ cond (eqb (length body % 8) 0) (steps_fault most (curve_steps body)) 5
  whole_fault n e = e ∙ sym (cond-true _ _ _ (eq-eqb (length body % 8) 0 whole))

  pub count_fault : (length body / 8 < 1) ⊎ (most < length body / 8) → 6 ≡ cond (eqb (length body % 8) 0) (steps_fault most (curve_steps body)) 5
  count_fault w =
      let n = length (curve_steps body) in
      let long = length_curve_steps body in
      whole_fault 6 (⊎_elim
      (λ h. rw (lt-leb 1 (length (curve_steps body)) (omega arith)))
      (λ h. rw (lt-leb (length (curve_steps body)) most (omega arith), and-false (leb 1 (length (curve_steps body)))))
      w)

  -- so many steps have the fault of their range and order
  pub counted_fault : 1 ≤ length body / 8 → length body / 8 ≤ most → (n : ℕ) → n ≡ cond (all_in_range (curve_steps body)) (cond (in_order (curve_steps body)) 0 7) 6 → n ≡ cond (eqb (length body % 8) 0) (steps_fault most (curve_steps body)) 5
  counted_fault low high n e =
      let long = length_curve_steps body in
      let a = le-leb 1 (length (curve_steps body)) (omega arith) in
      let b = le-leb (length (curve_steps body)) most (omega arith) in
      whole_fault n (rw (a, b) e)

-- the first m chunks are read, each in its range
pub record Sofar (chunks : List (List ℕ)) (ss : List Step) (m : ℕ) : Type 0 where
  pub read : take m ss ≡ map step_of (take m chunks)
  pub fit : all_in_range (take m ss) ≡ true
  pub room : length ss ≡ 20

module _ {chunks : List (List ℕ)} {ss : List Step} {m : ℕ} (so : Sofar chunks ss m) where
  pub row_more : (s : Step) → m < length chunks → length chunks ≤ 20 → s ≡ step_of (get_or chunks m []) → true ≡ in_step_range s → Sofar chunks (set ss m s) (m + 1)
  row_more s h few e f =
      let lt : m < length ss = omega (arith, so.room) in
      record {
        read = take_more_set ss m s lt ∙ (λ i. so.read i ++ e i ∷ []) ∙ sym (map_more step_of chunks m [] h);
        fit = rw (take_more_set ss m s lt) (range_more (take m ss) s so.fit (sym f));
        room = length-set ss m s ∙ so.room;
      }

  -- all chunks are read, n of them
  module _ (body : List ℕ) (n : ℕ) (is : chunks ≡ first_chunks 8 (length body / 8) body) (all : length chunks ≤ m) (e : n ≡ m) where
    pub row_whole : take n ss ≡ curve_steps body
    row_whole = ap (λ k. take k ss) e ∙ so.read ∙ ap (map step_of) (take_all m chunks all) ∙ sym (curve_chunked body chunks is)

    pub row_ordered : (r : Bool) → r ≡ in_order (take n ss) → r ≡ in_order (curve_steps body)
    row_ordered r o = o ∙ ap in_order row_whole

    pub row_order : (r : Bool) → r ≡ in_order (take n ss) → ◌≡◌ {A = ℕ} (cond r 0 7) (cond (all_in_range (curve_steps body)) (cond (in_order (curve_steps body)) 0 7) 6)
    row_order r o =
        let fit : all_in_range (curve_steps body) ≡ true = ap all_in_range (sym row_whole) ∙ ap (λ k. all_in_range (take k ss)) e ∙ so.fit in
        ap (λ b. cond b 0 7) (row_ordered r o) ∙ sym (cond-true _ _ _ fit)
