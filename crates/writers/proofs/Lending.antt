-- A buffer whose rest is lent on.
use Rattle.std.proofs.Common.{◌≡◌, ℕ, ◌+◌, ◌-◌, ◌*◌, ◌<◌, ◌≤◌, List, [], ◌∷◌, ◌++◌, length, get_or, take, drop, sym, refl, ap, ◌∙◌, append_assoc, arith, length-append, length-drop}
use borrow.Rule.Slice.PartMut.{put_mid}
use Rattle.std.proofs.lemmas.List.{take_all, take_at, drop_at, take_rest, take_more, drop-drop, drop_all, append-nil, length-take-le}
use Rattle.curves.specs.declared.step.Step.{Step}
use Rattle.bodies.specs.Curves.{step_bytes, curve_bytes}
use Rattle.entries.specs.Files.{head_bytes, entry_bytes}
use Rattle.bodies.specs.Numbers.{word_bytes}
use Rattle.entries.specs.declared.head.Head.{Head}
use Rattle.bodies.proofs.Backs.{length_curve}
use Rattle.writers.specs.Buffers.{onto}

onto_twice : (old a b : List ℕ) → a ++ onto b (drop (length a) old) ≡ onto (a ++ b) old
onto_twice old a b = simp (length-append, drop-drop, append_assoc)

-- b is written into the rest of a buffer that has a in front
pub behind : (old out part a b : List ℕ) (at : ℕ) → at ≡ length a → out ≡ onto a old → part ≡ onto b (take (length out - at) (drop at out)) → put_mid at (length out - at) out part ≡ onto (a ++ b) old
behind old out part a b at e o w =
    let front : take at out ≡ a = ap (take at) o ∙ take_at a (drop (length a) old) at (sym e) in
    let back : drop at out ≡ drop (length a) old = ap (drop at) o ∙ drop_at a (drop (length a) old) at (sym e) in
    let rest = take_rest out at in
    let none : drop (length out - at) (drop at out) ≡ [] = drop_all (length out - at) (drop at out) (simp length-drop (omega arith)) in
    let nil = append-nil part in
    let two = onto_twice old a b in
    cc

pub length_onto : (bs old : List ℕ) → length bs ≤ length old → length (onto bs old) ≡ length old
length_onto bs old h = simp (length-append, length-drop) (omega arith)

-- the first k steps are written: the next begins at `at`, out is what the buffer holds, and old what it held
pub record Stepped (steps : List Step) (old out : List ℕ) (at k : ℕ) : Type 0 where
  pub here : at ≡ 8 * k
  pub bytes : out ≡ onto (curve_bytes (take k steps)) old

length_step : (s : Step) → length (step_bytes s) ≡ 8
unfolding word_bytes
length_step s = refl

pub curve_push : (ss : List Step) (s : Step) → curve_bytes (ss ++ s ∷ []) ≡ curve_bytes ss ++ step_bytes s
curve_push [] s = append-nil (step_bytes s)
curve_push (t ∷ ss) s = ap (λ l. step_bytes t ++ l) (curve_push ss s) ∙ sym (append_assoc (step_bytes t) (curve_bytes ss) (step_bytes s))

module _ {steps : List Step} {old out : List ℕ} {at k : ℕ} (so : Stepped steps old out at k) where
  pub front : k ≤ length steps → length (curve_bytes (take k steps)) ≡ 8 * k
  front h = length_curve (take k steps) ∙ ap (λ n. 8 * n) (length-take-le k steps h)

  pub stepped_more : (d : Step) → k < length steps → (b part : List ℕ) → b ≡ step_bytes (get_or steps k d) → part ≡ onto b (take (length out - at) (drop at out)) → (m : ℕ) → m ≡ length b → Stepped steps old (put_mid at (length out - at) out part) (at + m) (k + 1)
  stepped_more d h b part is w m e =
      let l = front (omega arith) in
      let o = so.here in
      let eight : m ≡ 8 = e ∙ ap length is ∙ length_step (get_or steps k d) in
      record {
        here = omega arith;
        bytes = behind old out part (curve_bytes (take k steps)) b at (omega arith) so.bytes w
            ∙ ap (λ x. onto x old) (ap (λ x. curve_bytes (take k steps) ++ x) is ∙ sym (curve_push (take k steps) (get_or steps k d)) ∙ ap curve_bytes (sym (take_more steps k d h)));
      }

  pub stepped_end : k ≡ length steps → (at ≡ length (curve_bytes steps)) × (out ≡ onto (curve_bytes steps) old)
  stepped_end e =
      let o = so.here in
      let long = length_curve steps in
      (omega arith, so.bytes ∙ ap (λ x. onto (curve_bytes x) old) (take_all k steps (omega arith)))

-- the head of an entry has the length of its body
pub headed : (h : Head) (n : ℕ) (body old : List ℕ) → n ≡ length body → onto (head_bytes h n ++ body) old ≡ onto (entry_bytes h body) old
headed h n body old e = ap (λ m. onto (head_bytes h m ++ body) old) e
