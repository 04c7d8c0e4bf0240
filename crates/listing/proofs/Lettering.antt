-- Verdicts written letter by letter.
use Rattle.std.proofs.Common.{◌≡◌, ℕ, ◌+◌, ◌<◌, List, [], ◌∷◌, ◌++◌, map, length, get_or, take, set, sym, ap, ◌∙◌, arith}
use Rattle.std.proofs.lemmas.List.{length-map, length-take-le, map_more}
use Rattle.vocabulary.specs.declared.verdict.Verdict.{Verdict}
use Rattle.vocabulary.specs.Numbers.{letter}
use Rattle.answers.specs.Lines.{letters}
use Rattle.writers.specs.Buffers.{onto}
use Rattle.listing.proofs.Fronts.{Front, push}

-- the first k letters are written: the next comes at `at`, out is what the buffer holds, and old what it held
pub record Lettered (vs : List Verdict) (old out : List ℕ) (at k : ℕ) : Type 0 where
  pub here : at ≡ k + 1
  pub bytes : out ≡ onto (letters (take k vs)) old

module _ {vs : List Verdict} {old out : List ℕ} {at k : ℕ} (so : Lettered vs old out at k) where
  pub lettered_more : (d : Verdict) → k < length vs → length vs < length old → (b : ℕ) → b ≡ letter (get_or vs k d) → Lettered vs old (set out at b) (at + 1) (k + 1)
  lettered_more d h room b is =
      let e = so.here in
      let l = length-map (take k vs) letter ∙ length-take-le k vs (omega arith) in
      let so_far : Front (letters (take k vs)) old out at = record { here = omega arith; bytes = so.bytes } in
      record {
        here = omega arith;
        bytes = (push so_far b (omega arith)).bytes
            ∙ ap (λ x. onto (32 ∷ x) old) (ap (λ x. map letter (take k vs) ++ x ∷ []) is ∙ sym (map_more letter vs k d h));
      }
