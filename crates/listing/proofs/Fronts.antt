-- A buffer that is written part by part, from its front on.
use Rattle.std.proofs.Common.{◌≡◌, ℕ, ◌+◌, ◌-◌, ◌<◌, List, [], ◌∷◌, ◌++◌, length, take, drop, set, sym, ap, ◌∙◌, append_assoc, arith, length-append}
use borrow.Rule.Slice.PartMut.{put_mid}
use Rattle.std.proofs.lemmas.List.{length_push, drop_more, set_at}
use Rattle.writers.specs.Buffers.{onto}
use Rattle.writers.proofs.Lending.{behind}

-- a is written: the next part begins at `at`, out is what the buffer holds, and old what it held
pub record Front (a old out : List ℕ) (at : ℕ) : Type 0 where
  pub here : at ≡ length a
  pub bytes : out ≡ onto a old

module _ {a old out : List ℕ} {at : ℕ} (so : Front a old out at) where
  -- the next part is one byte
  pub push : (b : ℕ) → length a < length old → Front (a ++ b ∷ []) old (set out at b) (at + 1)
  push b h = record {
    here = ap (λ n. n + 1) so.here ∙ sym (length_push a b);
    bytes =
        ap (λ x. set x at b) (so.bytes ∙ ap (λ x. a ++ x) (drop_more old (length a) 0 h))
        ∙ set_at a _ _ b at (sym so.here)
        ∙ simp (append_assoc, length_push);
  }

  -- the next part is written by a writer that is lent the rest
  pub more : (b part : List ℕ) (m : ℕ) → m ≡ length b → part ≡ onto b (take (length out - at) (drop at out)) → Front (a ++ b) old (put_mid at (length out - at) out part) (at + m)
  more b part m e w = record {
    here =
        let k = so.here in
        simp length-append (omega arith);
    bytes = behind old out part a b at so.here so.bytes w;
  }
