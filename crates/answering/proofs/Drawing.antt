-- A file drawn at the front of a buffer that has room for it.
use Rattle.std.proofs.Common.{◌≡◌, ℕ, ◌-◌, ◌≤◌, List, length, take, Ok, sym, ap, ◌∙◌, arith}
use native.Mathlib.Nat.{sub-zero}
use Rattle.std.proofs.lemmas.List.{take_at}
use Rattle.files.specs.Placing.{Written}

module _ (size : ℕ) (file before after : List ℕ) (long : length before ≡ size) (short : length file ≤ size) (n : ℕ) (w : Written 0 file before after (Ok n)) where
  counted : n ≡ length file
  counted = let h = (w.written (omega arith)).0 in cc

  pub drawn : take (n - 0) after ≡ file
  drawn = ap (λ m. take m after) (sub-zero n) ∙ ap (take n) (w.written (omega arith)).1 ∙ take_at file _ n (sym counted)
