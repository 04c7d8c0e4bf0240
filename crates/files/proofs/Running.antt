-- A loop that writes the parts at places 0, 1, .. one behind the other, each by a writer that is lent the rest of the buffer.
use Rattle.std.proofs.Common.{◌≡◌, ℕ, zero, suc, ◌+◌, ◌-◌, ◌<◌, ◌≤◌, List, [], ◌++◌, length, take, drop, sym, refl, ap, ◌∙◌, ⊎_elim, add-one, arith, length-append}
use borrow.Rule.Slice.PartMut.{put_mid}
use Rattle.std.proofs.lemmas.Bool.{cases_eq}
use Rattle.ledger.specs.Views.{joined_below}
use Rattle.writers.specs.Buffers.{onto}
use Rattle.writers.proofs.Lending.{behind, length_onto}

pub joined_none : (f : ℕ → List ℕ) → joined_below 0 f ≡ []
unfolding joined_below
joined_none f = refl

joined_more : (f : ℕ → List ℕ) (n : ℕ) → joined_below (n + 1) f ≡ joined_below n f ++ f n
unfolding joined_below
joined_more f n = rw add-one refl

pub length_more : (f : ℕ → List ℕ) (n : ℕ) → length (joined_below (n + 1) f) ≡ length (joined_below n f) + length (f n)
length_more f n = ap length (joined_more f n) ∙ length-append (joined_below n f) (f n)

-- a part ends before the whole does
ends_within : (f : ℕ → List ℕ) (k n : ℕ) → k < n → length (joined_below k f) + length (f k) ≤ length (joined_below n f)
ends_within f k zero h = absurd (omega arith)
ends_within f k (suc n) h =
    let l = length_more f n in
    let s : length (joined_below (suc n) f) ≡ length (joined_below (n + 1) f) = ap (λ m. length (joined_below m f)) (sym (add-one n)) in
    ⊎_elim
    (λ e. let q : length (joined_below k f) + length (f k) ≡ length (joined_below n f) + length (f n) = ap (λ m. length (joined_below m f) + length (f m)) e in omega arith)
    (λ ne. let p = ends_within f k n (omega arith) in omega arith)
    (cases_eq k n)

-- j of n parts are written: the next begins at `at`, out is what the buffer holds, and old what it held
pub record Run (f : ℕ → List ℕ) (n : ℕ) (old out : List ℕ) (at j : ℕ) : Type 0 where
  pub room : length (joined_below n f) ≤ length old
  pub here : at ≡ length (joined_below j f)
  pub bytes : out ≡ onto (joined_below j f) old

pub run_start : (f : ℕ → List ℕ) (n : ℕ) (old : List ℕ) → length (joined_below n f) ≤ length old → Run f n old old 0 0
run_start f n old h =
    let none = joined_none f in
    record { room = h; here = ap length (sym none); bytes = ap (λ bs. onto bs old) (sym none) }

module _ {f : ℕ → List ℕ} {n : ℕ} {old out : List ℕ} {at j : ℕ} (r : Run f n old out at j) where
  run_length : j < n → length out ≡ length old
  run_length h =
      let p = ends_within f j n h in
      let q = r.room in
      ap length r.bytes ∙ length_onto (joined_below j f) old (omega arith)

  -- the next part fits what is left
  pub run_fits : j < n → at + length (f j) ≤ length out
  run_fits h =
      let p = ends_within f j n h in
      let q = r.room in
      let e = r.here in
      let l = run_length h in
      omega arith

  -- the next part is written by a writer that is lent the rest
  pub run_step : (b : List ℕ) → b ≡ f j → (part : List ℕ) → part ≡ onto b (take (length out - at) (drop at out)) → (m : ℕ) → m ≡ length b → Run f n old (put_mid at (length out - at) out part) (at + m) (j + 1)
  run_step b e part w m k = record {
    room = r.room;
    here =
        let l = length_more f j in
        let q : length b ≡ length (f j) = ap length e in
        let o = r.here in
        omega arith;
    bytes =
        behind old out part (joined_below j f) b at r.here r.bytes w
        ∙ ap (λ x. onto x old) (ap (λ x. joined_below j f ++ x) e ∙ sym (joined_more f j));
  }
