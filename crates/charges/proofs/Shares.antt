-- Shares, and the table that they were worked out from.
use Rattle.std.proofs.Common.{◌≡◌, ℕ, ◌+◌, ◌<◌, ◌≤◌, List, get_or, Option, sym, ap, arith}
use mathlib.Core.Path.{fun_ext}
use Rattle.std.proofs.lemmas.Bool.{cond_both}
use Rattle.bounds.specs.Meanings.{Meaning}
use Rattle.vocabulary.specs.declared.product.Product.{Product}
use Rattle.vocabulary.specs.Readings.{Lines}
use Rattle.charges.specs.declared.share.Group.{Group}
use Rattle.charges.specs.declared.share.Share.{Share}
use Rattle.charges.specs.Tables.{Owns}
use Rattle.charges.specs.Groups.{known, total, is_group, brought, offered_in, reference_in, group_verdict, entity_quantity, share, no_share, SharesOf, Small, share_offered, share_reference}
use Rattle.charges.proofs.Totals.{total_same, total_small}

brought_small : (g : Group) (o : Option Group) (q : ℕ) → q ≤ 100000 → brought g o q ≤ 100000
brought_small g o q h = cond_both (is_group g o) q 0 (λ x. x ≤ 100000) (λ _. h) (λ _. omega arith)

module _ (xs : List Share) (small : Small xs) (g : Group) where
  pub offered_small : (k : ℕ) → k < 32 → share_offered xs g k ≤ 100000
  offered_small k h = brought_small g _ _ (small k h).0

  pub reference_small : (k : ℕ) → k < 32 → share_reference xs g k ≤ 100000
  reference_small k h = brought_small g _ _ (small k h).1

-- a sum that is not over yet, and what is added to it
pub sums_small : (f : ℕ → ℕ) (n sum : ℕ) → n ≤ 32 → ((k : ℕ) → k < 32 → f k ≤ 100000) → sum ≡ total f n → sum ≤ 3200000
sums_small f n sum l h e = omega (arith, total_small f n (λ k b. h k (omega arith)))

-- the sums over the shares are those over the table, and so is the verdict
module _ (quantities : Meaning) (lines : Lines) (owns : Owns) (product : Product) (xs : List Share) (made : SharesOf quantities lines owns product xs) where
  offered_same : (g : Group) → total (share_offered xs g) 32 ≡ total (offered_in quantities lines owns product g) 32
  unfolding share
  offered_same g = total_same _ _ 32 (λ k h. ap (λ (s : Share). brought g s.group s.offered) (made k h))

  reference_same : (g : Group) → total (share_reference xs g) 32 ≡ total (reference_in quantities lines owns product g) 32
  unfolding share
  reference_same g = total_same _ _ 32 (λ k h. ap (λ (s : Share). brought g s.group s.reference) (made k h))

  pub verdict_same : (i : ℕ) → i < 32
      → group_verdict quantities lines (λ g. total (share_reference xs g) 32) (λ g. total (share_offered xs g) 32) (get_or xs i no_share).group ≡ entity_quantity quantities lines owns product i
  unfolding share
  verdict_same i h = λ j. group_verdict quantities lines (fun_ext reference_same j) (fun_ext offered_same j) (made i h j).group

-- a share as it is worked out
pub record Made (quantities : Meaning) (lines : Lines) (owns : Owns) (product : Product) (k : ℕ) (s : Share) : Type 0 where
  pub value : s ≡ share quantities lines (owns k) product
  pub small : (s.offered ≤ 100000) × (s.reference ≤ 100000)
