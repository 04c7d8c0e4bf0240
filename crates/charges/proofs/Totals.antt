-- Sums over the numbers below n.
use Rattle.std.proofs.Common.{◌≡◌, ℕ, zero, suc, ◌+◌, ◌*◌, ◌<◌, ◌≤◌, refl, mul-suc, add-one, arith}
use Rattle.charges.specs.Groups.{total}

pub total_none : (f : ℕ → ℕ) → total f 0 ≡ 0
unfolding total
total_none f = refl

-- a turn of a loop that adds up
pub total_more : (f : ℕ → ℕ) (n sum x : ℕ) → sum ≡ total f n → x ≡ f n → sum + x ≡ total f (n + 1)
unfolding total
total_more f n sum x e h = rw add-one (cc)

pub total_same : (f g : ℕ → ℕ) (n : ℕ) → ((k : ℕ) → k < n → f k ≡ g k) → total f n ≡ total g n
unfolding total
total_same f g zero e = refl
total_same f g (suc n) e =
    let before = total_same f g n (λ k h. e k (omega arith)) in
    let here = e n (omega arith) in
    cc

pub total_small : (f : ℕ → ℕ) (n : ℕ) → ((k : ℕ) → k < n → f k ≤ 100000) → total f n ≤ 100000 * n
unfolding total
total_small f zero h = omega arith
total_small f (suc n) h =
    let before = total_small f n (λ k l. h k (omega arith)) in
    let here = h n (omega arith) in
    rw mul-suc (omega arith)
