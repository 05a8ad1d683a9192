-- Stream offsets that go round at 2^64.
use Rattle.std.proofs.Common.{◌≡◌, ℕ, ◌+◌, ◌-◌, ◌%◌, ◌^◌, ◌<◌, ◌≤◌, ap, ◌∙◌, arith}
use Rattle.inbox.specs.View.{dist}

-- what a subtraction that wraps leaves
pub dist_wraps : (a b : ℕ) → b < 2 ^ 64 → (a + (2 ^ 64 - b)) % 2 ^ 64 ≡ dist a b
unfolding dist
dist_wraps a b h = omega arith

-- .. and what goes from b to a, modulo 2^64
pub dist_is : (r a b : ℕ) → (r + b) % 2 ^ 64 ≡ a → r < 2 ^ 64 → b < 2 ^ 64 → r ≡ dist a b
unfolding dist
dist_is r a b e hr hb = omega arith

-- k nearer
gone : (p r k : ℕ) → r < 2 ^ 64 → k ≤ (p + (2 ^ 64 - r)) % 2 ^ 64 → (p + (2 ^ 64 - (r + k) % 2 ^ 64)) % 2 ^ 64 ≡ (p + (2 ^ 64 - r)) % 2 ^ 64 - k
gone p r k hr h = omega arith

pub dist_gone : (p r k : ℕ) → k ≤ dist p r → dist p ((r + k) % 2 ^ 64) ≡ dist p r - k
unfolding dist
dist_gone p r k h =
    let e : (r + k) % 2 ^ 64 % 2 ^ 64 ≡ (r % 2 ^ 64 + k) % 2 ^ 64 = omega arith in
    ap (λ (x : ℕ). (p + (2 ^ 64 - x)) % 2 ^ 64) e ∙ gone p (r % 2 ^ 64) k (omega arith) h

-- k more
pub dist_come : (w r k : ℕ) → dist w r + k < 2 ^ 64 → dist ((w + k) % 2 ^ 64) r ≡ dist w r + k
unfolding dist
dist_come w r k h = omega arith

-- a total that catches up meets the other
pub dist_meets : (w r : ℕ) → w < 2 ^ 64 → (r + dist w r) % 2 ^ 64 ≡ w
unfolding dist
dist_meets w r h = omega arith

pub dist_same : (w : ℕ) → dist w w ≡ 0
unfolding dist
dist_same w = omega arith

pub dist-zero : (a b : ℕ) → a < 2 ^ 64 → b < 2 ^ 64 → dist a b ≡ 0 → a ≡ b
unfolding dist
dist-zero a b ha hb z = omega arith
