-- Different numbers below n: there are at most n of them, and fewer where one is missed.
use mathlib.Core.Path.{◌≡◌}
use mathlib.Core.Logic.{◌≢◌, ◌⊎◌, inl, inr}
use mathlib.Core.Bool.{cond}
use Prim.Native.Nat.{ℕ, zero, suc, ◌-◌, ◌≤◌, ◌<◌}
use native.Mathlib.Nat.{not-suc-le-zero}
use native.Mathlib.Omega.{arith}
use lib.Dec.{ltb}
use borrow.Author.Tests.{lt-ltb, le-ltb}
use Rattle.laws.proofs.Tests.{less_or}

-- the first m of f are below n, and no two of them are the same
pub record Different (m n : ℕ) (f : ℕ → ℕ) : Type 0 where
  pub below : (k : ℕ) → k < m → f k < n
  pub apart : (j k : ℕ) → j < m → k < m → f j ≡ f k → j ≡ k

-- the numbers other than v, moved up to its place
unfoldable without : ℕ → ℕ → ℕ
without v x = cond (ltb v x) (x - 1) x

without_low : (v x : ℕ) → x ≤ v → without v x ≡ x
unfolding without
without_low v x h = rw (le-ltb v x h)

without_high : (v x : ℕ) → v < x → without v x ≡ x - 1
unfolding without
without_high v x h = rw (lt-ltb v x h)

without_in : (n v x : ℕ) → v < suc n → x < suc n → x ≢ v → without v x < n
without_in n v x hv hx d = go (less_or v x)
  where
    go : (v < x) ⊎ (x ≤ v) → without v x < n
    go (inl h) = let e = without_high v x h in omega arith
    go (inr h) = let e = without_low v x h in omega arith

without_apart : (v x y : ℕ) → x ≢ v → y ≢ v → without v x ≡ without v y → x ≡ y
without_apart v x y dx dy e = go (less_or v x) (less_or v y)
  where
    go : (v < x) ⊎ (x ≤ v) → (v < y) ⊎ (y ≤ v) → x ≡ y
    go (inl a) (inl b) = let p = without_high v x a in let q = without_high v y b in omega arith
    go (inl a) (inr b) = let p = without_high v x a in let q = without_low v y b in omega arith
    go (inr a) (inl b) = let p = without_low v x a in let q = without_high v y b in omega arith
    go (inr a) (inr b) = let p = without_low v x a in let q = without_low v y b in omega arith

fewer : (n m : ℕ) (f : ℕ → ℕ) (v : ℕ) → v < suc n → Different m (suc n) f → ((k : ℕ) → k < m → f k ≢ v) → Different m n (λ k. without v (f k))
fewer n m f v hv d miss =
    record {
      below = λ k h. without_in n v (f k) hv (d.below k h) (miss k h);
      apart = λ j k hj hk e. d.apart j k hj hk (without_apart v (f j) (f k) (miss j hj) (miss k hk) e);
    }

most : (n m : ℕ) (f : ℕ → ℕ) → Different m n f → m ≤ n
most zero zero f d = omega arith
most zero (suc m) f d = absurd (not-suc-le-zero (d.below zero (omega arith)))
most (suc n) zero f d = omega arith
most (suc n) (suc m) f d =
    let r = most n m (λ k. without (f m) (f k))
    (fewer n m f (f m) (d.below m (omega arith))
    (record { below = λ k h. d.below k (omega arith); apart = λ j k hj hk e. d.apart j k (omega arith) (omega arith) e })
    (λ k h e. let z : k ≡ m = d.apart k m (omega arith) (omega arith) e in omega arith)) in
    omega arith

pub missed : (n m : ℕ) (f : ℕ → ℕ) (v : ℕ) → v < n → Different m n f → ((k : ℕ) → k < m → f k ≢ v) → m < n
missed zero m f v hv d miss = absurd (not-suc-le-zero hv)
missed (suc n) m f v hv d miss = let r = most n m (λ k. without v (f k)) (fewer n m f v hv d miss) in omega arith
