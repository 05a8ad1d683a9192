-- `up8 n` is the least multiple of 8 that is n or more; sizes that a u64 holds and sizes that it does not.
use mathlib.Core.Path.{◌≡◌, refl}
use mathlib.Core.Bool.{Bool, true, false, cond}
use Prim.Native.Nat.{ℕ, zero, suc, ◌+◌, ◌-◌, ◌*◌, ◌/◌, ◌%◌, ◌^◌, ◌≤◌, ◌<◌}
use native.Mathlib.Omega.{arith}
use borrow.Author.Tests.{eqb-true, eqb-false, lt-ltb, le-ltb, ltb-true, ltb-false}
use lib.Dec.{eqb, ltb}
use Rattle.std.specs.Prelude.{Ok, Err}
use Rattle.laws.proofs.Tests.{cond_both}
use Rattle.words.specs.declared.Errno.{Errno}
use Rattle.words.specs.declared.Errno.TheVariants.{EINVAL}
use Rattle.abi.specs.Size.{first_from, up8, exact, align_of, len_of, rights_space_of, rights_of}

-- counting up from n comes to the multiple, where k steps reach it
counts : (k n : ℕ) → (n + 7) / 8 * 8 ≤ n + k → first_from k n ≡ (n + 7) / 8 * 8
unfolding first_from
counts zero n h = omega arith
counts (suc k) n h =
    cond_both (λ (x : ℕ). x ≡ (n + 7) / 8 * 8) (eqb (n % 8) 0)
    (λ e. let z = eqb-true (n % 8) 0 e in omega arith)
    (λ e. let z : n % 8 ≡ 0 → ⊥ = eqb-false (n % 8) 0 e in let so = counts k (n + 1) (omega arith) in omega arith)

pub up8_is : (n : ℕ) → up8 n ≡ (n + 7) / 8 * 8
unfolding up8
up8_is n = counts 7 n (omega arith)

-- the least multiple of 8 not below n
pub up8_least : (n : ℕ) → (up8 n % 8 ≡ 0) × (n ≤ up8 n) × ((m : ℕ) → m % 8 ≡ 0 → n ≤ m → up8 n ≤ m)
up8_least n = let e = up8_is n in (omega arith, omega arith, λ m d h. omega arith)

-- ── Exact or refused ──

pub held : (n : ℕ) → n < 2 ^ 64 → Ok n ≡ exact n
unfolding exact
held n h = rw (lt-ltb n (2 ^ 64) h)

pub passed : (n : ℕ) → 2 ^ 64 ≤ n → Err EINVAL ≡ exact n
unfolding exact
passed n h = rw (le-ltb n (2 ^ 64) h)

-- what an answer says of its exact value
pub value : (n m : ℕ) → Ok m ≡ exact n → (m ≡ n) × (n < 2 ^ 64)
unfolding exact
value n m p = go (ltb n (2 ^ 64)) refl p
  where
    go : (b : Bool) → ltb n (2 ^ 64) ≡ b → Ok m ≡ cond b (Ok n) (Err EINVAL) → (m ≡ n) × (n < 2 ^ 64)
    go true e q = (cc, ltb-true n (2 ^ 64) e)
    go false e q = absurd (let z : ◌≡◌ {A = ℕ} 0 1 = cc in omega arith)

-- .. and a refusal: it is the one refusal, of a value that passes
pub beyond : (n : ℕ) (x : Errno) → Err x ≡ exact n → (x ≡ EINVAL) × (2 ^ 64 ≤ n)
unfolding exact
beyond n x p = go (ltb n (2 ^ 64)) refl p
  where
    go : (b : Bool) → ltb n (2 ^ 64) ≡ b → Err x ≡ cond b (Ok n) (Err EINVAL) → (x ≡ EINVAL) × (2 ^ 64 ≤ n)
    go true e q = absurd (let z : ◌≡◌ {A = ℕ} 0 1 = cc in omega arith)
    go false e q = (cc, ltb-false n (2 ^ 64) e)

-- ── The last that each size of `CmsgHdr` holds ──

pub align_held : (n : ℕ) → n ≤ 2 ^ 64 - 8 → Ok ((n + 7) / 8 * 8) ≡ align_of n
unfolding align_of
align_held n h = rw (up8_is n) (held _ (omega arith))

pub align_passed : (n : ℕ) → 2 ^ 64 - 8 < n → Err EINVAL ≡ align_of n
unfolding align_of
align_passed n h = passed (up8 n) (omega (arith, up8_is n))

pub len_held : (n : ℕ) → n ≤ 2 ^ 64 - 17 → Ok (16 + n) ≡ len_of n
unfolding len_of
len_held n h = held (16 + n) (omega arith)

pub len_passed : (n : ℕ) → 2 ^ 64 - 17 < n → Err EINVAL ≡ len_of n
unfolding len_of
len_passed n h = passed (16 + n) (omega arith)

pub rights_space_passed : (k : ℕ) → (2 ^ 64 - 1) / 4 < k → Err EINVAL ≡ rights_space_of k
unfolding rights_space_of
rights_space_passed k h = passed (16 + up8 (4 * k)) (omega (arith, up8_is (4 * k)))

pub rights_many : (k : ℕ) → (2 ^ 64 - 1) / 4 < k → Err EINVAL ≡ rights_of k
unfolding rights_of
rights_many k h = rw (le-ltb (16 + 4 * k) (2 ^ 64) (omega arith))
