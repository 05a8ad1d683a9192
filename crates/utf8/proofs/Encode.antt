-- The encoding of a scalar value, width by width, and the value that octets of each width encode.
use mathlib.Core.Path.{◌≡◌, refl}
use mathlib.Core.Bool.{Bool, true, false, ◌&&◌, ◌||◌, or-true}
use mathlib.Core.List.{[], ◌∷◌}
use mathlib.Core.Logic.{◌⊎◌, inl, inr, ⊎_elim}
use Prim.Native.Nat.{ℕ, ◌+◌, ◌/◌, ◌%◌, ◌<◌, ◌≤◌}
use native.Mathlib.Omega.{arith}
use borrow.Author.Tests.{lt-ltb, le-ltb, ltb-true}
use lib.Dec.{ltb}
use Rattle.laws.proofs.Tests.{and_left, and_right, less_or}
use Rattle.utf8.specs.Rfc3629.{is_scalar, encode}

-- the two halves of the scalar values
pub low_scalar : (n : ℕ) → n < 0xD800 → is_scalar n ≡ true
unfolding is_scalar
low_scalar n h = rw (lt-ltb n 0xD800 h)

pub high_scalar : (n : ℕ) → 0xDFFF < n → n < 0x110000 → is_scalar n ≡ true
unfolding is_scalar
high_scalar n h k = rw (lt-ltb 0xDFFF n h, lt-ltb n 0x110000 k, or-true (ltb n 0xD800))

pub scalar_is : (n : ℕ) → is_scalar n ≡ true → (n < 0xD800) ⊎ ((0xDFFF < n) × (n < 0x110000))
unfolding is_scalar
scalar_is n e = go (ltb n 0xD800) refl e
  where
    go : (b : Bool) → ltb n 0xD800 ≡ b → b || ltb 0xDFFF n && ltb n 0x110000 ≡ true → (n < 0xD800) ⊎ ((0xDFFF < n) × (n < 0x110000))
    go true p q = inl (ltb-true n 0xD800 p)
    go false p q = inr (ltb-true 0xDFFF n (and_left _ _ q), ltb-true n 0x110000 (and_right (ltb 0xDFFF n) _ q))

-- ── The four widths ──

module _ (n : ℕ) where
  pub encode_1 : n < 0x80 → encode n ≡ n ∷ []
  unfolding encode
  encode_1 h = rw (lt-ltb n 0x80 h)

  pub encode_2 : 0x80 ≤ n → n < 0x800 → encode n ≡ (0xC0 + n / 0x40) ∷ (0x80 + n % 0x40) ∷ []
  unfolding encode
  encode_2 h k = rw (le-ltb n 0x80 h, lt-ltb n 0x800 k)

  pub encode_3 : 0x800 ≤ n → n < 0x10000 → encode n ≡ (0xE0 + n / 0x1000) ∷ (0x80 + n / 0x40 % 0x40) ∷ (0x80 + n % 0x40) ∷ []
  unfolding encode
  encode_3 h k = rw (le-ltb n 0x80 (omega arith), le-ltb n 0x800 h, lt-ltb n 0x10000 k)

  pub encode_4 : 0x10000 ≤ n → encode n ≡ (0xF0 + n / 0x40000) ∷ (0x80 + n / 0x1000 % 0x40) ∷ (0x80 + n / 0x40 % 0x40) ∷ (0x80 + n % 0x40) ∷ []
  unfolding encode
  encode_4 h = rw (le-ltb n 0x80 (omega arith), le-ltb n 0x800 (omega arith), le-ltb n 0x10000 h)

-- which of them a number has
pub data Width (n : ℕ) : Type 0 where
  one : n < 0x80 → Width n
  two : 0x80 ≤ n → n < 0x800 → Width n
  three : 0x800 ≤ n → n < 0x10000 → Width n
  four : 0x10000 ≤ n → Width n

pub width : (n : ℕ) → Width n
width n =
    ⊎_elim one (λ a. ⊎_elim (two a) (λ b. ⊎_elim (three b) four (less_or n 0x10000)) (less_or n 0x800)) (less_or n 0x80)
