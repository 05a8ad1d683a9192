-- Rows of one length: where they lie, and that two of them lie apart. The lengths are variables, so their products are too.
use Prim.Native.Nat.{ℕ, suc, ◌+◌, ◌*◌, ◌≤◌, ◌<◌}
use native.Mathlib.Nat.{mul-le-mul_left, mul-le-mul_right, mul-suc}
use native.Mathlib.Omega.{arith}

-- row i, and all rows before row j
pub row_before : (k i j : ℕ) → i < j → k * i + k ≤ k * j
row_before k i j h = let e = mul-suc k i in let m = mul-le-mul_left {m = suc i} {n = j} k h in omega arith

pub square : (n : ℕ) → n ≤ 1024 → n * n ≤ 1048576
square n h = let a = mul-le-mul_left {m = n} {n = 1024} n h in omega arith

pub area : (n c : ℕ) → n ≤ 1024 → c ≤ 65536 → c * n ≤ 67108864
area n c h k = let a = mul-le-mul_right {m = c} {n = 65536} n k in omega arith
