-- The least sizes, in bytes: a word has 8, a token 4.
use mathlib.Core.Path.{◌≡◌}
use Prim.Native.Nat.{ℕ, ◌+◌, ◌*◌, ◌≤◌}
use native.Mathlib.Nat.{mul-le-mul_left, mul-add, mul_comm}
use native.Mathlib.Omega.{arith}
use Rattle.storage.specs.Layout.{sizes_of}

mul_comm_add : (n c : ℕ) → n * (c + 65536) ≡ c * n + 65536 * n
mul_comm_add n c = let a = mul-add n c 65536 in let b = mul_comm n c in omega arith

-- "together at most N x (C + 65,536) + 65,536 bytes"
pub together : (n c : ℕ) → n ≤ 1024 → 8 * (sizes_of n c).words + (sizes_of n c).bytes + 4 * (sizes_of n c).tokens ≤ n * (c + 65536) + 65536
together n c h = let a = mul-le-mul_left {m = n} {n = 1024} n h in let e = mul_comm_add n c in omega arith
