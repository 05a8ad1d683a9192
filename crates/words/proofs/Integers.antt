-- What a test of an i32 against a number tells: its bits are the number's, or not.
use mathlib.Core.Path.{◌≡◌, refl}
use mathlib.Core.Bool.{true, false}
use Prim.Native.Nat.{ℕ, ◌^◌, ◌<◌}
use native.Mathlib.Omega.{arith}
use borrow.Author.Tests.{eq-eqb, ne_eqb}
use lib.IntN.{ℤ, pos, negsuc}
use mir.Syntax.{w32}
use mir.Val.{of_z, SFits}
use Rattle.words.specs.Integers.{equals}

pub equals_yes : (z : ℤ) (k : ℕ) → SFits w32 z → k < 2 ^ 31 → of_z w32 z ≡ k → equals z k ≡ true
unfolding equals
equals_yes (pos n) k s h e = eq-eqb n k e
equals_yes (negsuc n) k s h e = absurd (let l : n < 2 ^ 31 = s.sfits in omega arith)

pub equals_no : (z : ℤ) (k : ℕ) → (of_z w32 z ≡ k → ⊥) → equals z k ≡ false
unfolding equals
equals_no (pos n) k e = ne_eqb n k e
equals_no (negsuc n) k e = refl
