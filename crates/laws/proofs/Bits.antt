-- Several numbers tested as one: `a | b` is 0 where both are, and below a power of two where both are.
use mathlib.Core.Path.{◌≡◌, refl, sym, ap, subst, ◌∙◌}
use mathlib.Core.Logic.{◌≢◌}
use mathlib.Core.Bool.{Bool, true, false, ◌&&◌}
use Prim.Native.Nat.{ℕ, ◌+◌, ◌^◌, ◌≤◌, ◌<◌}
use native.Mathlib.Omega.{arith}
use lib.Dec.{eqb, leb}
use lib.Bits.{bit_or, or_lt, or_zero_l, or_add_and, and_le_l, and_le_r}
use borrow.Author.Tests.{le-leb, lt-leb, leb-true, leb-false, ne_eqb, eqb-true, eqb-false}

module _ (a b : ℕ) where
  pub or_least : (a ≤ bit_or a b) × (b ≤ bit_or a b)
  or_least =
      let e = or_add_and a b in
      let l = and_le_l a b in
      let r = and_le_r a b in
      (omega arith, omega arith)

  pub or-zero : bit_or a b ≡ 0 → (a ≡ 0) × (b ≡ 0)
  or-zero e = let l = or_least in (omega (arith, l.0), omega (arith, l.1))

  pub or_other : bit_or a b ≢ 0 → a ≡ 0 → b ≢ 0
  or_other ne e z = ne (ap (λ (x : ℕ). bit_or x b) e ∙ or_zero_l b ∙ z)

  pub or-eqb : eqb (bit_or a b) 0 ≡ eqb a 0 && eqb b 0
  or-eqb = go (eqb a 0) refl
    where
      go : (t : Bool) → eqb a 0 ≡ t → eqb (bit_or a b) 0 ≡ t && eqb b 0
      go true e = ap (λ (x : ℕ). eqb (bit_or x b) 0) (eqb-true a 0 e) ∙ ap (λ (x : ℕ). eqb x 0) (or_zero_l b)
      go false e = ne_eqb (bit_or a b) 0 (λ z. eqb-false a 0 e (let l = or_least.0 in omega arith))

  -- m is one less than a power of two
  pub or-leb : (k m : ℕ) → m + 1 ≡ 2 ^ k → leb (bit_or a b) m ≡ leb a m && leb b m
  or-leb k m em = go (leb a m) (leb b m) refl refl
    where
      under : (x : ℕ) → x ≤ m → x < 2 ^ k
      under x l = subst (λ (y : ℕ). x < y) em (omega arith)

      go : (s t : Bool) → leb a m ≡ s → leb b m ≡ t → leb (bit_or a b) m ≡ s && t
      go true true es et =
          let l = or_lt k a b (under a (leb-true a m es)) (under b (leb-true b m et)) in
          le-leb (bit_or a b) m (let z = subst (λ (y : ℕ). bit_or a b < y) (sym em) l in omega arith)
      go true false es et = lt-leb (bit_or a b) m (let r = or_least.1 in let z = leb-false b m et in omega arith)
      go false t es et = lt-leb (bit_or a b) m (let l = or_least.0 in let z = leb-false a m es in omega arith)
