-- The bytes before the first zero, from a place of a string on.
use mathlib.Core.Path.{◌≡◌, refl, sym, ap, ◌∙◌}
use mathlib.Core.Bool.{Bool, true, false, cond}
use mathlib.Core.List.{List, [], ◌∷◌}
use Prim.Native.Nat.{ℕ, suc, ◌+◌}
use native.Mathlib.Omega.{arith}
use borrow.Author.Tests.{ltb-false}
use lib.Dec.{eqb, ltb}
use lib.ListN.{length, take}
use lib.Seq.{take_all}
use Rattle.std.specs.Prelude.{Option, Some, None}
use Rattle.std.specs.List.{position_or_len}
use Rattle.laws.proofs.Tests.{cond_both}
use Rattle.address.specs.Address.{up_to_zero}

-- they are the first bytes of the string
pub front : (s : List ℕ) → take (length (up_to_zero s)) s ≡ up_to_zero s
unfolding up_to_zero
front [] = refl
front (b ∷ s) = cond_both (λ (l : List ℕ). take (length l) (b ∷ s) ≡ l) (eqb b 0) (λ e. refl) (λ e. ap (λ (l : List ℕ). b ∷ l) (front s))

-- ── The search for the first zero ──

abbrev pub first_zero : List ℕ → ℕ
first_zero s = position_or_len (λ b. eqb b 0) s

before_first : (s : List ℕ) → take (first_zero s) s ≡ up_to_zero s
unfolding up_to_zero
before_first [] = refl
before_first (b ∷ s) = go (eqb b 0) refl (before_first s)
  where
    go : (t : Bool) → eqb b 0 ≡ t → take (first_zero s) s ≡ up_to_zero s → take (first_zero (b ∷ s)) (b ∷ s) ≡ cond (eqb b 0) [] (b ∷ up_to_zero s)
    go true e h = rw e refl
    go false e h = let m : 1 + first_zero s ≡ suc (first_zero s) = omega arith in rw e (ap (λ (k : ℕ). take k (b ∷ s)) m ∙ ap (λ (l : List ℕ). b ∷ l) h)

module _ (s : List ℕ) (r : Option ℕ) (is : r ≡ cond (ltb (first_zero s) (length s)) (Some (first_zero s)) None) where
  pub found : (n : ℕ) → r ≡ Some n → take n s ≡ up_to_zero s
  found n e = go (ltb (first_zero s) (length s)) (sym e ∙ is)
    where
      go : (t : Bool) → Some n ≡ cond t (Some (first_zero s)) None → take n s ≡ up_to_zero s
      go true q = let k : n ≡ first_zero s = cc in rw k (before_first s)
      go false q = absurd (let z : ◌≡◌ {A = ℕ} 0 1 = cc in omega arith)

  pub none : r ≡ None → s ≡ up_to_zero s
  none e = go (ltb (first_zero s) (length s)) refl (sym e ∙ is)
    where
      go : (t : Bool) → ltb (first_zero s) (length s) ≡ t → None ≡ cond t (Some (first_zero s)) None → s ≡ up_to_zero s
      go true l q = absurd (let z : ◌≡◌ {A = ℕ} 0 1 = cc in omega arith)
      go false l q = sym (take_all (first_zero s) s (ltb-false _ _ l)) ∙ before_first s
