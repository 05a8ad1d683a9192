-- The laws of `tab`.
use mathlib.Core.Path.{◌≡◌, refl, ap, ap₂}
use mathlib.Core.Logic.{◌≢◌}
use Prim.Native.Nat.{ℕ, zero, suc, ◌<◌}
use native.Mathlib.Nat.{not-suc-le-zero, le_of_suc-le-suc}
use native.Mathlib.Omega.{arith}
use mathlib.Core.List.{◌∷◌}
use lib.ListN.{length, get_or, set}
use Rattle.laws.specs.Tab.{tab}

suc_inj : {a b : ℕ} → suc a ≡ suc b → a ≡ b
suc_inj z = omega arith

module _ {A : Type 0} where
  pub length-tab : (n : ℕ) (f : ℕ → A) → length (tab n f) ≡ n
  unfolding tab
  length-tab zero f = refl
  length-tab (suc n) f = ap suc (length-tab n (λ k. f (suc k)))

  pub get_or-tab : (n : ℕ) (f : ℕ → A) (i : ℕ) (d : A) → i < n → get_or (tab n f) i d ≡ f i
  unfolding tab
  get_or-tab zero f i d h = absurd (not-suc-le-zero h)
  get_or-tab (suc n) f zero d h = refl
  get_or-tab (suc n) f (suc i) d h = get_or-tab n (λ k. f (suc k)) i d (le_of_suc-le-suc h)

  pub tab-same : (n : ℕ) (f g : ℕ → A) → ((j : ℕ) → j < n → g j ≡ f j) → tab n g ≡ tab n f
  unfolding tab
  tab-same zero f g e = refl
  tab-same (suc n) f g e = ap₂ ◌∷◌ (e zero (omega arith)) (tab-same n (λ k. f (suc k)) (λ k. g (suc k)) (λ j l. e (suc j) (omega arith)))

  -- two that differ at i alone
  pub tab-set : (n : ℕ) (f g : ℕ → A) (i : ℕ) → i < n → ((j : ℕ) → j < n → j ≢ i → g j ≡ f j) → tab n g ≡ set (tab n f) i (g i)
  unfolding tab
  tab-set zero f g i h e = absurd (not-suc-le-zero h)
  tab-set (suc n) f g zero h e = ap (λ r. g zero ∷ r) (tab-same n (λ k. f (suc k)) (λ k. g (suc k)) (λ j l. e (suc j) (omega arith) (λ z. omega arith)))
  tab-set (suc n) f g (suc i) h e =
      ap₂ ◌∷◌ (e zero (omega arith) (λ z. omega arith))
      (tab-set n (λ k. f (suc k)) (λ k. g (suc k)) i (le_of_suc-le-suc h) (λ j l d. e (suc j) (omega arith) (λ z. d (suc_inj z))))
