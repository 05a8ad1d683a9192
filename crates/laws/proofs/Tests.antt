-- Bool tests and the facts that they tell, beside those of `borrow.Author.Tests` and `mathlib.Core.Bool`.
use mathlib.Core.Path.{◌≡◌, refl}
use mathlib.Core.Logic.{◌⊎◌, inl, inr}
use mathlib.Core.Bool.{Bool, true, false, cond, ◌&&◌, ◌||◌, true≢false, false≢true}
use Prim.Native.Nat.{ℕ, ◌<◌, ◌≤◌}
use lib.Dec.{ltb}
use borrow.Author.Tests.{ltb-true, ltb-false}

-- go by cases on a test, and keep what it said
pub cond_both {ℓ} : {A : Type ℓ} (P : A → Type 0) (b : Bool) {x y : A} → (b ≡ true → P x) → (b ≡ false → P y) → P (cond b x y)
cond_both P true f g = f refl
cond_both P false f g = g refl

-- a number is below another, or not
pub less_or : (a b : ℕ) → (a < b) ⊎ (b ≤ a)
less_or a b = go (ltb a b) refl
  where
    go : (t : Bool) → ltb a b ≡ t → (a < b) ⊎ (b ≤ a)
    go true e = inl (ltb-true a b e)
    go false e = inr (ltb-false a b e)

-- a conjunction from its parts
pub both : (a b : Bool) → a ≡ true → b ≡ true → a && b ≡ true
both a b p q = rw p q

-- what a conjunction and a disjunction say of their parts
pub and_left : (a b : Bool) → a && b ≡ true → a ≡ true
and_left true b h = refl
and_left false b h = h

pub and_right : (a b : Bool) → a && b ≡ true → b ≡ true
and_right true b h = h
and_right false b h = absurd (false≢true h)

pub or_left : (a b : Bool) → a || b ≡ false → a ≡ false
or_left true b h = h
or_left false b h = refl

pub or_right : (a b : Bool) → a || b ≡ false → b ≡ false
or_right true b h = absurd (true≢false h)
or_right false b h = h

pub and_three : (a b c : Bool) → a && b && c ≡ true → (a ≡ true) × (b ≡ true) × (c ≡ true)
and_three a b c h = let l = and_left (a && b) c h in (and_left a b l, and_right a b l, and_right (a && b) c h)

pub and_four : (a b c d : Bool) → a && b && c && d ≡ true → (a ≡ true) × (b ≡ true) × (c ≡ true) × (d ≡ true)
and_four a b c d h = let l = and_three a b c (and_left (a && b && c) d h) in (l.0, l.1, l.2, and_right (a && b && c) d h)
