-- A name that is refused, and one that is not.
use mathlib.Core.Path.{◌≡◌, sym, ap, ◌∙◌, refl, subst}
use mathlib.Core.Logic.{◌≢◌}
use mathlib.Core.Bool.{Bool, true, false, cond}
use mathlib.Core.List.{List}
use Prim.Native.Nat.{ℕ, ◌≤◌, ◌<◌}
use lib.Dec.{eqb, ltb}
use lib.ListN.{length}
use borrow.Author.Tests.{eqb-true, eqb-false, ltb-true, ltb-false}
use Rattle.std.specs.Prelude.{Result, Ok, Err}
use Rattle.words.specs.Numbers.{number_of, refusal_of}
use Rattle.words.specs.declared.Errno.{Errno}
use Rattle.words.specs.declared.Errno.TheVariants.{EINVAL, ENAMETOOLONG}
use Rattle.storage.specs.Naming.{name_refusal}

-- by its number
pub name_refused : (P : ℕ → Type 0) (m : List ℕ) (r : Result Unit Errno) (e : Errno) → r ≡ name_refusal m → r ≡ Err e
    → (length m ≡ 0 → P 2) → (length m ≢ 0 → 255 < length m → P 17) → P (number_of e)
unfolding name_refusal
name_refused P m r e er ee none long = go (eqb (length m) 0) (ltb 255 (length m)) refl refl (sym er ∙ ee)
  where
    go : (a b : Bool) → eqb (length m) 0 ≡ a → ltb 255 (length m) ≡ b → ◌≡◌ {A = Result Unit Errno} (cond a (Err EINVAL) (cond b (Err ENAMETOOLONG) (Ok tt))) (Err e) → P (number_of e)
    go true b p q z = subst P (ap refusal_of z) (none (eqb-true _ 0 p))
    go false true p q z = subst P (ap refusal_of z) (long (eqb-false _ 0 p) (ltb-true 255 _ q))
    go false false p q z = absurd (cc)

pub name_accepted : (m : List ℕ) (r : Result Unit Errno) → r ≡ name_refusal m → r ≡ Ok tt → (length m ≢ 0) × (length m ≤ 255)
unfolding name_refusal
name_accepted m r er ee = go (eqb (length m) 0) (ltb 255 (length m)) refl refl (sym er ∙ ee)
  where
    go : (a b : Bool) → eqb (length m) 0 ≡ a → ltb 255 (length m) ≡ b → ◌≡◌ {A = Result Unit Errno} (cond a (Err EINVAL) (cond b (Err ENAMETOOLONG) (Ok tt))) (Ok tt) → (length m ≢ 0) × (length m ≤ 255)
    go true b p q z = absurd (cc)
    go false true p q z = absurd (cc)
    go false false p q z = (eqb-false _ 0 p, ltb-false 255 _ q)
