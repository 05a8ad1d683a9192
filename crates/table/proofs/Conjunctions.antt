-- Tests made one after another: what each return says of them all together.
use mathlib.Core.Path.{◌≡◌, refl, sym, ap, ◌∙◌}
use mathlib.Core.Bool.{Bool, true, false, not, ◌&&◌, false≢true}
use Prim.Native.Nat.{ℕ, ◌+◌, ◌≤◌, ◌<◌}
use native.Mathlib.Nat.{not-suc-le-zero}
use native.Mathlib.Decide.{dec_lt}
use native.Mathlib.Omega.{arith}
use lib.ListN.{length}
use borrow.Author.Tests.{not-false}
use Rattle.std.proofs.Common.{zero-add}
use Rattle.std.specs.Bool.{MatchBool}
use Rattle.std.specs.List.{range_with_len, AllWithin, HoldsAt}
use Rattle.std.proofs.lemmas.List.FromFn.{length-range_with_len, get_or-range_with_len}
use Rattle.rules.specs.WellFormed.{every}
use Rattle.rules.proofs.YesNo.{every_at, at_every}

pub nope : (b : Bool) → (b ≡ true → ⊥) → false ≡ b
nope true f = absurd (f refl)
nope false f = refl

module _ (a b : Bool) where
  pub last_of_two : (p r : Bool) → p ≡ a → not p ≡ false → r ≡ b → r ≡ a && b
  last_of_two p r e t z = rw (sym e ∙ not-false p t) z

-- ── Every number below n ──

-- a pass that has come to i: all before it are well
pub record AllBefore (p : ℕ → Bool) (i : ℕ) : Type 0 where
  pub all : (j : ℕ) → j < i → p j ≡ true

pub all_yet : (p : ℕ → Bool) → AllBefore p 0
all_yet p = record { all = λ j h. absurd (not-suc-le-zero h) }

pub all_here : (p : ℕ → Bool) (i : ℕ) → AllBefore p i → p i ≡ true → AllBefore p (i + 1)
all_here p i b e = record { all = λ j h. go j h (dec_lt j i) }
  where
    go : (j : ℕ) → j < i + 1 → Dec (j < i) → p j ≡ true
    go j h (yes l) = b.all j l
    go j h (no l) = let z : j ≡ i = omega arith in ap p z ∙ e

pub all_done : (n : ℕ) (p : ℕ → Bool) (i : ℕ) → n ≤ i → AllBefore p i → true ≡ every n p
all_done n p i h b = sym (at_every n p (λ j l. b.all j (omega arith)))

pub one_fails : (n : ℕ) (p : ℕ → Bool) (i : ℕ) → i < n → p i ≡ false → false ≡ every n p
one_fails n p i h e = nope (every n p) (λ t. false≢true (sym e ∙ every_at n p i t h))

-- what `all` over the numbers below n answers
pub every_by_all : (n : ℕ) (p : ℕ → Bool) (r : Bool)
    → MatchBool r (AllWithin (λ k. p k ≡ true) (range_with_len 0 n) 0 (length (range_with_len 0 n))) ((k : ℕ) × (k < length (range_with_len 0 n)) × HoldsAt (λ k. p k ≡ false) (range_with_len 0 n) k)
    → r ≡ every n p
every_by_all n p true h =
    sym (at_every n p (λ i l. rw (get_or-range_with_len 0 n i 0 l, zero-add i) at (h i 0 (omega arith) (omega (arith, length-range_with_len 0 n)))))
every_by_all n p false h =
    let l : h.0 < n = omega (arith, h.1, length-range_with_len 0 n) in
    one_fails n p h.0 l (rw (get_or-range_with_len 0 n h.0 0 l, zero-add h.0) at (h.2 0))
