-- The lowest free slot.
use mathlib.Core.Path.{◌≡◌, refl, ap, ◌∙◌}
use mathlib.Core.Logic.{◌≢◌}
use mathlib.Core.Bool.{Bool, true, false, cond, not, false≢true}
use Prim.Native.Nat.{ℕ, zero, suc, ◌≤◌, ◌<◌}
use native.Mathlib.Omega.{arith}
use lib.Dec.{ltb}
use lib.ListN.{length}
use borrow.Author.Tests.{ltb-true, le-leb, lt-leb}
use Rattle.laws.proofs.Tests.{and_left, and_right}
use Rattle.rules.specs.Table.{at, free_slot, no_slot}
use Rattle.storage.specs.Cells.{cell_at, state_of}
use Rattle.storage.specs.Rows.{Store}
use Rattle.storage.specs.View.{view}
use Rattle.storage.specs.Finding.{least, occupied, free_cell}
use Rattle.storage.specs.declared.State.{State}
use Rattle.storage.specs.declared.State.TheVariants.{Closed, Unbound, Bound, Listening, Connected}
use Rattle.storage.proofs.Viewed.{free_view, size_view, gen_at}

least_low : (n : ℕ) (p : ℕ → Bool) → least n p ≤ n
unfolding least
least_low zero p = omega arith
least_low (suc n) p = go (p zero) (least_low n (λ k. p (suc k)))
  where
    go : (b : Bool) → least n (λ k. p (suc k)) ≤ n → cond b zero (suc (least n (λ k. p (suc k)))) ≤ suc n
    go true h = omega arith
    go false h = omega arith

least_passes : (n : ℕ) (p : ℕ → Bool) → least n p < n → p (least n p) ≡ true
unfolding least
least_passes zero p h = absurd (let z : zero < zero = h in omega arith)
least_passes (suc n) p h = go (p zero) refl h (λ z. least_passes n (λ k. p (suc k)) z)
  where
    go : (b : Bool) → p zero ≡ b → cond b zero (suc (least n (λ k. p (suc k)))) < suc n → (least n (λ k. p (suc k)) < n → p (suc (least n (λ k. p (suc k)))) ≡ true)
        → p (cond b zero (suc (least n (λ k. p (suc k))))) ≡ true
    go true e h' f = e
    go false e h' f = f (omega arith)

occupied_not : (σ : State) → not (occupied σ) ≡ true → σ ≡ Closed
occupied_not Closed e = refl
occupied_not Unbound e = absurd (false≢true e)
occupied_not (Bound m) e = absurd (false≢true e)
occupied_not (Listening l) e = absurd (false≢true e)
occupied_not (Connected k) e = absurd (false≢true e)

-- a search that found none
pub none_free : (n c : ℕ) (s : Store) (i : ℕ) → i ≡ least n (λ j. free_cell (cell_at s.words j)) → i ≡ n → no_slot (view n c s) ≡ true
unfolding no_slot
none_free n c s i e z = let f = free_view n c s in let y = size_view n c s in le-leb (length (view n c s).slots) (free_slot (view n c s)) (omega arith)

-- and one that did
pub record Free (n c : ℕ) (s : Store) (i : ℕ) : Type 0 where
  pub within : i < n
  pub is_closed : state_of (cell_at s.words i) ≡ Closed
  pub young : (cell_at s.words i).generation < 4294967295
  pub is_first : i ≡ free_slot (view n c s)
  pub is_some : no_slot (view n c s) ≡ false
  pub was : (at (view n c s) i).gen ≡ (cell_at s.words i).generation

pub free_found : (n c : ℕ) (s : Store) (i : ℕ) → i ≡ least n (λ j. free_cell (cell_at s.words j)) → i ≢ n → Free n c s i
unfolding no_slot free_cell
free_found n c s i e ne =
    let low = least_low n (λ j. free_cell (cell_at s.words j)) in
    let h : i < n = omega arith in
    let p : free_cell (cell_at s.words i) ≡ true = ap (λ (j : ℕ). free_cell (cell_at s.words j)) e ∙ least_passes n (λ j. free_cell (cell_at s.words j)) (omega arith) in
    let f = free_view n c s in
    let y = size_view n c s in
    record {
      within = h;
      is_closed = occupied_not (state_of (cell_at s.words i)) (and_left (not (occupied (state_of (cell_at s.words i)))) (ltb (cell_at s.words i).generation 4294967295) p);
      young = ltb-true (cell_at s.words i).generation 4294967295 (and_right (not (occupied (state_of (cell_at s.words i)))) (ltb (cell_at s.words i).generation 4294967295) p);
      is_first = e ∙ f;
      is_some = lt-leb (length (view n c s).slots) (free_slot (view n c s)) (omega arith);
      was = gen_at n c s i h;
    }
