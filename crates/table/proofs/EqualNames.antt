-- Names: each only against those of the slots before it, or each against all.
use mathlib.Core.Path.{◌≡◌, refl, sym, ap, ◌∙◌}
use mathlib.Core.Logic.{◌⊎◌, inl, inr}
use mathlib.Core.Bool.{Bool, true, false}
use mathlib.Core.List.{List}
use Prim.Native.Nat.{ℕ, zero, suc, ◌≤◌, ◌<◌}
use native.Mathlib.Nat.{not-suc-le-zero}
use native.Mathlib.Omega.{arith}
use lib.Dec.{leb, eqb}
use lib.ListN.{length, take}
use lib.Seq.{length-take-le}
use borrow.Author.Tests.{le-leb, leb-true, eq-eqb, eqb-true}
use Rattle.laws.proofs.Tests.{and_left, and_right, and_three, less_or, both}
use Rattle.rules.specs.Table.{at, same, holds}
use Rattle.rules.specs.WellFormed.{implies, alone, named_well}
use Rattle.rules.proofs.Wf.{same_refl, same_eq}
use Rattle.rules.proofs.YesNo.{every_at, at_every, make_implies, use_implies}
use Rattle.storage.specs.Layout.{part, name_base}
use Rattle.storage.specs.Cells.{cell_at, state_of}
use Rattle.storage.specs.Rows.{Store, row_at, Roomy}
use Rattle.storage.specs.View.{view}
use Rattle.storage.specs.Finding.{least, named, name_length, holds_cell}
use Rattle.storage.specs.declared.State.{State}
use Rattle.storage.proofs.Finds.{least_none}
use Rattle.storage.proofs.Pasted.{length_part}
use Rattle.storage.proofs.Viewed.{seen, size_view, shown_holds}
use Rattle.table.specs.OnePass.{name_checks}
use Rattle.table.proofs.EqualTests.{unless, not_both}

-- ── Tests ──

least_before : (n : ℕ) (p : ℕ → Bool) (j : ℕ) → least n p ≡ n → j < n → p j ≡ false
unfolding least
least_before zero p j e h = absurd (not-suc-le-zero h)
least_before (suc n) p j e h = go (p zero) refl j h (λ j. least_before n (λ k. p (suc k)) j)
  where
    go : (b : Bool) → p zero ≡ b → (j : ℕ) → j < suc n → ((j : ℕ) → least n (λ k. p (suc k)) ≡ n → j < n → p (suc j) ≡ false) → p j ≡ false
    go true z j h f = let k : zero ≡ suc n = rw z at e in absurd (omega arith)
    go false z zero h f = z
    go false z (suc j) h f = let k : suc (least n (λ k. p (suc k))) ≡ suc n = rw z at e in f j (omega arith) (omega arith)

-- ── The names of a storage ──

module _ (n c : ℕ) (s : Store) where
  abbrev room_of : ℕ → List ℕ
  room_of i = part (name_base n c i) 255 s.bytes

  abbrev name_at : ℕ → List ℕ
  name_at i = take (name_length (state_of (cell_at s.words i))) (room_of i)

  abbrev held_at : ℕ → List ℕ → Bool
  held_at j m = holds_cell (cell_at s.words j) (room_of j) m

  held : (j : ℕ) (m : List ℕ) → j < n → held_at j m ≡ holds m (at (view n c s) j)
  unfolding holds_cell row_at
  held j m h =
      shown_holds (row_at n c s j) (cell_at s.words j).generation (state_of (cell_at s.words j)) m
      ∙ ap (holds m) (sym (seen n c s j (state_of (cell_at s.words j)) h refl))

  -- what a slot's own test says
  record Own (i m : ℕ) : Type 0 where
    some_byte : 1 ≤ m
    short : m ≤ 255
    before : (j : ℕ) → j < i → held_at j (take m (room_of i)) ≡ false

  own : (i m : ℕ) → name_checks n c s.words s.bytes i m ≡ true → Own i m
  unfolding name_checks
  own i m e =
      let p : ℕ → Bool = λ j. held_at j (take m (room_of i)) in
      let l = and_three (leb 1 m) (leb m 255) (eqb (least i p) i) e in
      record { some_byte = leb-true _ _ l.0; short = leb-true _ _ l.1; before = λ j h. least_before i p j (eqb-true _ _ l.2) h }

  of_own : (i m : ℕ) → Own i m → name_checks n c s.words s.bytes i m ≡ true
  unfolding name_checks
  of_own i m o =
      rw (le-leb 1 m o.some_byte, le-leb m 255 o.short) (eq-eqb _ i (least_none i (λ j. held_at j (take m (room_of i))) o.before))

  -- a name held by slot j is the name of slot j
  held_is : (j : ℕ) (m : List ℕ) → held_at j m ≡ true → (named (state_of (cell_at s.words j)) ≡ true) × (name_at j ≡ m)
  unfolding holds_cell
  held_is j m e =
      let σ : State = state_of (cell_at s.words j) in
      (and_left (named σ) (same (name_at j) m) e, same_eq (name_at j) m (and_right (named σ) (same (name_at j) m) e))

  is_held : (i : ℕ) → named (state_of (cell_at s.words i)) ≡ true → held_at i (name_at i) ≡ true
  unfolding holds_cell
  is_held i e = both (named (state_of (cell_at s.words i))) (same (name_at i) (name_at i)) e (same_refl (name_at i))

  -- whoever holds the name is slot i
  alone_of : (i : ℕ) (m : List ℕ) → ((j : ℕ) → j < n → held_at j m ≡ true → j ≡ i) → alone (view n c s) i m ≡ true
  unfolding alone
  alone_of i m f =
      at_every (length (view n c s).slots) (λ j. implies (holds m (at (view n c s) j)) (eqb j i)) λ j h.
      let hj : j < n = omega (arith, size_view n c s) in
      make_implies (holds m (at (view n c s) j)) (eqb j i) (λ e. eq-eqb j i (f j hj (held j m hj ∙ e)))

  of_alone : (i : ℕ) (m : List ℕ) → alone (view n c s) i m ≡ true → (j : ℕ) → j < n → held_at j m ≡ true → j ≡ i
  unfolding alone
  of_alone i m a j hj e =
      eqb-true j i
      (use_implies (holds m (at (view n c s) j)) (eqb j i)
      (every_at (length (view n c s).slots) (λ j. implies (holds m (at (view n c s) j)) (eqb j i)) j a (omega (arith, size_view n c s)))
      (sym (held j m hj) ∙ e))

  module _ (f : Roomy n c s) where
    long : (i m : ℕ) → i < n → m ≤ 255 → length (take m (room_of i)) ≡ m
    long i m hi hm =
        let b = f.bytes in
        let l : length (room_of i) ≡ 255 = length_part (name_base n c i) 255 s.bytes (omega arith) in
        length-take-le m (room_of i) (omega arith)

    -- from each slot's own test to all names
    module _ (all : (j : ℕ) → j < n → named (state_of (cell_at s.words j)) ≡ true → name_checks n c s.words s.bytes j (name_length (state_of (cell_at s.words j))) ≡ true) where
      mine : (j : ℕ) → j < n → named (state_of (cell_at s.words j)) ≡ true → Own j (name_length (state_of (cell_at s.words j)))
      mine j h e = own j (name_length (state_of (cell_at s.words j))) (all j h e)

      one : (i : ℕ) → i < n → named (state_of (cell_at s.words i)) ≡ true → (j : ℕ) → j < n → held_at j (name_at i) ≡ true → j ≡ i
      one i hi ni j hj e = go (less_or j i) (less_or i j)
        where
          go : (j < i) ⊎ (i ≤ j) → (i < j) ⊎ (j ≤ i) → j ≡ i
          go (inl a) b = absurd (not_both (held_at j (name_at i)) e ((mine i hi ni).before j a))
          go (inr a) (inl b) =
              let k = held_is j (name_at i) e in
              absurd (not_both (held_at i (name_at j)) (ap (held_at i) k.1 ∙ is_held i ni) ((mine j hj k.0).before i b))
          go (inr a) (inr b) = omega arith

      pub names_down : (i : ℕ) → i < n → named (state_of (cell_at s.words i)) ≡ true → named_well (view n c s) i (name_at i) ≡ true
      unfolding named_well
      names_down i hi ni =
          let o = mine i hi ni in
          let l = long i (name_length (state_of (cell_at s.words i))) hi o.short in
          rw (l, le-leb 1 _ o.some_byte, le-leb _ 255 o.short) (alone_of i (name_at i) (one i hi ni))

    -- and back
    pub names_up : (i m : ℕ) → i < n → m ≤ 255 → named_well (view n c s) i (take m (room_of i)) ≡ true → name_checks n c s.words s.bytes i m ≡ true
    unfolding named_well
    names_up i m hi hm e =
        let name : List ℕ = take m (room_of i) in
        let l = and_three (leb 1 (length name)) (leb (length name) 255) (alone (view n c s) i name) e in
        of_own i m
        (record {
          some_byte = let z = leb-true 1 (length name) l.0 in omega (arith, long i m hi hm);
          short = hm;
          before = λ j h. unless (held_at j name) (λ k. let z = of_alone i name l.2 j (omega arith) k in omega arith);
        })
