-- The slots that the pass skips: closed ones, and connected ones that are well.
use mathlib.Core.Path.{◌≡◌, sym, subst, ◌∙◌}
use mathlib.Core.Bool.{Bool, true, false, ◌&&◌}
use mathlib.Core.List.{List, []}
use Prim.Native.Nat.{ℕ, ◌+◌, ◌≤◌, ◌<◌}
use native.Mathlib.Decide.{dec_lt}
use native.Mathlib.Omega.{arith}
use lib.Dec.{eqb}
use lib.ListN.{get_or}
use lib.Bits.{bit_or}
use borrow.Author.Tests.{le-leb, eq-eqb, eqb-true}
use Rattle.laws.proofs.Tests.{and_left, and_right}
use Rattle.laws.proofs.Bits.{or_least, or-zero}
use Rattle.storage.specs.Layout.{cell_base}
use Rattle.storage.specs.Cells.{cell_at}
use Rattle.table.specs.OnePass.{slot_checks, ClosedRun, PassRun, Skips}
use Rattle.table.proofs.Conjunctions.{AllBefore}
use Rattle.table.proofs.Pass.{slot_closed}
use Rattle.table.proofs.WordByWord.{no_bytes}

-- ── Closed slots ──

pub closed_here : (w : List ℕ) (n i r : ℕ) → r < n → ClosedRun w n i r → get_or w (cell_base r + 1) 0 ≡ 0 → get_or w (cell_base r + 0) 0 ≤ 4294967295 → ClosedRun w n i (r + 1)
unfolding cell_at
closed_here w n i r h run e l =
    record { onward = let z = run.onward in omega arith; inside = omega arith; closed = λ j hi hr. go j hi hr (dec_lt j r) }
  where
    go : (j : ℕ) → i ≤ j → j < r + 1 → Dec (j < r) → ((cell_at w j).tag ≡ 0) × ((cell_at w j).generation ≤ 4294967295)
    go j hi hr (yes x) = run.closed j hi x
    go j hi hr (no x) = let z : r ≡ j = omega arith in subst (λ (y : ℕ). ((cell_at w y).tag ≡ 0) × ((cell_at w y).generation ≤ 4294967295)) z (e, l)

pub two_closed : (w : List ℕ) (n i r : ℕ) → r + 1 < n → ClosedRun w n i r → bit_or (get_or w (cell_base r + 1) 0) (get_or w (cell_base r + 17) 0) ≡ 0
    → bit_or (get_or w (cell_base r + 0) 0) (get_or w (cell_base r + 16) 0) ≤ 4294967295 → ClosedRun w n i (r + 2)
two_closed w n i r h run e l =
    let t = or-zero (get_or w (cell_base r + 1) 0) (get_or w (cell_base r + 17) 0) e in
    let g = or_least (get_or w (cell_base r + 0) 0) (get_or w (cell_base r + 16) 0) in
    let one = closed_here w n i r (omega arith) run t.0 (omega (arith, g.0)) in
    let et : cell_base r + 17 ≡ cell_base (r + 1) + 1 = omega arith in
    let eg : cell_base r + 16 ≡ cell_base (r + 1) + 0 = omega arith in
    let m : get_or w (cell_base r + 16) 0 ≤ 4294967295 = omega (arith, g.1) in
    let two = closed_here w n i (r + 1) h one (subst (λ (x : ℕ). get_or w x 0 ≡ 0) et t.1) (subst (λ (x : ℕ). get_or w x 0 ≤ 4294967295) eg m) in
    let er : r + 1 + 1 ≡ r + 2 = omega arith in
    subst (λ (x : ℕ). ClosedRun w n i x) er two

-- ── Connected slots ──

module _ (n c : ℕ) (w : List ℕ) (i : ℕ) where
  module _ (r : ℕ) (run : PassRun n c w i r) where
    pub one_more : r < n → ((b : List ℕ) → slot_checks n c w b r ≡ true) → PassRun n c w i (r + 1)
    one_more h e =
        record { onward = let z = run.onward in omega arith; inside = omega arith; passes = λ j b hi hr. go j b hi hr (dec_lt j r) }
      where
        go : (j : ℕ) (b : List ℕ) → i ≤ j → j < r + 1 → Dec (j < r) → slot_checks n c w b j ≡ true
        go j b hi hr (yes x) = run.passes j b hi x
        go j b hi hr (no x) = let z : r ≡ j = omega arith in subst (λ (y : ℕ). slot_checks n c w b y ≡ true) z (e b)

    -- slot r, by the check of a connected one
    module _ (p : Bool) (ep : p ≡ eqb (cell_at w r).tag 4 && slot_checks n c w [] r) where
      pub stops_here : p ≡ false → Skips n c w i r
      stops_here f = record { run = run; stops = λ b h e. sym (no_bytes n c w r e b) ∙ sym (rw (eq-eqb (cell_at w r).tag 4 e)) ∙ sym ep ∙ f }

      pub goes_on : r < n → p ≡ true → PassRun n c w i (r + 1)
      goes_on h t =
          let a = sym ep ∙ t in
          let e = eqb-true (cell_at w r).tag 4 (and_left (eqb (cell_at w r).tag 4) (slot_checks n c w [] r) a) in
          one_more h (λ b. sym (no_bytes n c w r e b) ∙ and_right (eqb (cell_at w r).tag 4) (slot_checks n c w [] r) a)

-- ── All slots before ──

module _ (n c : ℕ) (w b : List ℕ) (i r : ℕ) (before : AllBefore (slot_checks n c w b) i) where
  -- a run of slots that pass is added
  and_these : ((j : ℕ) → i ≤ j → j < r → slot_checks n c w b j ≡ true) → AllBefore (slot_checks n c w b) r
  and_these these = record { all = λ j h. go j h (dec_lt j i) }
    where
      go : (j : ℕ) → j < r → Dec (j < i) → slot_checks n c w b j ≡ true
      go j h (yes x) = before.all j x
      go j h (no x) = these j (omega arith) h

  pub closed_pass : ClosedRun w n i r → AllBefore (slot_checks n c w b) r
  unfolding cell_at
  closed_pass run =
      and_these
      (λ j hi hr. let z = run.closed j hi hr in sym (slot_closed n c w b j z.0) ∙ le-leb (get_or w (cell_base j + 0) 0) 4294967295 z.1)

  pub run_passes : PassRun n c w i r → AllBefore (slot_checks n c w b) r
  run_passes run = and_these (λ j hi hr. run.passes j b hi hr)
