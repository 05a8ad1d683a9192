-- What the check of a connected slot needs.
use mathlib.Core.Path.{◌≡◌, refl}
use mathlib.Core.Bool.{Bool, true, false, ◌&&◌}
use mathlib.Core.List.{List, []}
use Prim.Native.Nat.{ℕ}
use lib.Dec.{leb, eqb}
use lib.Bits.{bit_or}
use Rattle.laws.proofs.Bits.{or-zero, or-eqb, or-leb}
use Rattle.storage.specs.Cells.{cell_at, state_of, connection_of}
use Rattle.storage.specs.declared.Cell.{Cell}
use Rattle.storage.specs.declared.State.TheVariants.{Connected}
use Rattle.table.specs.OnePass.{state_checks, slot_checks}

pub connected_state : (k : Cell) → k.tag ≡ 4 → state_of k ≡ Connected (connection_of k)
unfolding state_of
connected_state k e = rw e

-- ── Words taken together ──

pub four_none : (a b c d : ℕ) → eqb (bit_or (bit_or (bit_or a b) c) d) 0 ≡ eqb a 0 && (eqb b 0 && eqb c 0 && eqb d 0)
four_none a b c d = simp or-eqb (go (eqb a 0) (eqb b 0) (eqb c 0) (eqb d 0))
  where
    go : (x y z t : Bool) → x && y && z && t ≡ x && (y && z && t)
    go true y z t = refl
    go false y z t = refl

pub both_low : (a b : ℕ) → leb (bit_or a b) 1 ≡ leb a 1 && leb b 1
both_low a b = or-leb a b 1 1 refl

-- ── The slot ──

module _ (n c : ℕ) (w : List ℕ) (i : ℕ) (et : (cell_at w i).tag ≡ 4) where
  pub no_bytes : (b : List ℕ) → slot_checks n c w [] i ≡ slot_checks n c w b i
  unfolding slot_checks state_checks
  no_bytes b = rw (connected_state (cell_at w i) et)

-- ── The place in a queue ──

pub no_place : (a b : ℕ) → bit_or a b ≡ 0 → (a ≡ 0) × (b ≡ 0)
no_place a b e = or-zero a b e
