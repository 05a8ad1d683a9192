-- The same test as the code makes it: slot by slot, a name only against those of the slots before it. proofs/Equal.antt shows that it is `formed`.
use Rattle.std.specs.Prelude.{ℕ, ◌+◌, ◌/◌, ◌≤◌, ◌<◌, ◌≡◌, Bool, true, false, cond, not, ◌&&◌, ◌||◌, List, leb, ltb, eqb, get_or, take}
use Rattle.std.specs.Bool.{beq}
use Rattle.ring.specs.Ring.{place_of}
use Rattle.inbox.specs.Well.{is_well}
use Rattle.rules.specs.Table.{slot_of, handle}
use Rattle.rules.specs.WellFormed.{every}
use Rattle.storage.specs.Layout.{part, name_base, places_base}
use Rattle.storage.specs.Cells.{cell_at, state_of}
use Rattle.storage.specs.Rows.{Store}
use Rattle.storage.specs.Finding.{least, occupied, holds_cell}
use Rattle.storage.specs.declared.Cell.{Cell}
use Rattle.storage.specs.declared.Listener.{Listener}
use Rattle.storage.specs.declared.State.{State}
use Rattle.storage.specs.declared.State.TheVariants.{Closed, Unbound, Bound, Listening, Connected}
use Rattle.table.specs.Formed.{header_well, fields_well, ranges_well, queue_in, server_well, tied_state}

-- 1 to 255 bytes, and no slot before i has this name
unfoldable pub name_checks : ℕ → ℕ → List ℕ → List ℕ → ℕ → ℕ → Bool
name_checks n c w b i m =
    leb 1 m && leb m 255 && eqb (least i (λ j. holds_cell (cell_at w j) (part (name_base n c j) 255 b) (take m (part (name_base n c i) 255 b)))) i

-- the peer points back, if it is open
unfoldable pub points_back : ℕ → Bool → State → Bool
points_back me outbox_closed Closed = true
points_back me outbox_closed Unbound = false
points_back me outbox_closed (Bound m) = false
points_back me outbox_closed (Listening l) = false
points_back me outbox_closed (Connected k) = eqb k.peer.0 me && beq k.inbox_closed outbox_closed

-- the peer p of `me`: a slot of the table, of a generation that it has or has had, and another socket
unfoldable pub peer_checks : ℕ → List ℕ → ℕ → ℕ → Bool → Bool
peer_checks n w me p outbox_closed =
    ltb (slot_of p) n && leb 1 (p / 65536) && leb (p / 65536) (cell_at w (slot_of p)).generation && not (eqb p me)
    && cond (eqb (p / 65536) (cell_at w (slot_of p)).generation) (points_back me outbox_closed (state_of (cell_at w (slot_of p)))) true

-- entry k of the queue of slot i, a listener's
abbrev pub entry_well : ℕ → List ℕ → ℕ → Listener → ℕ → Bool
entry_well n w i l k = server_well n w i (place_of n (l.head + k)) (get_or (queue_in n w i) (place_of n (l.head + k)) 0)

unfoldable pub state_checks : ℕ → ℕ → List ℕ → List ℕ → ℕ → State → Bool
state_checks n c w b i Closed = true
state_checks n c w b i Unbound = true
state_checks n c w b i (Bound m) = name_checks n c w b i m
state_checks n c w b i (Listening l) = name_checks n c w b i l.name && ranges_well n c (Listening l) && tied_state n w i (Listening l)
state_checks n c w b i (Connected k) =
    peer_checks n w (handle (cell_at w i).generation i) k.peer.0 k.outbox_closed
    && is_well c (part (places_base n i) 256 w) k.inbox
    && tied_state n w i (Connected k)

-- `pair_fields`, in two
abbrev pub flags_well : Cell → Bool
flags_well k = leb k.inbox_closed 1 && leb k.outbox_closed 1

abbrev pub place_well : Cell → Bool
place_well k = cond (eqb k.waits 0) (eqb k.place 0) true

-- an occupied slot's generation is 1 or more
unfoldable pub generation_well : Cell → Bool
generation_well k = leb k.generation 4294967295 && (not (occupied (state_of k)) || leb 1 k.generation)

unfoldable pub slot_checks : ℕ → ℕ → List ℕ → List ℕ → ℕ → Bool
slot_checks n c w b i = generation_well (cell_at w i) && fields_well (cell_at w i) && state_checks n c w b i (state_of (cell_at w i))

-- the slots from i up to r are closed, of generations that a slot may have
pub record ClosedRun (w : List ℕ) (n i r : ℕ) : Type 0 where
  pub onward : i ≤ r
  pub inside : r ≤ n
  pub closed : (j : ℕ) → i ≤ j → j < r → ((cell_at w j).tag ≡ 0) × ((cell_at w j).generation ≤ 4294967295)

-- the slots from i up to r pass, whatever the bytes
pub record PassRun (n c : ℕ) (w : List ℕ) (i r : ℕ) : Type 0 where
  pub onward : i ≤ r
  pub inside : r ≤ n
  pub passes : (j : ℕ) (b : List ℕ) → i ≤ j → j < r → slot_checks n c w b j ≡ true

-- .. and slot r does not, if it is connected
pub record Skips (n c : ℕ) (w : List ℕ) (i r : ℕ) : Type 0 where
  pub run : PassRun n c w i r
  pub stops : (b : List ℕ) → r < n → (cell_at w r).tag ≡ 4 → slot_checks n c w b r ≡ false

unfoldable pub checks : ℕ → ℕ → Store → Bool
checks n c s = header_well n c s.words && every n (slot_checks n c s.words s.bytes)
