-- The numbers that the view forgets, and what a call makes of them: one function of the storage before and the table after. Where a pending server stands is
-- settled by `formed` of crates/table (crates/cases/proofs/Unique.antt shows that nothing is left open).
use Rattle.std.specs.Prelude.{ℕ, ◌+◌, ◌-◌, ◌%◌, ◌^◌, List, length}
use Rattle.std.proofs.lemmas.List.Edits.{sets}
use Rattle.ring.specs.Ring.{place_of}
use Rattle.rules.specs.Table as model
use Rattle.rules.specs.Inbox.{all_items}
use Rattle.storage.specs.declared.State.{State}
use Rattle.storage.specs.declared.State.TheVariants.{Closed, Unbound, Bound, Listening, Connected}

-- a listener's first pending server; an inbox's first byte, its totals (below 2^64), its first item
pub record Hidden : Type 0 where
  pub head : ℕ
  pub byte : ℕ
  pub written : ℕ
  pub read : ℕ
  pub first : ℕ

abbrev pub zeros : Hidden
zeros = record { head = 0; byte = 0; written = 0; read = 0; first = 0 }

unfoldable pub hidden_in : State → Hidden
hidden_in Closed = zeros
hidden_in Unbound = zeros
hidden_in (Bound m) = zeros
hidden_in (Listening l) = record { head = l.head; byte = 0; written = 0; read = 0; first = 0 }
hidden_in (Connected k) =
    record { head = 0; byte = k.inbox.head; written = k.inbox.written_total % 2 ^ 64; read = k.inbox.read_total % 2 ^ 64; first = k.inbox.first }

-- a queue that had q and has q': its head goes round by what was taken
unfoldable pub queue_on : ℕ → Hidden → (q q' : List ℕ) → Hidden
queue_on n h q q' = record { head = place_of n (h.head + (length q - length q')); byte = 0; written = 0; read = 0; first = 0 }

-- an inbox that had i and has j: heads go round by what was taken, totals move by the bytes
unfoldable pub inbox_on : ℕ → Hidden → (i j : model.Inbox) → Hidden
inbox_on c h i j =
    record {
      head = 0;
      byte = place_of c (h.byte + (length i.bytes - length j.bytes));
      written = (h.written + (length j.bytes - length i.bytes)) % 2 ^ 64;
      read = (h.read + (length i.bytes - length j.bytes)) % 2 ^ 64;
      first = place_of 256 (h.first + (length (all_items i.groups) - length (all_items j.groups)));
    }

-- a new queue starts at zeros, and so does a new inbox
unfoldable pub from_queue : ℕ → Hidden → model.State → List ℕ → Hidden
from_queue n h model.State.Unbound q' = zeros
from_queue n h (model.State.Bound m) q' = zeros
from_queue n h (model.State.Listening m b q) q' = queue_on n h q q'
from_queue n h (model.State.Connected p i x y) q' = zeros

unfoldable pub from_inbox : ℕ → Hidden → model.State → model.Inbox → Hidden
from_inbox c h model.State.Unbound j = zeros
from_inbox c h (model.State.Bound m) j = zeros
from_inbox c h (model.State.Listening m b q) j = zeros
from_inbox c h (model.State.Connected p i x y) j = inbox_on c h i j

-- a slot that was in the first state and is in the second
unfoldable pub hidden_after : ℕ → ℕ → Hidden → model.State → model.State → Hidden
hidden_after n c h σ model.State.Unbound = zeros
hidden_after n c h σ (model.State.Bound m) = zeros
hidden_after n c h σ (model.State.Listening m b q) = from_queue n h σ q
hidden_after n c h σ (model.State.Connected p j x y) = from_inbox c h σ j

-- ── The room of a name: a new name is written at its start, and else nothing is ──

unfoldable pub name_written : List ℕ → List ℕ → model.State → List ℕ
name_written room m model.State.Unbound = sets room 0 m
name_written room m (model.State.Bound k) = room
name_written room m (model.State.Listening k b q) = room
name_written room m (model.State.Connected p i x y) = room

unfoldable pub room_after : List ℕ → model.State → model.State → List ℕ
room_after room σ model.State.Unbound = room
room_after room σ (model.State.Bound m) = name_written room m σ
room_after room σ (model.State.Listening m b q) = room
room_after room σ (model.State.Connected p j x y) = room
