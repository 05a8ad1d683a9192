-- The parts of readiness, as the words tell them.
use Rattle.std.specs.Prelude.{ℕ, ◌+◌, Bool, false, cond, not, ◌&&◌, ◌||◌, List, eqb, ltb}
use Rattle.inbox.specs.View.{count}
use Rattle.rules.specs.Table.{slot_of}
use Rattle.storage.specs.Cells.{cell_at, state_of}
use Rattle.storage.specs.Finding.{open_in}
use Rattle.storage.specs.declared.State.{State}
use Rattle.storage.specs.declared.State.TheVariants.{Closed, Unbound, Bound, Listening, Connected}
use Rattle.storage.specs.declared.Connection.{Connection}

unfoldable pub readable_of : Connection → ℕ
readable_of k = cond (not (eqb (count k.inbox) 0) || k.inbox_closed) 1 0

abbrev pub room_in : ℕ → State → Bool
room_in c Closed = false
room_in c Unbound = false
room_in c (Bound m) = false
room_in c (Listening l) = false
room_in c (Connected k) = ltb (count k.inbox) c

unfoldable pub writable_in : ℕ → List ℕ → ℕ → Connection → ℕ
writable_in c w j k = cond (not k.outbox_closed && room_in c (state_of (cell_at w j))) 2 0

unfoldable pub ready_in : ℕ → ℕ → List ℕ → Connection → ℕ
ready_in n c w k = cond (open_in n w k.peer.0) (readable_of k + writable_in c w (slot_of k.peer.0) k) 5
