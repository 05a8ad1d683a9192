-- The storage as the table of rules/specs/Table.
use Rattle.std.specs.Prelude.{ℕ, true, map, eqb, take}
use Rattle.ring.specs.Ring.{queued}
use Rattle.inbox.specs.View as inbox
use Rattle.rules.specs.Table as model
use Rattle.storage.specs.Cells.{state_of}
use Rattle.storage.specs.Rows.{Store, Row, rows}
use Rattle.storage.specs.declared.State.{State}
use Rattle.storage.specs.declared.State.TheVariants.{Closed, Unbound, Bound, Listening, Connected}

-- an occupied slot
abbrev pub open' : ℕ → model.State → model.Slot
open' g σ = record { gen = g; in_use = true; given = true; state = σ }

-- a slot of this generation and state, with the rest of its row; a closed slot is its generation
unfoldable pub show_in : Row → ℕ → State → model.Slot
show_in r g Closed = model.closed g
show_in r g Unbound = open' g model.State.Unbound
show_in r g (Bound m) = open' g (model.State.Bound (take m r.room))
show_in r g (Listening l) = open' g (model.State.Listening (take l.name r.room) l.backlog (queued r.queue l.head l.pending))
show_in r g (Connected k) =
    record {
      gen = g;
      in_use = true;
      given = eqb k.waits 0;
      state = model.State.Connected k.peer.0 (inbox.view r.ring r.places r.tokens k.inbox) k.inbox_closed k.outbox_closed;
    }

abbrev pub show : Row → model.Slot
show r = show_in r r.cell.generation (state_of r.cell)

unfoldable pub view : ℕ → ℕ → Store → model.Table
view n c s = record { capacity = c; slots = map show (rows n c s) }
