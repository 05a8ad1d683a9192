-- What connect stores: a caller and a new server, each the other's peer, and the server in the queue of a listener.
use Rattle.std.specs.Prelude.{ℕ, ◌+◌, false, List, set}
use Rattle.ring.specs.Ring.{place_of}
use Rattle.inbox.specs.Promise.{none}
use Rattle.rules.specs.Table.{slot_of, handle}
use Rattle.storage.specs.Layout.{queue_base}
use Rattle.storage.specs.Cells.{cell_at, store_at, cell_of}
use Rattle.storage.specs.declared.Listener.{Listener}
use Rattle.storage.specs.declared.Connection.{Connection}
use Rattle.storage.specs.declared.State.TheVariants.{Listening, Connected}

-- one of a new pair
abbrev pub new_end : (peer waits place : ℕ) → Connection
new_end p l x = record { peer = record { 0 = p }; inbox = none; inbox_closed = false; outbox_closed = false; waits = l; place = x }

-- a listener with one more pending
abbrev pub one_more : Listener → Listener
one_more q = record { name = q.name; backlog = q.backlog; head = q.head; pending = q.pending + 1 }

-- a server of generation g in slot j, that will wait at place x for slot l; and the caller h, of generation f
unfoldable pub pair_in : List ℕ → (h f j g l x : ℕ) → List ℕ
pair_in w h f j g l x = store_at (store_at w j (cell_of g (Connected (new_end h (l + 1) x)))) (slot_of h) (cell_of f (Connected (new_end (handle g j) 0 0)))

-- the handle s at place x of the queue of the listener q, of generation g, in slot l
unfoldable pub queue_up : ℕ → List ℕ → (l g : ℕ) → Listener → (x s : ℕ) → List ℕ
queue_up n w l g q x s = store_at (set w (queue_base n l + x) s) l (cell_of g (Listening (one_more q)))

-- both: slot j is free
unfoldable pub joined : ℕ → List ℕ → (h l g : ℕ) → Listener → ℕ → List ℕ
joined n w h l g q j =
    let f = (cell_at w j).generation + 1 in
    let x = place_of n (q.head + q.pending) in
    queue_up n (pair_in w h (cell_at w (slot_of h)).generation j f l x) l g q x (handle f j)
