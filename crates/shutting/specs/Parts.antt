-- The parts of a shutdown: which ends it closes, what it does to its own socket, and what it promises from the state on.
use Rattle.std.specs.Prelude.{ℕ, ◌≡◌, Bool, true, false, cond, ◌||◌, List, []}
use Rattle.std.proofs.lemmas.List.Edits.{sets}
use Rattle.abi.specs.declared.ShutdownHow.{ShutdownHow}
use Rattle.inbox.specs.View.{count, items_in}
use Rattle.inbox.specs.Promise.{move_on}
use Rattle.inbox.specs.declared.Inbox.{Inbox}
use Rattle.inbox.specs.declared.Discarded.{Discarded}
use Rattle.rules.specs.Table as model
use Rattle.rules.specs.Table.{slot_of}
use Rattle.rules.specs.Outcome.{Call}
use Rattle.rules.specs.Ending.{do_shutdown}
use Rattle.rules.specs.Run.{run}
use Rattle.storage.specs.Cells.{cell_at, state_of, store_at, cell_of}
use Rattle.storage.specs.Rows.{Store}
use Rattle.storage.specs.View.{view}
use Rattle.storage.specs.declared.State.TheVariants.{Connected}
use Rattle.storage.specs.declared.Connection.{Connection}
use Rattle.promise.specs.Promise.{Lists, Done}
use Rattle.promise.specs.declared.Answer.{Answer}

abbrev pub reads_of : ShutdownHow → Bool
reads_of ShutdownHow.Read = true
reads_of ShutdownHow.Write = false
reads_of ShutdownHow.Both = true

abbrev pub writes_of : ShutdownHow → Bool
writes_of ShutdownHow.Read = false
writes_of ShutdownHow.Write = true
writes_of ShutdownHow.Both = true

-- a connection with another inbox, and with ends that close
abbrev pub ended_with : Connection → Inbox → (inbox outbox : Bool) → Connection
ended_with k q x y =
    record { peer = k.peer; inbox = q; inbox_closed = k.inbox_closed || x; outbox_closed = k.outbox_closed || y; waits = k.waits; place = k.place }

-- "Read drops inbox bytes, releases its items": the inbox after it, and the items
unfoldable pub left_of : ℕ → Bool → Inbox → Inbox
left_of c true q = move_on c q (count q) q.items
left_of c false q = q

unfoldable pub dropped_of : Bool → List ℕ → Inbox → List ℕ
dropped_of true tokens q = items_in tokens q
dropped_of false tokens q = []

pub record Drops (c : ℕ) (tokens releases releases' : List ℕ) (rd : Bool) (q : Inbox) (r : Discarded) : Type 0 where
  pub inbox_is : r.inbox ≡ left_of c rd q
  pub releases_it : releases' ≡ sets releases 0 (dropped_of rd tokens q)
  pub released_are : r.released ≡ cond rd q.items 0

-- the peer p, where it is connected: its inbox stays
pub record Follows (p : ℕ) (rd wr : Bool) (w w' : List ℕ) : Type 0 where
  pub words : (k : Connection) → state_of (cell_at w (slot_of p)) ≡ Connected k
      → w' ≡ store_at w (slot_of p) (cell_of (cell_at w (slot_of p)).generation (Connected (ended_with k k.inbox wr rd)))

-- a shutdown of the live socket h
pub record Shuts (n c : ℕ) (s s' : Store) (h : ℕ) (rd wr : Bool) (l l' : Lists) (r : Answer) : Type 0 where
  pub shuts : (call : Call) → run (view n c s) call ≡ do_shutdown (view n c s) h rd wr (model.state_of (view n c s) h) → Done (run (view n c s) call) n c s s' l l' r
