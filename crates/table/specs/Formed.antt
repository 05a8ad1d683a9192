-- "A well-formed table is one yes-or-no definition": of the lent storage, with n slots of capacity c. What belongs to the storage is said here; the rest is
-- said of the table that it shows, by `well_formed` of rules/specs/WellFormed.
use Rattle.std.specs.Prelude.{ℕ, ◌+◌, ◌-◌, Bool, true, false, cond, ◌&&◌, List, leb, ltb, eqb, get_or}
use Rattle.ring.specs.Ring.{place_of}
use Rattle.inbox.specs.View.{count}
use Rattle.inbox.specs.declared.Inbox.{Inbox}
use Rattle.rules.specs.Table.{slot_of, handle}
use Rattle.rules.specs.WellFormed.{every, well_formed}
use Rattle.storage.specs.Layout.{part, queue_base}
use Rattle.storage.specs.Cells.{cell_at, state_of}
use Rattle.storage.specs.Rows.{Store}
use Rattle.storage.specs.View.{view}
use Rattle.storage.specs.declared.Cell.{Cell}
use Rattle.storage.specs.declared.State.{State}
use Rattle.storage.specs.declared.State.TheVariants.{Closed, Unbound, Bound, Listening, Connected}

-- the ring of handles of slot i
abbrev pub queue_in : ℕ → List ℕ → ℕ → List ℕ
queue_in n w i = part (queue_base n i) n w

-- ── "storage numbers match N and C" ──

unfoldable pub header_well : ℕ → ℕ → List ℕ → Bool
header_well n c w = eqb (get_or w 0 0) n && eqb (get_or w 1 0) c && every 6 (λ k. eqb (get_or w (2 + k) 0) 0)

-- ── "a field that a state does not have 0", "each flag 0 or 1"; of a closed slot only state and generation are looked at ──

unfoldable pub no_name : Cell → Bool
no_name k = eqb k.name 0

unfoldable pub no_queue : Cell → Bool
no_queue k = eqb k.backlog 0 && eqb k.head 0 && eqb k.pending 0

unfoldable pub no_pair : Cell → Bool
no_pair k =
    eqb k.peer 0 && eqb k.inbox_closed 0 && eqb k.outbox_closed 0
    && eqb k.byte 0 && eqb k.written_total 0 && eqb k.read_total 0 && eqb k.first 0 && eqb k.items 0
    && eqb k.waits 0 && eqb k.place 0

-- a socket that does not wait has no place in a queue
unfoldable pub pair_fields : Cell → Bool
pair_fields k = leb k.inbox_closed 1 && leb k.outbox_closed 1 && cond (eqb k.waits 0) (eqb k.place 0) true

unfoldable pub fields_well : Cell → Bool
fields_well k =
    cond (eqb k.tag 0) true
    (cond (eqb k.tag 1) (no_name k && no_queue k && no_pair k)
    (cond (eqb k.tag 2) (no_queue k && no_pair k)
    (cond (eqb k.tag 3) (no_pair k)
    (cond (eqb k.tag 4) (no_name k && no_queue k && pair_fields k)
    false))))

-- ── Numbers in range: a name's length, a backlog, the heads and counts of the rings ──

unfoldable pub inbox_range : ℕ → Inbox → Bool
inbox_range c q = ltb q.head c && leb (count q) c && ltb q.first 256 && leb q.items 256

unfoldable pub ranges_well : ℕ → ℕ → State → Bool
ranges_well n c Closed = true
ranges_well n c Unbound = true
ranges_well n c (Bound m) = leb m 255
ranges_well n c (Listening l) = leb l.name 255 && ltb l.backlog 4294967296 && ltb l.head n && leb l.pending n
ranges_well n c (Connected k) = inbox_range c k.inbox

-- ── "a pending server names the listener and the place where it stands" ──

-- a server that waits on slot l - 1, at place x of its ring
unfoldable pub waits_at : ℕ → ℕ → State → Bool
waits_at l x Closed = false
waits_at l x Unbound = false
waits_at l x (Bound m) = false
waits_at l x (Listening k) = false
waits_at l x (Connected k) = eqb k.waits l && eqb k.place x

-- the handle h, found at place x of the ring of slot i, is of a server that says so
unfoldable pub server_well : ℕ → List ℕ → ℕ → ℕ → ℕ → Bool
server_well n w i x h = ltb (slot_of h) n && eqb (handle (cell_at w (slot_of h)).generation (slot_of h)) h && waits_at (i + 1) x (state_of (cell_at w (slot_of h)))

-- how far place b of a ring of n lies after place a
unfoldable pub ahead : ℕ → ℕ → ℕ → ℕ
ahead n a b = cond (leb a b) (b - a) (b + n - a)

-- the handle h stands at place x of this listener's queue
unfoldable pub stands_at : ℕ → ℕ → ℕ → List ℕ → State → Bool
stands_at n x h queue Closed = false
stands_at n x h queue Unbound = false
stands_at n x h queue (Bound m) = false
stands_at n x h queue (Listening l) = ltb x n && ltb (ahead n l.head x) l.pending && eqb (get_or queue x 0) h
stands_at n x h queue (Connected k) = false

-- the servers of a listener's queue, and a server that waits
unfoldable pub tied_state : ℕ → List ℕ → ℕ → State → Bool
tied_state n w i Closed = true
tied_state n w i Unbound = true
tied_state n w i (Bound m) = true
tied_state n w i (Listening l) = every l.pending (λ k. server_well n w i (place_of n (l.head + k)) (get_or (queue_in n w i) (place_of n (l.head + k)) 0))
tied_state n w i (Connected k) =
    cond (eqb k.waits 0) true
    (leb k.waits n && stands_at n k.place (handle (cell_at w i).generation i) (queue_in n w (k.waits - 1)) (state_of (cell_at w (k.waits - 1))))

unfoldable pub tied : ℕ → List ℕ → ℕ → Bool
tied n w i = tied_state n w i (state_of (cell_at w i))

-- ── All together ──

unfoldable pub slot_formed : ℕ → ℕ → List ℕ → ℕ → Bool
slot_formed n c w i = fields_well (cell_at w i) && ranges_well n c (state_of (cell_at w i)) && tied n w i

unfoldable pub formed : ℕ → ℕ → Store → Bool
formed n c s = header_well n c s.words && every n (slot_formed n c s.words) && well_formed (view n c s)
