-- "A well-formed table is one yes-or-no definition". Each clause of document 01 and of its close reading, and where it stands:
--
--   storage numbers match N and C                                        the storage (crate `table`); here `in_range` of the two
--   only bound or listening sockets have names                           by the representation: a `State` of the others has none
--   no name twice; a name's length is 1 to 255                           `named_well`
--   connected pairs point at each other or at a socket already closed    `linked_well`
--   a peer's generation is 1 to the current one of its slot              `linked_well`
--   no socket is its own peer                                            `linked_well`
--   a socket's closed outbox equals its open peer's closed inbox         `linked_well`
--   each pending server is in one queue, once                            `pending_well`
--   a queue entry is an occupied, pending, connected slot                `is_pending`
--   at most C bytes queued                                               `inbox_well`
--   item groups non-empty, at strictly rising places inside the queued   `inbox_well`
--     bytes, at most 256 items together
--   every generation is at most 4,294,967,295, an occupied slot's is 1   `slot_well`
--     or more
--   closed slots: only state and generation are looked at                `slot_well`: a closed slot is its generation
--   pending may exceed the backlog; a pending server's client may have   no clause says otherwise
--     closed
--   a backlog below 2^32, each flag 0 or 1, each head inside its ring,   the storage: they are numbers of its words
--     a field that a state does not have 0; where a pending server stands
use Rattle.std.specs.Prelude.{ℕ, zero, suc, ◌+◌, ◌/◌, Bool, true, false, cond, not, ◌&&◌, ◌||◌, List, [], ◌∷◌, length, leb, ltb, eqb}
use Rattle.std.specs.Bool.{beq}
use Rattle.rules.specs.Table.{Group, Inbox, State, Slot, Table, at, handle_at, slot_of, is_open, state_of, holds}
use Rattle.rules.specs.Inbox.{is_nil, all_items}
use Rattle.rules.specs.Ending.{queued}
use Rattle.rules.specs.Run.{in_range}

-- every number below n passes
unfoldable pub every : ℕ → (ℕ → Bool) → Bool
every zero p = true
every (suc n) p = p n && every n p

-- every number of the list passes
unfoldable pub each : List ℕ → (ℕ → Bool) → Bool
each [] p = true
each (x ∷ xs) p = p x && each xs p

unfoldable pub implies : Bool → Bool → Bool
implies a b = not a || b

-- ── Names ──

-- "no name twice": whoever holds the name is slot i
unfoldable pub alone : Table → ℕ → List ℕ → Bool
alone t i m = every (length t.slots) (λ j. implies (holds m (at t j)) (eqb j i))

-- "a name's length is 1 to 255"
unfoldable pub named_well : Table → ℕ → List ℕ → Bool
named_well t i m = leb 1 (length m) && leb (length m) 255 && alone t i m

-- ── Pairs ──

-- the state points at g, and its inbox is closed or not as told
unfoldable pub points_at : ℕ → Bool → State → Bool
points_at g c State.Unbound = false
points_at g c (State.Bound m) = false
points_at g c (State.Listening m b q) = false
points_at g c (State.Connected p i x y) = eqb p g && beq x c

-- the peer p of slot i, whose outbox is closed or not: a socket that lives or has lived, another one, and one that points back if it is open
unfoldable pub linked_well : Table → ℕ → ℕ → Bool → Bool
linked_well t i p outbox_closed =
    leb 1 (p / 65536) && leb p (handle_at t (slot_of p))
    && not (eqb p (handle_at t i))
    && implies (is_open t p) (points_at (handle_at t i) outbox_closed (state_of t p))

-- ── Inboxes ──

-- groups that are not empty, the first at `from` or later, each later than the one before, all before `to`
unfoldable pub rising : ℕ → ℕ → List Group → Bool
rising from to [] = true
rising from to (g ∷ gs) = not (is_nil g.items) && leb from g.place && ltb g.place to && rising (suc g.place) to gs

unfoldable pub inbox_well : Table → Inbox → Bool
inbox_well t i = leb (length i.bytes) t.capacity && rising 0 (length i.bytes) i.groups && leb (length (all_items i.groups)) 256

-- ── Queues ──

unfoldable pub is_connected : State → Bool
is_connected State.Unbound = false
is_connected (State.Bound m) = false
is_connected (State.Listening m b q) = false
is_connected (State.Connected p i x y) = true

-- an occupied slot whose handle is not given out, in the connected state
unfoldable pub is_pending : Table → ℕ → Bool
is_pending t s = is_open t s && not (at t (slot_of s)).given && is_connected (state_of t s)

-- how often s stands in a list, and in all queues of the first n slots
unfoldable pub count : ℕ → List ℕ → ℕ
count s [] = 0
count s (x ∷ xs) = cond (eqb x s) 1 0 + count s xs

unfoldable pub queued_in : Table → ℕ → ℕ → ℕ
queued_in t zero s = 0
queued_in t (suc n) s = count s (queued (at t n).state) + queued_in t n s

-- "each pending server is in one queue", and there once
unfoldable pub pending_well : Table → ℕ → Bool
pending_well t s = is_pending t s && eqb (queued_in t (length t.slots) s) 1

-- ── Slots ──

unfoldable pub state_well : Table → ℕ → State → Bool
state_well t i State.Unbound = true
state_well t i (State.Bound m) = named_well t i m
state_well t i (State.Listening m b q) = named_well t i m && each q (is_pending t)
state_well t i (State.Connected p inbox x y) = linked_well t i p y && inbox_well t inbox

unfoldable pub is_unbound : State → Bool
is_unbound State.Unbound = true
is_unbound (State.Bound m) = false
is_unbound (State.Listening m b q) = false
is_unbound (State.Connected p i x y) = false

unfoldable pub slot_well : Table → ℕ → Slot → Bool
slot_well t i s =
    leb s.gen 4294967295
    && cond s.in_use
    (leb 1 s.gen && (s.given || pending_well t (handle_at t i)) && state_well t i s.state)
    (not s.given && is_unbound s.state)

unfoldable pub well_formed : Table → Bool
well_formed t = in_range (length t.slots) t.capacity && every (length t.slots) (λ i. slot_well t i (at t i))
