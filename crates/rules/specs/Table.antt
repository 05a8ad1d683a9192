-- What a table holds. Document 01, "The table".
use Rattle.std.specs.Prelude.{ℕ, zero, suc, ◌+◌, ◌*◌, ◌%◌, Bool, true, false, cond, not, ◌&&◌, List, [], ◌∷◌, length, get_or, set, replicate, leb, ltb, eqb}

-- ── Sockets ──

-- items that lie at one byte: its distance from the first queued byte, and the items. "An item is a u32 token, opaque."
pub record Group : Type 0 where
  pub place : ℕ
  pub items : List ℕ

-- the bytes and the groups of items that a socket has been sent and has not read
pub record Inbox : Type 0 where
  pub bytes : List ℕ
  pub groups : List Group

-- a name is a list of bytes, a peer and a queue's entries are handles
pub data State : Type 0 where
  Unbound : State
  Bound : (name : List ℕ) → State
  Listening : (name : List ℕ) (backlog : ℕ) (queue : List ℕ) → State
  Connected : (peer : ℕ) (inbox : Inbox) (inbox_closed outbox_closed : Bool) → State

-- ── Slots ──

-- `in_use`: a socket occupies the slot. `given`: its handle has been returned to the host; "a server made by connect occupies a slot, but its handle is
-- refused by every entry until accept has returned it"
pub record Slot : Type 0 where
  pub gen : ℕ
  pub in_use : Bool
  pub given : Bool
  pub state : State

-- a closed slot is its generation and nothing else
abbrev pub closed : ℕ → Slot
closed g = record { gen = g; in_use = false; given = false; state = Unbound }

-- "Slots N: 1 to 1,024. Inbox capacity C: 1 to 65,536": N is the number of slots
pub record Table : Type 0 where
  pub capacity : ℕ
  pub slots : List Slot

-- "(0 at start)"
abbrev pub vacant : Slot
vacant = closed 0

abbrev pub fresh : ℕ → ℕ → Table
fresh n c = record { capacity = c; slots = replicate n vacant }

-- slot i; a slot that the table does not have is vacant
abbrev pub at : Table → ℕ → Slot
at t i = get_or t.slots i vacant

abbrev pub put : Table → ℕ → Slot → Table
put t i s = record { capacity = t.capacity; slots = set t.slots i s }

-- ── Handles ──

-- "A handle is generation x 65,536 + slot."
abbrev pub handle : ℕ → ℕ → ℕ
handle gen i = gen * 65536 + i

abbrev pub slot_of : ℕ → ℕ
slot_of h = h % 65536

abbrev pub handle_at : Table → ℕ → ℕ
handle_at t i = handle (at t i).gen i

-- the socket of this handle has not been closed (a pending server is open)
unfoldable pub is_open : Table → ℕ → Bool
is_open t h = (at t (slot_of h)).in_use && eqb (handle_at t (slot_of h)) h

-- the entries take this handle
unfoldable pub is_live : Table → ℕ → Bool
is_live t h = is_open t h && (at t (slot_of h)).given

unfoldable pub state_of : Table → ℕ → State
state_of t h = (at t (slot_of h)).state

-- ── Searches ──

-- the index of the first slot that passes the test; the number of slots where none does
unfoldable pub first : (Slot → Bool) → List Slot → ℕ
first p [] = zero
first p (s ∷ ss) = cond (p s) zero (suc (first p ss))

-- "A slot closed at generation 4,294,967,295 is never used again; any other closed slot is."
unfoldable pub is_free : Slot → Bool
is_free s = not s.in_use && ltb s.gen 4294967295

-- "takes the lowest free slot"
unfoldable pub free_slot : Table → ℕ
free_slot t = first is_free t.slots

-- "ENFILE: each slot occupied or retired"
unfoldable pub no_slot : Table → Bool
no_slot t = leb (length t.slots) (free_slot t)

-- "and adds one to its generation"
unfoldable pub new_handle : Table → ℕ
new_handle t = handle (suc (at t (free_slot t)).gen) (free_slot t)

-- names are "equal when their bytes are equal"
unfoldable pub same : List ℕ → List ℕ → Bool
same [] [] = true
same [] (y ∷ ys) = false
same (x ∷ xs) [] = false
same (x ∷ xs) (y ∷ ys) = eqb x y && same xs ys

-- "only bound or listening sockets have names"
unfoldable pub has_name : List ℕ → State → Bool
has_name n Unbound = false
has_name n (Bound m) = same m n
has_name n (Listening m b q) = same m n
has_name n (Connected p i x y) = false

unfoldable pub holds : List ℕ → Slot → Bool
holds n s = s.in_use && has_name n s.state

-- the slot of the open socket of that name
unfoldable pub holder : Table → List ℕ → ℕ
holder t n = first (holds n) t.slots

-- ── Changes ──

-- the socket h in another state
unfoldable pub become : Table → ℕ → State → Table
become t h σ = let s = at t (slot_of h) in put t (slot_of h) (record { gen = s.gen; in_use = s.in_use; given = s.given; state = σ })

-- the socket h, handed out
unfoldable pub give : Table → ℕ → Table
give t h = let s = at t (slot_of h) in put t (slot_of h) (record { gen = s.gen; in_use = s.in_use; given = true; state = s.state })

-- a new socket in slot i
unfoldable pub enter : Table → ℕ → Bool → State → Table
enter t i g σ = put t i (record { gen = suc (at t i).gen; in_use = true; given = g; state = σ })

-- the socket h, closed
unfoldable pub leave : Table → ℕ → Table
leave t h = put t (slot_of h) (closed (at t (slot_of h)).gen)
