-- What passes through one socket's inbox: what a call puts in, what it hands out, and what it drops. In the terms of the call and of its answer.
use Rattle.std.specs.Prelude.{ℕ, ◌≡◌, Bool, false, cond, ◌&&◌, List, [], ◌∷◌, ◌++◌, eqb, length, take}
use Rattle.rules.specs.Table.{Table, State, Inbox, state_of}
use Rattle.rules.specs.Inbox.{nothing, all_items}
use Rattle.rules.specs.Outcome.{Call, Outcome}
use Rattle.rules.specs.Run.{run, shuts_read}
use Rattle.storage.specs.Rows.{Store}
use Rattle.storage.specs.View.{view}
use Rattle.cases.specs.Step.{Request, Result, Reached}
use Rattle.cases.specs.Leads.{buffer_of, items_of}

-- ── What is queued ──

-- a socket that is not connected has an empty inbox
unfoldable pub inbox_of : State → Inbox
inbox_of State.Unbound = nothing
inbox_of (State.Bound m) = nothing
inbox_of (State.Listening m b q) = nothing
inbox_of (State.Connected p i x y) = i

unfoldable pub held : Table → ℕ → Inbox
held t g = inbox_of (state_of t g)

abbrev pub bytes_at : Table → ℕ → List ℕ
bytes_at t g = (held t g).bytes

abbrev pub items_at : Table → ℕ → List ℕ
items_at t g = all_items (held t g).groups

-- ── What a call puts in ──

unfoldable pub sends_to : ℕ → State → Bool
sends_to g State.Unbound = false
sends_to g (State.Bound m) = false
sends_to g (State.Listening m b q) = false
sends_to g (State.Connected p i x y) = eqb p g

-- a send by h that was accepted, at a table where h's peer is g
unfoldable pub reaches : Table → ℕ → Outcome → ℕ → Bool
reaches t h o g = eqb o.no 0 && sends_to g (state_of t h)

-- of the bytes of a write or sendmsg, as many as it answered
unfoldable pub bytes_in : Table → Call → Outcome → ℕ → List ℕ
bytes_in t (Call.Socket d k p) o g = []
bytes_in t (Call.Bind h n) o g = []
bytes_in t (Call.Listen h k) o g = []
bytes_in t (Call.Accept h) o g = []
bytes_in t (Call.Connect h n) o g = []
bytes_in t (Call.Read h size) o g = []
bytes_in t (Call.Recvmsg h size most) o g = []
bytes_in t (Call.Write h from) o g = cond (reaches t h o g) (take o.value from) []
bytes_in t (Call.Sendmsg h from items) o g = cond (reaches t h o g) (take o.value from) []
bytes_in t (Call.Shutdown h how) o g = []
bytes_in t (Call.Close h) o g = []
bytes_in t (Call.Readiness h) o g = []

-- all items of a sendmsg
unfoldable pub items_in : Table → Call → Outcome → ℕ → List ℕ
items_in t (Call.Socket d k p) o g = []
items_in t (Call.Bind h n) o g = []
items_in t (Call.Listen h k) o g = []
items_in t (Call.Accept h) o g = []
items_in t (Call.Connect h n) o g = []
items_in t (Call.Read h size) o g = []
items_in t (Call.Recvmsg h size most) o g = []
items_in t (Call.Write h from) o g = []
items_in t (Call.Sendmsg h from items) o g = cond (reaches t h o g) items []
items_in t (Call.Shutdown h how) o g = []
items_in t (Call.Close h) o g = []
items_in t (Call.Readiness h) o g = []

-- ── What a call takes out ──

-- the bytes that a read or recvmsg by g gave its caller
unfoldable pub bytes_out : Call → Outcome → ℕ → List ℕ
bytes_out (Call.Socket d k p) o g = []
bytes_out (Call.Bind h n) o g = []
bytes_out (Call.Listen h k) o g = []
bytes_out (Call.Accept h) o g = []
bytes_out (Call.Connect h n) o g = []
bytes_out (Call.Read h size) o g = cond (eqb h g) o.bytes []
bytes_out (Call.Recvmsg h size most) o g = cond (eqb h g) o.bytes []
bytes_out (Call.Write h from) o g = []
bytes_out (Call.Sendmsg h from items) o g = []
bytes_out (Call.Shutdown h how) o g = []
bytes_out (Call.Close h) o g = []
bytes_out (Call.Readiness h) o g = []

-- the bytes that a shutdown of reading by g dropped: all that were queued
unfoldable pub bytes_dropped : Table → Call → Outcome → ℕ → List ℕ
bytes_dropped t (Call.Socket d k p) o g = []
bytes_dropped t (Call.Bind h n) o g = []
bytes_dropped t (Call.Listen h k) o g = []
bytes_dropped t (Call.Accept h) o g = []
bytes_dropped t (Call.Connect h n) o g = []
bytes_dropped t (Call.Read h size) o g = []
bytes_dropped t (Call.Recvmsg h size most) o g = []
bytes_dropped t (Call.Write h from) o g = []
bytes_dropped t (Call.Sendmsg h from items) o g = []
bytes_dropped t (Call.Shutdown h how) o g = cond (eqb o.no 0 && (eqb h g && shuts_read how)) (bytes_at t g) []
bytes_dropped t (Call.Close h) o g = []
bytes_dropped t (Call.Readiness h) o g = []

-- the items that a read or recvmsg by g handed over, then those that it released; all that a shutdown by g released
unfoldable pub items_out : Call → Outcome → ℕ → List ℕ
items_out (Call.Socket d k p) o g = []
items_out (Call.Bind h n) o g = []
items_out (Call.Listen h k) o g = []
items_out (Call.Accept h) o g = []
items_out (Call.Connect h n) o g = []
items_out (Call.Read h size) o g = cond (eqb h g) (o.items ++ o.releases) []
items_out (Call.Recvmsg h size most) o g = cond (eqb h g) (o.items ++ o.releases) []
items_out (Call.Write h from) o g = []
items_out (Call.Sendmsg h from items) o g = []
items_out (Call.Shutdown h how) o g = cond (eqb h g) (o.items ++ o.releases) []
items_out (Call.Close h) o g = []
items_out (Call.Readiness h) o g = []

-- ── Calls one after another, from the table t ──

unfoldable pub all_bytes_in : Table → List Call → ℕ → List ℕ
all_bytes_in t [] g = []
all_bytes_in t (y ∷ ys) g = bytes_in t y (run t y) g ++ all_bytes_in (run t y).next ys g

unfoldable pub all_items_in : Table → List Call → ℕ → List ℕ
all_items_in t [] g = []
all_items_in t (y ∷ ys) g = items_in t y (run t y) g ++ all_items_in (run t y).next ys g

-- handed out or dropped
unfoldable pub all_bytes_gone : Table → List Call → ℕ → List ℕ
all_bytes_gone t [] g = []
all_bytes_gone t (y ∷ ys) g = (bytes_out y (run t y) g ++ bytes_dropped t y (run t y) g) ++ all_bytes_gone (run t y).next ys g

-- handed out
unfoldable pub all_bytes_out : Table → List Call → ℕ → List ℕ
all_bytes_out t [] g = []
all_bytes_out t (y ∷ ys) g = bytes_out y (run t y) g ++ all_bytes_out (run t y).next ys g

unfoldable pub all_items_out : Table → List Call → ℕ → List ℕ
all_items_out t [] g = []
all_items_out t (y ∷ ys) g = items_out y (run t y) g ++ all_items_out (run t y).next ys g

-- ── Over lent storage ──

-- what the host sees of a call: its answer, and of each list and of its buffer as much as the answer counts
abbrev pub seen : ℕ → ℕ → Result → Outcome
seen n c r =
    record {
      no = r.answer.refusal;
      value = r.answer.value;
      wakes = take r.answer.wakes r.lists.wakes;
      releases = take r.answer.releases r.lists.releases;
      bytes = take r.answer.value r.buf;
      items = take r.answer.items r.items;
      flags = r.answer.flags;
      next = view n c r.store;
    }

-- the buffer and the item list that are lent are those that the call speaks of
pub record Lends (q : Request) : Type 0 where
  pub buffer : length q.buf ≡ buffer_of q.call
  pub item_list : length q.items ≡ items_of q.call

abbrev pub AllLend : {s₀ s : Store} → Reached s₀ s → Type 0
AllLend Reached.start = Unit {0}
AllLend (Reached.then' p q r a) = AllLend p × Lends q

-- all that was put in, in order
unfoldable pub came_bytes : {s₀ s : Store} → ℕ → ℕ → Reached s₀ s → ℕ → List ℕ
came_bytes n c Reached.start g = []
came_bytes n c (Reached.then' {s} p q r a) g = came_bytes n c p g ++ bytes_in (view n c s) q.call (seen n c r) g

unfoldable pub came_items : {s₀ s : Store} → ℕ → ℕ → Reached s₀ s → ℕ → List ℕ
came_items n c Reached.start g = []
came_items n c (Reached.then' {s} p q r a) g = came_items n c p g ++ items_in (view n c s) q.call (seen n c r) g

-- all that was handed out or dropped, in order
unfoldable pub gone_bytes : {s₀ s : Store} → ℕ → ℕ → Reached s₀ s → ℕ → List ℕ
gone_bytes n c Reached.start g = []
gone_bytes n c (Reached.then' {s} p q r a) g = gone_bytes n c p g ++ (bytes_out q.call (seen n c r) g ++ bytes_dropped (view n c s) q.call (seen n c r) g)

unfoldable pub gone_items : {s₀ s : Store} → ℕ → ℕ → Reached s₀ s → ℕ → List ℕ
gone_items n c Reached.start g = []
gone_items n c (Reached.then' {s} p q r a) g = gone_items n c p g ++ items_out q.call (seen n c r) g

-- the bytes that reads and recvmsgs by g handed out, and those that it dropped
unfoldable pub read_bytes : {s₀ s : Store} → ℕ → ℕ → Reached s₀ s → ℕ → List ℕ
read_bytes n c Reached.start g = []
read_bytes n c (Reached.then' {s} p q r a) g = read_bytes n c p g ++ bytes_out q.call (seen n c r) g

unfoldable pub dropped_bytes : {s₀ s : Store} → ℕ → ℕ → Reached s₀ s → ℕ → List ℕ
dropped_bytes n c Reached.start g = []
dropped_bytes n c (Reached.then' {s} p q r a) g = dropped_bytes n c p g ++ bytes_dropped (view n c s) q.call (seen n c r) g
