-- read, recvmsg, write, sendmsg. Document 01, "One call at a time".
use Rattle.std.specs.Prelude.{ℕ, ◌+◌, ◌-◌, min, Bool, cond, not, ◌&&◌, ◌||◌, List, [], ◌∷◌, length, take, drop, leb, ltb}
use Rattle.rules.specs.Table.{Inbox, State, Table, is_open, state_of, become}
use Rattle.rules.specs.Inbox.{is_nil, all_items, append, group, moved, rest}
use Rattle.rules.specs.Outcome.{Outcome, refuse, answer, refuse_if, open_one}

-- ── read, recvmsg ──

-- what becomes of the group that is removed: "recvmsg hands it over, read releases it"; recvmsg's `most` "is the length of the item list lent to it: it puts
-- the first m items there, releases the rest in order, and sets flag 8 when there were more"
pub data Policy : Type 0 where
  Drop : Policy
  Take : (most : ℕ) → Policy

unfoldable pub handed : Policy → List ℕ → List ℕ
handed Drop its = []
handed (Take m) its = take m its

unfoldable pub released : Policy → List ℕ → List ℕ
released Drop its = its
released (Take m) its = drop m its

unfoldable pub flags_of : Policy → List ℕ → ℕ
flags_of Drop its = 0
flags_of (Take m) its = cond (ltb m (length its)) 8 0

-- "Otherwise the group at the first queued byte is removed: .. Bytes moved: the least of buffer length, queued bytes, and distance to the next group. The open
-- peer is woken, also for 0 bytes."
unfoldable pub drained : Table → ℕ → ℕ → Policy → ℕ → Inbox → Bool → Bool → Outcome
drained t h size policy p i x y =
    record {
      no = 0;
      value = moved i size;
      wakes = open_one t p;
      releases = released policy (group i.groups);
      bytes = take (moved i size) i.bytes;
      items = handed policy (group i.groups);
      flags = flags_of policy (group i.groups);
      next = become t h (State.Connected p (rest i (moved i size)) x y);
    }

-- "read, recvmsg: .. not connected 9. Inbox empty: 0 bytes if the inbox is closed or the peer gone, else 8; no wake."
unfoldable pub drain : Table → ℕ → ℕ → Policy → State → Outcome
drain t h size policy State.Unbound = refuse t 9
drain t h size policy (State.Bound m) = refuse t 9
drain t h size policy (State.Listening m b q) = refuse t 9
drain t h size policy (State.Connected p i x y) =
    cond (is_nil i.bytes)
    (cond (x || not (is_open t p)) (answer t 0 [] []) (refuse t 8))
    (drained t h size policy p i x y)

-- ── write, sendmsg ──

-- "no room": how many bytes an inbox still takes
unfoldable pub room : Table → Inbox → ℕ
room t i = t.capacity - length i.bytes

-- "no room 8; items with no bytes 2; queued items plus new above 256: 11. It appends what fits, attaches the items to its first byte, wakes the peer." The
-- peer p is open, and in this state; a peer that is not connected stands in no well-formed table
unfoldable pub send : Table → ℕ → List ℕ → List ℕ → State → Outcome
send t p new its State.Unbound = refuse t 19
send t p new its (State.Bound m) = refuse t 19
send t p new its (State.Listening m b q) = refuse t 19
send t p new its (State.Connected h i x y) =
    refuse_if (leb t.capacity (length i.bytes)) 8 t
    (refuse_if (not (is_nil its) && is_nil new) 2 t
    (refuse_if (not (is_nil its) && ltb 256 (length (all_items i.groups) + length its)) 11 t
    (answer (become t p (State.Connected h (append i (take (room t i) new) its) x y)) (min (room t i) (length new)) (p ∷ []) [])))

-- "write, sendmsg: not connected 9; outbox closed or peer gone 10; .."
unfoldable pub do_send : Table → List ℕ → List ℕ → State → Outcome
do_send t new its State.Unbound = refuse t 9
do_send t new its (State.Bound m) = refuse t 9
do_send t new its (State.Listening m b q) = refuse t 9
do_send t new its (State.Connected p i x y) = refuse_if (y || not (is_open t p)) 10 t (send t p new its (state_of t p))
