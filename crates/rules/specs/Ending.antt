-- shutdown, close, readiness. Document 01, "One call at a time".
use Rattle.std.specs.Prelude.{ℕ, ◌+◌, Bool, false, cond, not, ◌&&◌, ◌||◌, List, [], ◌∷◌, ◌++◌, length, ltb}
use Rattle.rules.specs.Table.{State, Table, is_open, state_of, become, leave}
use Rattle.rules.specs.Inbox.{nothing, is_nil, all_items}
use Rattle.rules.specs.Outcome.{Outcome, refuse, answer, open_one, registry}

-- ── shutdown ──

-- the peer's ends
unfoldable pub close_ends : Bool → Bool → State → State
close_ends inbox outbox State.Unbound = State.Unbound
close_ends inbox outbox (State.Bound m) = State.Bound m
close_ends inbox outbox (State.Listening m b q) = State.Listening m b q
close_ends inbox outbox (State.Connected p i x y) = State.Connected p i (x || inbox) (y || outbox)

-- "not connected 9. Read drops inbox bytes, releases its items, closes own inbox and peer outbox. Write closes own outbox and peer inbox. Wakes self, then the
-- open peer."
unfoldable pub do_shutdown : Table → ℕ → Bool → Bool → State → Outcome
do_shutdown t h rd wr State.Unbound = refuse t 9
do_shutdown t h rd wr (State.Bound m) = refuse t 9
do_shutdown t h rd wr (State.Listening m b q) = refuse t 9
do_shutdown t h rd wr (State.Connected p i x y) =
    answer
    (let u = become t h (State.Connected p (cond rd nothing i) (x || rd) (y || wr)) in cond (is_open t p) (become u p (close_ends wr rd (state_of u p))) u)
    0
    (h ∷ open_one t p)
    (cond rd (all_items i.groups) [])

-- ── close ──

-- "a bound or listening socket gives up its name and wakes the registry .. A connected one wakes its open peer."
unfoldable pub close_wakes : Table → State → List ℕ
close_wakes t State.Unbound = []
close_wakes t (State.Bound m) = registry ∷ []
close_wakes t (State.Listening m b q) = registry ∷ []
close_wakes t (State.Connected p i x y) = open_one t p

-- "Inbox items are released."
unfoldable pub kept : State → List ℕ
kept State.Unbound = []
kept (State.Bound m) = []
kept (State.Listening m b q) = []
kept (State.Connected p i x y) = all_items i.groups

unfoldable pub queued : State → List ℕ
queued State.Unbound = []
queued (State.Bound m) = []
queued (State.Listening m b q) = q
queued (State.Connected p i x y) = []

-- sockets that close, one after the other
pub record Closing : Type 0 where
  pub wakes : List ℕ
  pub releases : List ℕ
  pub next : Table

unfoldable pub close_all : Table → List ℕ → Closing
close_all t [] = record { wakes = []; releases = []; next = t }
close_all t (h ∷ hs) =
    let c = close_all (leave t h) hs in
    record { wakes = close_wakes t (state_of t h) ++ c.wakes; releases = kept (state_of t h) ++ c.releases; next = c.next }

-- "then each pending server closes, oldest first"
unfoldable pub do_close : Table → ℕ → Outcome
do_close t h = let c = close_all t (h ∷ queued (state_of t h)) in answer c.next 0 c.wakes c.releases

-- ── readiness ──

-- "the peer inbox has room"
unfoldable pub has_room : Table → State → Bool
has_room t State.Unbound = false
has_room t (State.Bound m) = false
has_room t (State.Listening m b q) = false
has_room t (State.Connected p i x y) = ltb (length i.bytes) t.capacity

-- "unbound, bound: none. Listening: readable if pending. Connected, peer gone: readable and hung up. Else readable if bytes are queued or the inbox is
-- closed; writable if the outbox is open and the peer inbox has room." As a number: readable 1, writable 2, hung up 4, added
unfoldable pub ready : Table → State → ℕ
ready t State.Unbound = 0
ready t (State.Bound m) = 0
ready t (State.Listening m b q) = cond (is_nil q) 0 1
ready t (State.Connected p i x y) =
    cond (is_open t p)
    (cond (not (is_nil i.bytes) || x) 1 0 + cond (not y && has_room t (state_of t p)) 2 0)
    5
