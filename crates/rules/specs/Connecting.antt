-- socket, bind, listen, accept, connect. Document 01, "One call at a time". Each rule is given the caller's state; the handle has been asked.
use Rattle.std.specs.Prelude.{ℕ, Bool, true, false, cond, not, List, [], ◌∷◌, ◌++◌, ℤ, length, leb, ltb}
use Rattle.words.specs.Integers.{equals}
use Rattle.rules.specs.Table.{State, Table, at, handle_at, free_slot, no_slot, new_handle, holds, holder, become, give, enter}
use Rattle.rules.specs.Inbox.{nothing}
use Rattle.rules.specs.Outcome.{Outcome, refuse, answer, refuse_if, registry}

-- "socket (002): domain not 1, 12; type not 1, 14; protocol not 0, 15; no slot 16. Unbound, no wakes."
unfoldable pub do_socket : Table → ℤ → ℤ → ℤ → Outcome
do_socket t domain type protocol =
    refuse_if (not (equals domain 1)) 12 t
    (refuse_if (not (equals type 1)) 14 t
    (refuse_if (not (equals protocol 0)) 15 t
    (refuse_if (no_slot t) 16 t
    (answer (enter t (free_slot t) true State.Unbound) (new_handle t) [] []))))

-- "bind: not unbound 2; name held by an open socket 3. No wakes."
unfoldable pub do_bind : Table → ℕ → List ℕ → State → Outcome
do_bind t h n State.Unbound = refuse_if (holds n (at t (holder t n))) 3 t (answer (become t h (State.Bound n)) 0 [] [])
do_bind t h n (State.Bound m) = refuse t 2
do_bind t h n (State.Listening m b q) = refuse t 2
do_bind t h n (State.Connected p i x y) = refuse t 2

-- "listen: unbound 4; connected 2. Bound becomes listening, silently. Listening: the backlog is replaced, and a larger one wakes the registry."
unfoldable pub do_listen : Table → ℕ → ℕ → State → Outcome
do_listen t h k State.Unbound = refuse t 4
do_listen t h k (State.Bound m) = answer (become t h (State.Listening m k [])) 0 [] []
do_listen t h k (State.Listening m b q) = answer (become t h (State.Listening m k q)) 0 (cond (ltb b k) (registry ∷ []) []) []
do_listen t h k (State.Connected p i x y) = refuse t 2

-- "accept: not listening 2; nothing pending 8. Else the oldest server, and a registry wake."
unfoldable pub do_accept : Table → ℕ → State → Outcome
do_accept t h State.Unbound = refuse t 2
do_accept t h (State.Bound m) = refuse t 2
do_accept t h (State.Listening m b []) = refuse t 8
do_accept t h (State.Listening m b (s ∷ q)) = answer (give (become t h (State.Listening m b q)) s) s (registry ∷ []) []
do_accept t h (State.Connected p i x y) = refuse t 2

-- "connect: connected 5; listening 6; bound 2; no open socket of that name, or it isn't listening, 7; pending at or above backlog 8; no slot 16. Wakes the
-- listener, then the caller."

-- "pending at or above backlog"
unfoldable pub is_full : ℕ → List ℕ → Bool
is_full backlog queue = leb backlog (length queue)

-- the caller h and a new server, each the other's peer, and the server last in the queue of the listener l
unfoldable pub connected : Table → ℕ → ℕ → List ℕ → ℕ → List ℕ → Table
connected t h l m b q =
    become
    (become (enter t (free_slot t) false (State.Connected h nothing false false)) h (State.Connected (new_handle t) nothing false false))
    l
    (State.Listening m b (q ++ new_handle t ∷ []))

-- the socket l of that name, in its state
unfoldable pub reach : Table → ℕ → ℕ → State → Outcome
reach t h l State.Unbound = refuse t 7
reach t h l (State.Bound m) = refuse t 7
reach t h l (State.Listening m b q) =
    refuse_if (is_full b q) 8 t
    (refuse_if (no_slot t) 16 t
    (answer (connected t h l m b q) 0 (l ∷ h ∷ []) []))
reach t h l (State.Connected p i x y) = refuse t 7

unfoldable pub do_connect : Table → ℕ → List ℕ → State → Outcome
do_connect t h n State.Unbound = reach t h (handle_at t (holder t n)) (at t (holder t n)).state
do_connect t h n (State.Bound m) = refuse t 2
do_connect t h n (State.Listening m b q) = refuse t 6
do_connect t h n (State.Connected p i x y) = refuse t 5
