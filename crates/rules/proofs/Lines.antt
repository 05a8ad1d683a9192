-- Document 01, "Lines to be proved, C = 8": the lines on the socket calls, one table under one theorem. A second table, in the same form, has lines of our own.
use mathlib.Core.Path.{◌≡◌, refl}
use mathlib.Core.Bool.{true}
use Prim.Native.Nat.{ℕ}
use mathlib.Core.List.{List, [], ◌∷◌, ◌++◌, map}
use lib.IntN.{pos, negsuc}
use lib.ListN.{replicate}
use Rattle.laws.specs.All.{All}
use Rattle.words.specs.Integers.{equals}
use Rattle.rules.proofs.Model.{Call, Outcome, State, Table, fresh, after, run, is_open, is_live, state_of, first, is_free, same, has_name, holds, holder, become, give, enter, leave, all_items, is_nil, append, group, others, up_to, moved, nearer, rest, open_one, free_slot, no_slot, new_handle, refuse_if, do_socket, do_bind, do_listen, do_accept, is_full, connected, reach, do_connect, handed, released, flags_of, drained, drain, room, send, do_send, close_ends, do_shutdown, close_wakes, queued, kept, close_all, do_close, has_room, ready, on_live, on_name, shuts_read, shuts_write}

-- `unfolding model` opens all of the model
unfoldable pub model : Unit {0}
unfolding equals is_open is_live state_of first is_free same has_name holds holder become give enter leave all_items is_nil append group others up_to moved nearer rest open_one free_slot no_slot new_handle refuse_if do_socket do_bind do_listen do_accept is_full connected reach do_connect handed released flags_of drained drain room send do_send close_ends do_shutdown close_wakes queued kept close_all do_close has_room ready on_live on_name shuts_read shuts_write run after
model = tt

-- ── the form of a line ──

-- all that a call answers; the table after it is seen by the calls that follow
pub record Seen : Type 0 where
  pub no : ℕ
  pub value : ℕ
  pub wakes : List ℕ
  pub releases : List ℕ
  pub bytes : List ℕ
  pub items : List ℕ
  pub flags : ℕ

abbrev pub seen : Outcome → Seen
seen o = record { no = o.no; value = o.value; wakes = o.wakes; releases = o.releases; bytes = o.bytes; items = o.items; flags = o.flags }

-- a fresh table of so many slots, the calls made before, the call, and what it shows
pub record Line : Type 0 where
  pub slots : ℕ
  pub before : List Call
  pub call : Call
  pub shows : Seen

abbrev pub answered : Line → Seen
answered l = seen (run (after (fresh l.slots 8) l.before) l.call)

abbrev pub Right : Line → Type 0
Right l = answered l ≡ l.shows

-- all lines at once, by computation
all_right : (ls : List Line) → map answered ls ≡ map (λ l. l.shows) ls → All Right ls
all_right [] e = tt
all_right (l ∷ ls) e = (cc, all_right ls cc)

abbrev pub line : ℕ → List Call → Call → Seen → Line
line n before call shows = record { slots = n; before = before; call = call; shows = shows }

-- "A refusal returns its number, both counts 0, and no lent byte differs."
abbrev pub refused : ℕ → Seen
refused n = record { no = n; value = 0; wakes = []; releases = []; bytes = []; items = []; flags = 0 }

-- accepted: its value, its wakes and its releases
abbrev pub accepted : ℕ → List ℕ → List ℕ → Seen
accepted v w r = record { no = 0; value = v; wakes = w; releases = r; bytes = []; items = []; flags = 0 }

-- bytes and items come: wakes, releases, bytes, items, flags
abbrev pub gives : ℕ → List ℕ → List ℕ → List ℕ → List ℕ → ℕ → Seen
gives v w r b i f = record { no = 0; value = v; wakes = w; releases = r; bytes = b; items = i; flags = f }

-- ── the sockets of the lines ──

-- the handles of slots 0 to 4 at generation 1: "generation x 65,536 + slot"
abbrev pub h0 : ℕ
h0 = 0x1_0000

abbrev pub h1 : ℕ
h1 = 0x1_0001

abbrev pub h2 : ℕ
h2 = 0x1_0002

abbrev pub h3 : ℕ
h3 = 0x1_0003

abbrev pub h4 : ℕ
h4 = 0x1_0004

abbrev pub socket : Call
socket = Call.Socket (pos 1) (pos 1) (pos 0)

-- the name "/"
abbrev pub root : List ℕ
root = 47 ∷ []

-- h0 listens at "/" with this backlog
abbrev pub listener : ℕ → List Call
listener backlog = socket ∷ Call.Bind h0 root ∷ Call.Listen h0 backlog ∷ []

-- and the client h1 is connected to the server h2, which accept has returned
abbrev pub pair : List Call
pair = listener 4 ++ socket ∷ Call.Connect h1 root ∷ Call.Accept h0 ∷ []

-- k bytes, k items
abbrev pub some_bytes : ℕ → List ℕ
some_bytes k = replicate k 1

abbrev pub some_items : ℕ → List ℕ
some_items k = replicate k 7

-- the client has written k bytes
abbrev pub queued_bytes : ℕ → List Call
queued_bytes k = pair ++ Call.Write h1 (some_bytes k) ∷ []

-- "ab" with item 5, "cd" with 6
abbrev pub groups : List Call
groups = pair ++ Call.Sendmsg h1 (97 ∷ 98 ∷ []) (5 ∷ []) ∷ Call.Sendmsg h1 (99 ∷ 100 ∷ []) (6 ∷ []) ∷ []

-- ── document 01's lines ──

abbrev pub lines : List Line
lines =
    -- "8 queued, write of nothing: 8"
    line 4 (queued_bytes 8) (Call.Write h1 []) (refused 8)
    -- "7 queued, write 3: 1 byte"
    ∷ line 4 (queued_bytes 7) (Call.Write h1 (some_bytes 3)) (accepted 1 (h2 ∷ []) [])
    -- "5 queued, no bytes, one item: 2"
    ∷ line 4 (queued_bytes 5) (Call.Sendmsg h1 [] (9 ∷ [])) (refused 2)
    -- "250 items queued, 1 byte with 6 more passes, with 7: 11"
    ∷ line 4 (pair ++ Call.Sendmsg h1 (some_bytes 1) (some_items 250) ∷ []) (Call.Sendmsg h1 (some_bytes 1) (some_items 6)) (accepted 1 (h2 ∷ []) [])
    ∷ line 4 (pair ++ Call.Sendmsg h1 (some_bytes 1) (some_items 250) ∷ []) (Call.Sendmsg h1 (some_bytes 1) (some_items 7)) (refused 11)
    -- "backlog 0: 8"
    ∷ line 4 (listener 0 ++ socket ∷ []) (Call.Connect h1 root) (refused 8)
    -- "recvmsg, empty buffer, unbound: 2"
    ∷ line 4 (socket ∷ []) (Call.Recvmsg h0 0 4) (refused 2)
    -- ""ab" with item 5, "cd" with 6: recvmsg of 10 gives "ab", 5, then "cd", 6"
    ∷ line 4 groups (Call.Recvmsg h2 10 4) (gives 2 (h1 ∷ []) [] (97 ∷ 98 ∷ []) (5 ∷ []) 0)
    ∷ line 4 (groups ++ Call.Recvmsg h2 10 4 ∷ []) (Call.Recvmsg h2 10 4) (gives 2 (h1 ∷ []) [] (99 ∷ 100 ∷ []) (6 ∷ []) 0)
    -- "read of 1 first gives "a", releases 5; recvmsg of 10 then gives "b" and no item"
    ∷ line 4 groups (Call.Read h2 1) (gives 1 (h1 ∷ []) (5 ∷ []) (97 ∷ []) [] 0)
    ∷ line 4 (groups ++ Call.Read h2 1 ∷ []) (Call.Recvmsg h2 10 4) (gives 1 (h1 ∷ []) [] (98 ∷ []) [] 0)
    -- "read of 0 moves 0, releases 5, wakes the peer"
    ∷ line 4 groups (Call.Read h2 0) (gives 0 (h1 ∷ []) (5 ∷ []) [] [] 0)
    ∷ []

pub the_lines : All Right lines
unfolding model
the_lines = all_right lines refl

-- ── more lines ──

-- the clients h2 and h1 have connected, in this order: their servers h3 and h4 are pending, and hold items
abbrev pub pending : List Call
pending =
    listener 4 ++ socket ∷ socket ∷ Call.Connect h2 root ∷ Call.Connect h1 root
    ∷ Call.Sendmsg h2 (some_bytes 1) (41 ∷ []) ∷ Call.Sendmsg h1 (some_bytes 1) (42 ∷ 43 ∷ []) ∷ Call.Sendmsg h1 (some_bytes 1) (44 ∷ []) ∷ []

abbrev pub more : List Line
more =
    -- socket: the lowest free slot; 12, 14, 15 and 16, in this order
    line 1 [] socket (accepted h0 [] [])
    ∷ line 4 (socket ∷ socket ∷ socket ∷ Call.Close h1 ∷ Call.Close h0 ∷ []) socket (accepted 0x2_0000 [] [])
    ∷ line 1 (socket ∷ []) (Call.Socket (pos 2) (pos 2) (pos 1)) (refused 12)
    ∷ line 1 (socket ∷ []) (Call.Socket (pos 1) (pos 65537) (pos 1)) (refused 14)
    ∷ line 1 (socket ∷ []) (Call.Socket (pos 1) (pos 1) (negsuc 0)) (refused 15)
    ∷ line 1 (socket ∷ []) socket (refused 16)
    -- a slot used again: its handle comes back with generation 2, and the handle of generation 1 is stale
    ∷ line 1 (socket ∷ Call.Close h0 ∷ []) socket (accepted 0x2_0000 [] [])
    ∷ line 1 (socket ∷ Call.Close h0 ∷ socket ∷ []) (Call.Readiness h0) (refused 1)
    ∷ line 1 (socket ∷ Call.Close h0 ∷ socket ∷ []) (Call.Readiness 0x2_0000) (accepted 0 [] [])
    -- a handle is compared whole: handle + 2^48 is 1
    ∷ line 1 (socket ∷ []) (Call.Readiness 0x1_0000_0001_0000) (refused 1)
    -- a pending server's handle is refused until accept has returned it
    ∷ line 5 pending (Call.Readiness h3) (refused 1)
    ∷ line 5 (pending ++ Call.Accept h0 ∷ []) (Call.Readiness h3) (accepted 3 [] [])
    -- bind: a name; a second one, also its own, 2; a name that is held 3; an empty name 2; 255 bytes pass and 256 do not
    ∷ line 2 (socket ∷ []) (Call.Bind h0 root) (accepted 0 [] [])
    ∷ line 2 (socket ∷ Call.Bind h0 root ∷ []) (Call.Bind h0 root) (refused 2)
    ∷ line 2 (socket ∷ Call.Bind h0 root ∷ []) (Call.Bind h0 (48 ∷ [])) (refused 2)
    ∷ line 2 (socket ∷ Call.Bind h0 root ∷ socket ∷ []) (Call.Bind h1 root) (refused 3)
    ∷ line 2 (socket ∷ []) (Call.Bind h0 []) (refused 2)
    ∷ line 2 (socket ∷ []) (Call.Bind h0 (some_bytes 255)) (accepted 0 [] [])
    ∷ line 2 (socket ∷ []) (Call.Bind h0 (some_bytes 256)) (refused 17)
    -- a name is free again when its socket has closed, which wakes the registry
    ∷ line 2 (socket ∷ Call.Bind h0 root ∷ []) (Call.Close h0) (accepted 0 (0 ∷ []) [])
    ∷ line 2 (socket ∷ Call.Bind h0 root ∷ socket ∷ Call.Close h0 ∷ []) (Call.Bind h1 root) (accepted 0 [] [])
    -- listen: unbound 4, connected 2; again with the same or a smaller backlog no wake, with a larger one the registry
    ∷ line 2 (socket ∷ []) (Call.Listen h0 1) (refused 4)
    ∷ line 4 pair (Call.Listen h1 1) (refused 2)
    ∷ line 2 (socket ∷ Call.Bind h0 root ∷ []) (Call.Listen h0 4) (accepted 0 [] [])
    ∷ line 2 (listener 4) (Call.Listen h0 4) (accepted 0 [] [])
    ∷ line 2 (listener 4) (Call.Listen h0 3) (accepted 0 [] [])
    ∷ line 2 (listener 4) (Call.Listen h0 5) (accepted 0 (0 ∷ []) [])
    -- accept: not listening 2, nothing pending 8; the oldest server, and a registry wake, also where the client has closed
    ∷ line 2 (socket ∷ Call.Bind h0 root ∷ []) (Call.Accept h0) (refused 2)
    ∷ line 2 (listener 4) (Call.Accept h0) (refused 8)
    ∷ line 5 pending (Call.Accept h0) (accepted h3 (0 ∷ []) [])
    ∷ line 5 (pending ++ Call.Close h2 ∷ []) (Call.Accept h0) (accepted h3 (0 ∷ []) [])
    ∷ line 5 (pending ++ Call.Accept h0 ∷ []) (Call.Accept h0) (accepted h4 (0 ∷ []) [])
    ∷ line 5 (pending ++ Call.Accept h0 ∷ Call.Accept h0 ∷ []) (Call.Accept h0) (refused 8)
    -- connect: the listener, then the caller
    ∷ line 4 (listener 1 ++ socket ∷ []) (Call.Connect h1 root) (accepted 0 (h0 ∷ h1 ∷ []) [])
    -- connected 5; listening 6, also to its own name; bound 2; no socket of that name 7; one that is only bound 7
    ∷ line 4 pair (Call.Connect h1 root) (refused 5)
    ∷ line 4 (listener 1) (Call.Connect h0 root) (refused 6)
    ∷ line 4 (listener 1 ++ socket ∷ Call.Bind h1 (48 ∷ []) ∷ []) (Call.Connect h1 root) (refused 2)
    ∷ line 4 (socket ∷ []) (Call.Connect h0 root) (refused 7)
    ∷ line 4 (socket ∷ Call.Bind h0 root ∷ socket ∷ []) (Call.Connect h1 root) (refused 7)
    -- 17 before 5: a connected socket given a name of 256 bytes
    ∷ line 4 pair (Call.Connect h1 (some_bytes 256)) (refused 17)
    -- a backlog of 1 takes one and no more
    ∷ line 5 (listener 1 ++ socket ∷ Call.Connect h1 root ∷ socket ∷ []) (Call.Connect h3 root) (refused 8)
    -- 8 before 16: the backlog is full, and there is no slot
    ∷ line 2 (listener 0 ++ socket ∷ []) (Call.Connect h1 root) (refused 8)
    ∷ line 2 (listener 1 ++ socket ∷ []) (Call.Connect h1 root) (refused 16)
    -- read and recvmsg: not connected 9; an empty buffer 2 for recvmsg, before the state, and no refusal for read
    ∷ line 4 (socket ∷ []) (Call.Read h0 10) (refused 9)
    ∷ line 4 pair (Call.Recvmsg h2 0 4) (refused 2)
    -- read of 0 bytes: on an empty inbox 8, on one with bytes 0 and a wake
    ∷ line 4 pair (Call.Read h2 0) (refused 8)
    ∷ line 4 pair (Call.Read h2 10) (refused 8)
    ∷ line 4 (queued_bytes 2) (Call.Read h2 0) (accepted 0 (h1 ∷ []) [])
    -- a read does not cross into the next group, and a longer one than is queued gives what is there
    ∷ line 4 groups (Call.Read h2 10) (gives 2 (h1 ∷ []) (5 ∷ []) (97 ∷ 98 ∷ []) [] 0)
    ∷ line 4 (groups ++ Call.Read h2 10 ∷ []) (Call.Read h2 10) (gives 2 (h1 ∷ []) (6 ∷ []) (99 ∷ 100 ∷ []) [] 0)
    ∷ line 4 (queued_bytes 2 ++ Call.Sendmsg h1 (99 ∷ 100 ∷ []) (6 ∷ []) ∷ []) (Call.Recvmsg h2 10 4) (gives 2 (h1 ∷ []) [] (1 ∷ 1 ∷ []) [] 0)
    -- end of stream: the peer has sent and closed, and its bytes are still read; then 0 bytes, and no wake
    ∷ line 4 (groups ++ Call.Close h1 ∷ []) (Call.Recvmsg h2 10 4) (gives 2 [] [] (97 ∷ 98 ∷ []) (5 ∷ []) 0)
    ∷ line 4 (groups ++ Call.Close h1 ∷ Call.Read h2 10 ∷ Call.Read h2 10 ∷ []) (Call.Read h2 10) (accepted 0 [] [])
    ∷ line 4 (groups ++ Call.Close h1 ∷ Call.Read h2 10 ∷ Call.Read h2 10 ∷ []) (Call.Recvmsg h2 10 4) (accepted 0 [] [])
    -- the peer has shut its writing: the bytes are still read, with a wake; then 0 bytes, and no wake
    ∷ line 4 (queued_bytes 2 ++ Call.Shutdown h1 (pos 1) ∷ []) (Call.Read h2 10) (gives 2 (h1 ∷ []) [] (1 ∷ 1 ∷ []) [] 0)
    ∷ line 4 (queued_bytes 2 ++ Call.Shutdown h1 (pos 1) ∷ Call.Read h2 10 ∷ []) (Call.Read h2 10) (accepted 0 [] [])
    -- recvmsg with a list shorter than the group: the first items, the rest released, flag 8; with a list of the group's length no flag
    ∷ line 4 (pair ++ Call.Sendmsg h1 (97 ∷ []) (5 ∷ 6 ∷ 7 ∷ []) ∷ []) (Call.Recvmsg h2 10 2) (gives 1 (h1 ∷ []) (7 ∷ []) (97 ∷ []) (5 ∷ 6 ∷ []) 8)
    ∷ line 4 (pair ++ Call.Sendmsg h1 (97 ∷ []) (5 ∷ 6 ∷ 7 ∷ []) ∷ []) (Call.Recvmsg h2 10 3) (gives 1 (h1 ∷ []) [] (97 ∷ []) (5 ∷ 6 ∷ 7 ∷ []) 0)
    ∷ line 4 (pair ++ Call.Sendmsg h1 (97 ∷ []) (5 ∷ 6 ∷ 7 ∷ []) ∷ []) (Call.Recvmsg h2 10 0) (gives 1 (h1 ∷ []) (5 ∷ 6 ∷ 7 ∷ []) (97 ∷ []) [] 8)
    -- write and sendmsg: not connected 9; the peer gone 10; nothing into room 0, and a wake, also of a pending server
    ∷ line 4 (socket ∷ []) (Call.Write h0 []) (refused 9)
    ∷ line 4 (pair ++ Call.Close h2 ∷ []) (Call.Write h1 (some_bytes 1)) (refused 10)
    ∷ line 4 pair (Call.Write h1 []) (accepted 0 (h2 ∷ []) [])
    ∷ line 5 pending (Call.Write h2 (some_bytes 3)) (accepted 3 (h3 ∷ []) [])
    -- a closed outbox answers 10 before 8
    ∷ line 4 (queued_bytes 8 ++ Call.Shutdown h1 (pos 1) ∷ []) (Call.Write h1 (some_bytes 1)) (refused 10)
    ∷ line 4 (queued_bytes 8 ++ Call.Shutdown h2 (pos 0) ∷ []) (Call.Write h1 (some_bytes 1)) (refused 10)
    -- a full inbox answers 8 before 2 and 11
    ∷ line 4 (queued_bytes 8) (Call.Sendmsg h1 [] (9 ∷ [])) (refused 8)
    ∷ line 4 (queued_bytes 8) (Call.Sendmsg h1 (some_bytes 1) (some_items 257)) (refused 8)
    -- 257 items: with no bytes 2, not 11
    ∷ line 4 pair (Call.Sendmsg h1 [] (some_items 257)) (refused 2)
    ∷ line 4 pair (Call.Sendmsg h1 (some_bytes 1) (some_items 257)) (refused 11)
    -- 256 queued items, and a send without items: accepted
    ∷ line 4 (pair ++ Call.Sendmsg h1 (some_bytes 1) (some_items 256) ∷ []) (Call.Sendmsg h1 (some_bytes 1) []) (accepted 1 (h2 ∷ []) [])
    ∷ line 4 (pair ++ Call.Sendmsg h1 (some_bytes 1) (some_items 256) ∷ []) (Call.Sendmsg h1 (some_bytes 1) (9 ∷ [])) (refused 11)
    -- a short send takes all its items: they lie at its first byte
    ∷ line 4 (queued_bytes 7) (Call.Sendmsg h1 (97 ∷ 98 ∷ []) (5 ∷ 6 ∷ [])) (accepted 1 (h2 ∷ []) [])
    ∷ line 4 (queued_bytes 7 ++ Call.Sendmsg h1 (97 ∷ 98 ∷ []) (5 ∷ 6 ∷ []) ∷ Call.Read h2 10 ∷ []) (Call.Recvmsg h2 10 4) (gives 1 (h1 ∷ []) [] (97 ∷ []) (5 ∷ 6 ∷ []) 0)
    -- shutdown: a number that is none of 0, 1, 2 is 2, after the handle and before the state
    ∷ line 4 (socket ∷ []) (Call.Shutdown h0 (pos 3)) (refused 2)
    ∷ line 4 (socket ∷ []) (Call.Shutdown h0 (negsuc 0)) (refused 2)
    ∷ line 4 (socket ∷ []) (Call.Shutdown h1 (pos 3)) (refused 1)
    ∷ line 4 (socket ∷ []) (Call.Shutdown h1 (negsuc 0)) (refused 1)
    ∷ line 4 (socket ∷ []) (Call.Shutdown h0 (pos 2)) (refused 9)
    -- itself, then the open peer; again the same; with the peer gone itself only
    ∷ line 4 pair (Call.Shutdown h1 (pos 1)) (accepted 0 (h1 ∷ h2 ∷ []) [])
    ∷ line 4 (pair ++ Call.Shutdown h1 (pos 1) ∷ []) (Call.Shutdown h1 (pos 1)) (accepted 0 (h1 ∷ h2 ∷ []) [])
    ∷ line 4 (pair ++ Call.Close h2 ∷ []) (Call.Shutdown h1 (pos 2)) (accepted 0 (h1 ∷ []) [])
    -- of reading: its bytes are gone, its items released; of writing: its inbox stays
    ∷ line 4 groups (Call.Shutdown h2 (pos 0)) (accepted 0 (h2 ∷ h1 ∷ []) (5 ∷ 6 ∷ []))
    ∷ line 4 (groups ++ Call.Shutdown h2 (pos 0) ∷ []) (Call.Read h2 10) (accepted 0 [] [])
    ∷ line 4 groups (Call.Shutdown h2 (pos 1)) (accepted 0 (h2 ∷ h1 ∷ []) [])
    -- close: unbound nobody; a connected one its open peer, and its own items are released; the other end's inbox stays
    ∷ line 4 (socket ∷ []) (Call.Close h0) (accepted 0 [] [])
    ∷ line 4 groups (Call.Close h2) (accepted 0 (h1 ∷ []) (5 ∷ 6 ∷ []))
    ∷ line 4 groups (Call.Close h1) (accepted 0 (h2 ∷ []) [])
    ∷ line 4 (groups ++ Call.Close h1 ∷ []) (Call.Close h2) (accepted 0 [] (5 ∷ 6 ∷ []))
    ∷ line 4 (groups ++ Call.Close h1 ∷ []) (Call.Close h1) (refused 1)
    -- a slot used again is another socket: the peer is gone, although its slot is occupied
    ∷ line 4 (pair ++ Call.Close h2 ∷ socket ∷ []) (Call.Readiness h1) (accepted 5 [] [])
    ∷ line 4 (pair ++ Call.Close h2 ∷ socket ∷ []) (Call.Close h1) (accepted 0 [] [])
    -- a pending server is woken by its client's close
    ∷ line 5 pending (Call.Close h2) (accepted 0 (h3 ∷ []) [])
    -- a listener with two pending servers that hold items: the registry, then the clients that are open, the oldest server's first; all items, in order
    ∷ line 5 pending (Call.Close h0) (accepted 0 (0 ∷ h2 ∷ h1 ∷ []) (41 ∷ 42 ∷ 43 ∷ 44 ∷ []))
    ∷ line 5 (pending ++ Call.Close h2 ∷ []) (Call.Close h0) (accepted 0 (0 ∷ h1 ∷ []) (41 ∷ 42 ∷ 43 ∷ 44 ∷ []))
    ∷ line 5 (pending ++ Call.Close h0 ∷ []) (Call.Readiness h1) (accepted 5 [] [])
    -- readiness: unbound and bound 0; listening 0 and, with a server pending, 1
    ∷ line 4 (socket ∷ []) (Call.Readiness h0) (accepted 0 [] [])
    ∷ line 4 (socket ∷ Call.Bind h0 root ∷ []) (Call.Readiness h0) (accepted 0 [] [])
    ∷ line 4 (listener 4) (Call.Readiness h0) (accepted 0 [] [])
    ∷ line 5 pending (Call.Readiness h0) (accepted 1 [] [])
    -- connected: writable 2; with bytes queued 3; with bytes queued and the outbox closed 1; with the peer's inbox full 0
    ∷ line 4 pair (Call.Readiness h2) (accepted 2 [] [])
    ∷ line 4 (queued_bytes 7) (Call.Readiness h1) (accepted 2 [] [])
    ∷ line 4 (queued_bytes 7) (Call.Readiness h2) (accepted 3 [] [])
    ∷ line 4 (queued_bytes 7 ++ Call.Shutdown h2 (pos 1) ∷ []) (Call.Readiness h2) (accepted 1 [] [])
    ∷ line 4 (queued_bytes 8) (Call.Readiness h1) (accepted 0 [] [])
    -- an inbox that is closed is readable; the peer gone 5, with bytes queued or not
    ∷ line 4 (pair ++ Call.Shutdown h1 (pos 1) ∷ []) (Call.Readiness h2) (accepted 3 [] [])
    ∷ line 4 (pair ++ Call.Shutdown h1 (pos 2) ∷ []) (Call.Readiness h2) (accepted 1 [] [])
    ∷ line 4 (pair ++ Call.Close h1 ∷ []) (Call.Readiness h2) (accepted 5 [] [])
    ∷ line 4 (queued_bytes 2 ++ Call.Close h1 ∷ []) (Call.Readiness h2) (accepted 5 [] [])
    ∷ []

pub more_lines : All Right more
unfolding model
more_lines = all_right more refl

-- ── slots retire ──

-- a table of one slot, with an unbound socket of this generation: the last ones are not reached by calls in practice
abbrev pub old : ℕ → Table
old gen = record { capacity = 8; slots = record { gen = gen; in_use = true; given = true; state = State.Unbound } ∷ [] }

-- "A slot closed at generation 4,294,967,295 is never used again; any other closed slot is."
pub retired : (seen (run (after (old 4294967295) (Call.Close 0xFFFF_FFFF_0000 ∷ [])) socket) ≡ refused 16)
    × (seen (run (after (old 4294967294) (Call.Close 0xFFFF_FFFE_0000 ∷ [])) socket) ≡ accepted 0xFFFF_FFFF_0000 [] [])
unfolding model
retired = (refl, refl)
