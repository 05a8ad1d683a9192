-- `run t c` is what the table t answers to the call c, and `entry` is the complete answer, with what is asked of N, C and the lent storage first.
use Rattle.std.specs.Prelude.{ℕ, Bool, cond, not, ◌&&◌, ◌||◌, List, [], ◌∷◌, ℤ, length, leb, ltb, eqb}
use Rattle.words.specs.Integers.{equals}
use Rattle.rules.specs.Table.{Table, is_live, state_of}
use Rattle.rules.specs.Inbox.{is_nil}
use Rattle.rules.specs.Outcome.{Call, Outcome, answer, refuse_if}
use Rattle.rules.specs.Connecting.{do_socket, do_bind, do_listen, do_accept, do_connect}
use Rattle.rules.specs.Moving.{Policy, drain, do_send}
use Rattle.rules.specs.Ending.{do_shutdown, do_close, ready}

-- "Order on table calls: N or C out of range 2; 18; 19; 1; name empty 2; name above 255 bytes 17; then the rule below, left to right."

-- from the handle on
unfoldable pub on_live : Table → ℕ → Outcome → Outcome
on_live t h o = refuse_if (not (is_live t h)) 1 t o

unfoldable pub on_name : Table → ℕ → List ℕ → Outcome → Outcome
on_name t h n o = on_live t h (refuse_if (is_nil n) 2 t (refuse_if (ltb 255 (length n)) 17 t o))

-- "shutdown 0 read, 1 write, 2 both, other 2 (before the state)"
unfoldable pub shuts_read : ℤ → Bool
shuts_read how = equals how 0 || equals how 2

unfoldable pub shuts_write : ℤ → Bool
shuts_write how = equals how 1 || equals how 2

unfoldable pub run : Table → Call → Outcome
run t (Call.Socket domain type protocol) = do_socket t domain type protocol
run t (Call.Bind h n) = on_name t h n (do_bind t h n (state_of t h))
run t (Call.Listen h k) = on_live t h (do_listen t h k (state_of t h))
run t (Call.Accept h) = on_live t h (do_accept t h (state_of t h))
run t (Call.Connect h n) = on_name t h n (do_connect t h n (state_of t h))
run t (Call.Read h size) = on_live t h (drain t h size Policy.Drop (state_of t h))
run t (Call.Recvmsg h size most) = on_live t h (refuse_if (eqb size 0) 2 t (drain t h size (Policy.Take most) (state_of t h)))
run t (Call.Write h new) = on_live t h (do_send t new [] (state_of t h))
run t (Call.Sendmsg h new its) = on_live t h (do_send t new its (state_of t h))
run t (Call.Shutdown h how) = on_live t h (refuse_if (not (shuts_read how || shuts_write how)) 2 t (do_shutdown t h (shuts_read how) (shuts_write how) (state_of t h)))
run t (Call.Close h) = on_live t h (do_close t h)
run t (Call.Readiness h) = on_live t h (answer t (ready t (state_of t h)) [] [])

-- the table after a sequence of calls
unfoldable pub after : Table → List Call → Table
after t [] = t
after t (c ∷ cs) = after (run t c).next cs

-- ── What is asked first ──

-- "Slots N: 1 to 1,024. Inbox capacity C: 1 to 65,536"
unfoldable pub in_range : ℕ → ℕ → Bool
in_range n c = leb 1 n && leb n 1024 && leb 1 c && leb c 65536

-- the storage says whether the lent storage and lists are large enough, and whether the table in it is well-formed
unfoldable pub admission : ℕ → ℕ → Bool → Bool → ℕ
admission n c large formed = cond (in_range n c) (cond large (cond formed 0 19) 18) 2

-- the complete answer to a call with the arguments N and C, on lent storage that shows the table t
unfoldable pub entry : ℕ → ℕ → Bool → Bool → Table → Call → Outcome
entry n c large formed t call = let a = admission n c large formed in refuse_if (not (eqb a 0)) a t (run t call)
