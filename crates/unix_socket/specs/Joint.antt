-- sendmsg and recvmsg as a kernel answers them: "Non-zero flags of sendmsg and recvmsg: 6, asked before control bytes are looked at and before the table
-- call." Each is one outcome, put together from what `syscall` asks and the table call.
use Rattle.words.specs.declared.Errno.{Errno}
use Rattle.std.specs.Prelude.{ℕ, cond, List, ℤ, take, Result, Ok, Err}
use Rattle.words.specs.Integers.{equals}
use Rattle.words.specs.Numbers.{number_of}
use Rattle.words.specs.declared.Errno.TheVariants.{EOPNOTSUPP}
use Rattle.syscall.specs.Control.{meaning}
use Rattle.syscall.specs.Promise.{parse_of, list_after, recv_capacity_of}
use Rattle.rules.specs.Table.{Table}
use Rattle.rules.specs.Outcome.{Call, Outcome, refuse}
use Rattle.storage.specs.Rows.{Store}
use Rattle.storage.specs.View.{view}
use Rattle.promise.specs.Promise.{Lists, outcome}

-- what was asked before the table call, and then the call, at the number that was answered
unfoldable pub then_call : Result ℕ Errno → Table → (ℕ → Outcome) → Outcome
then_call (Ok k) t call = call k
then_call (Err e) t call = refuse t (number_of e)

-- ── sendmsg: flags, control bytes b, a lent list of descriptors f ──

-- `SendParsed` of syscall: its answer and the list after it
unfoldable pub send_asks : ℤ → List ℕ → List ℤ → Result ℕ Errno
send_asks flags b f = cond (equals flags 0) (parse_of (meaning b) f) (Err EOPNOTSUPP)

unfoldable pub send_lists : ℤ → List ℕ → List ℤ → List ℤ
send_lists flags b f = cond (equals flags 0) (list_after (meaning b) f) f

-- the host turns the descriptors into items
unfoldable pub sendmsg_of : (items : List ℤ → List ℕ) (flags : ℤ) (b : List ℕ) (f : List ℤ) (n c : ℕ) (s : Store) (l : Lists) (h : ℕ) (from : List ℕ) → Outcome
sendmsg_of items flags b f n c s l h from =
    then_call (send_asks flags b f) (view n c s) (λ k. outcome n c s l (Call.Sendmsg h from (items (take k (send_lists flags b f)))))

-- ── recvmsg: flags, and control bytes of a length m; the item list has room for as many as fit there ──

unfoldable pub recvmsg_of : (flags : ℤ) (m n c : ℕ) (s : Store) (l : Lists) (h size : ℕ) → Outcome
recvmsg_of flags m n c s l h size = then_call (recv_capacity_of flags m) (view n c s) (λ k. outcome n c s l (Call.Recvmsg h size k))
