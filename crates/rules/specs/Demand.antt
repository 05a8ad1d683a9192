-- Demand 3, "no lost wake-up", as a statement over `run`.
use Rattle.std.specs.Prelude.{◌≡◌, ◌≢◌, ℕ, true}
use mathlib.Core.List.{List, [], ◌∷◌, Memᴰ}
use Rattle.rules.specs.Table.{Table, State, fresh, is_live, state_of}
use Rattle.rules.specs.Outcome.{Call, registry}
use Rattle.rules.specs.Run.{run, after, in_range}

-- "suppose a connect, accept, read, recvmsg, write or sendmsg answered EAGAIN": no other call answers it (`only_six`)
abbrev pub Blocks : Table → Call → Type 0
Blocks t x = (run t x).no ≡ 8

-- whose call it is
abbrev pub caller : Call → ℕ
caller (Call.Socket d y p) = 0
caller (Call.Bind h n) = h
caller (Call.Listen h k) = h
caller (Call.Accept h) = h
caller (Call.Connect h n) = h
caller (Call.Read h k) = h
caller (Call.Recvmsg h k m) = h
caller (Call.Write h b) = h
caller (Call.Sendmsg h b i) = h
caller (Call.Shutdown h w) = h
caller (Call.Close h) = h
caller (Call.Readiness h) = h

-- a for a connect, b for any other call
abbrev pub if_connect : {A : Type 0} → Call → A → A → A
if_connect (Call.Socket d y p) a b = b
if_connect (Call.Bind h n) a b = b
if_connect (Call.Listen h k) a b = b
if_connect (Call.Accept h) a b = b
if_connect (Call.Connect h n) a b = a
if_connect (Call.Read h k) a b = b
if_connect (Call.Recvmsg h k m) a b = b
if_connect (Call.Write h f) a b = b
if_connect (Call.Sendmsg h f i) a b = b
if_connect (Call.Shutdown h w) a b = b
if_connect (Call.Close h) a b = b
if_connect (Call.Readiness h) a b = b

-- "what the caller sleeps on: the registry for connect, the socket for the rest"
abbrev pub sleeps_on : Call → ℕ
sleeps_on x = if_connect x registry (caller x)

-- "The sleeper's socket must still be open and, for connect, not itself bound or connected meanwhile."
pub record Still (t : Table) (x : Call) : Type 0 where
  pub live : is_live t (caller x) ≡ true
  pub unbound : if_connect x (state_of t (caller x)) State.Unbound ≡ State.Unbound

-- one step, at a table t: the call y after which x would answer otherwise notifies what x's caller sleeps on
abbrev pub NoLostWake : Table → Type 0
NoLostWake t = (x y : Call) → Blocks t x → Still (run t y).next x → (run (run t y).next x).no ≢ 8 → Memᴰ (sleeps_on x) (run t y).wakes

-- x answers EAGAIN at t, and still would after each of the calls
abbrev pub Asleep : Table → Call → List Call → Type 0
Asleep t x [] = Blocks t x
Asleep t x (c ∷ cs) = Blocks t x × Asleep (run t c).next x cs

-- "From a fresh table, over any sequence of calls": x answered EAGAIN after `before`, still would after each call of `between`, and after the next call y would
-- not
abbrev pub Demand3 : Type 0
Demand3 =
    (n c : ℕ) → in_range n c ≡ true → (before between : List Call) (x y : Call)
    → Asleep (after (fresh n c) before) x between
    → Still (run (after (after (fresh n c) before) between) y).next x
    → (run (run (after (after (fresh n c) before) between) y).next x).no ≢ 8
    → Memᴰ (sleeps_on x) (run (after (after (fresh n c) before) between) y).wakes
