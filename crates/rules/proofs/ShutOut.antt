-- Document 01, "How firmly each call is held": the tables that demand 2 shuts out. Each fault is a statement about an implementation, and every implementation
-- that has it is shown to answer some call otherwise than `run`, whatever else it does.
use mathlib.Core.Path.{◌≡◌, refl, sym, ap, ◌∙◌}
use mathlib.Core.Logic.{◌≢◌}
use mathlib.Core.Option.{some}
use Prim.Native.Nat.{ℕ}
use native.Mathlib.Omega.{arith}
use native.Mathlib.Decide.{ℕ_discrete}
use mathlib.Core.Bool.{true}
use mathlib.Core.List.{List, [], ◌∷◌, ◌++◌, Memᴰ}
use lib.ListN.{length}
use Rattle.rules.proofs.Model.{Table, State, Call, Outcome, fresh, after, run, is_open, is_live, state_of, in_range}
use Rattle.rules.proofs.Frame.{cons-nil}
use Rattle.rules.proofs.Wf.{peer_of}
use Rattle.rules.proofs.Lines.{model, h1, h2, socket, root, listener, pair, some_bytes, queued_bytes}
use Rattle.rules.specs.Demand.{sleeps_on, Still, NoLostWake}

-- what a table might answer to a call, and what it might become
abbrev pub Implementation : Type 0
Implementation = Table → Call → Outcome

-- it answers some call otherwise than `run`, at a table that calls lead to from a fresh one. (Up to the first call that an implementation answers otherwise,
-- the tables that it leads to are those of `run`.)
pub record Differs (f : Implementation) : Type 0 where
  pub slots : ℕ
  pub capacity : ℕ
  pub range : in_range slots capacity ≡ true
  pub before : List Call
  pub call : Call
  pub differs : f (after (fresh slots capacity) before) call ≢ run (after (fresh slots capacity) before) call

-- ── the faults ──

-- "a table that refuses all calls"
abbrev pub RefusesAll : Implementation → Type 0
RefusesAll f = (t : Table) (x : Call) → (f t x).no ≢ 0

-- "one answering EAGAIN to everything"
abbrev pub AlwaysAgain : Implementation → Type 0
AlwaysAgain f = (t : Table) (x : Call) → (f t x).no ≡ 8

-- "one that moves nothing": no call hands over a byte
abbrev pub MovesNothing : Implementation → Type 0
MovesNothing f = (t : Table) (x : Call) → (f t x).bytes ≡ []

-- the bytes that a socket has not read
abbrev pub unread : State → List ℕ
unread State.Unbound = []
unread (State.Bound m) = []
unread (State.Listening m b q) = []
unread (State.Connected p i x y) = i.bytes

-- the entries take h, it is connected to p, and p is open and has bytes to read
pub record PeerUnread (t : Table) (h p : ℕ) : Type 0 where
  pub live : is_live t h ≡ true
  pub mine : peer_of (state_of t h) ≡ some p
  pub there : is_open t p ≡ true
  pub holds : unread (state_of t p) ≢ []

-- "one that serves the first send and then only claims bytes": where the peer has bytes to read, a write or a sendmsg leaves the table as it is
pub record OnlyClaims (f : Implementation) : Type 0 where
  pub write : (t : Table) (h p : ℕ) (new : List ℕ) → PeerUnread t h p → (f t (Call.Write h new)).next ≡ t
  pub sendmsg : (t : Table) (h p : ℕ) (new items : List ℕ) → PeerUnread t h p → (f t (Call.Sendmsg h new items)).next ≡ t

-- "one whose byte .. counts are invented": every read and write that it accepts has the same value
pub record InventsBytes (f : Implementation) : Type 0 where
  pub count : ℕ
  pub read : (t : Table) (h size : ℕ) → (f t (Call.Read h size)).no ≡ 0 → (f t (Call.Read h size)).value ≡ count
  pub write : (t : Table) (h : ℕ) (new : List ℕ) → (f t (Call.Write h new)).no ≡ 0 → (f t (Call.Write h new)).value ≡ count

-- "or wake counts": every call that it accepts has the same number of wakes
pub record InventsWakes (f : Implementation) : Type 0 where
  pub count : ℕ
  pub wakes : (t : Table) (x : Call) → (f t x).no ≡ 0 → length (f t x).wakes ≡ count

-- ── each is shut out ──

-- after these calls on 4 slots and a capacity of 8, the call is answered otherwise
at_call : {f : Implementation} (before : List Call) (call : Call) → f (after (fresh 4 8) before) call ≢ run (after (fresh 4 8) before) call → Differs f
unfolding in_range
at_call before call d = record { slots = 4; capacity = 8; range = refl; before = before; call = call; differs = d }

pub refuses_all_out : (f : Implementation) → RefusesAll f → Differs f
unfolding model
refuses_all_out f a = at_call [] socket (λ e. a _ _ (ap (λ o. o.no) e))

pub always_again_out : (f : Implementation) → AlwaysAgain f → Differs f
unfolding model
always_again_out f a = at_call [] socket (λ e. let z : ◌≡◌ {A = ℕ} 8 0 = sym (a _ _) ∙ ap (λ o. o.no) e in omega arith)

-- the client has written a byte, and the server reads
pub moves_nothing_out : (f : Implementation) → MovesNothing f → Differs f
unfolding model
moves_nothing_out f a = at_call (queued_bytes 1) (Call.Read h2 10) (λ e. let z : ◌≡◌ {A = ℕ} 0 1 = ap length (sym (a _ _) ∙ ap (λ o. o.bytes) e) in omega arith)

-- a second byte is written: it is not there when the server reads
pub only_claims_out : (f : Implementation) → OnlyClaims f → Differs f
unfolding model peer_of
only_claims_out f a =
    at_call (queued_bytes 1) (Call.Write h1 (some_bytes 1)) λ e.
    let same = sym (a.write _ h1 h2 (some_bytes 1) (record { live = refl; mine = refl; there = refl; holds = cons-nil })) ∙ ap (λ o. o.next) e in
    let z : ◌≡◌ {A = ℕ} 1 2 = ap (λ t. (run t (Call.Read h2 10)).value) same in
    omega arith

-- a write of 1 byte and one of 2
pub invents_bytes_out : (f : Implementation) → InventsBytes f → Differs f
unfolding model
invents_bytes_out f a = go (ℕ_discrete a.count 1)
  where
    go : Dec (a.count ≡ 1) → Differs f
    go (yes n) = at_call pair (Call.Write h1 (some_bytes 2)) (λ e. let z : ◌≡◌ {A = ℕ} 1 2 = sym n ∙ sym (a.write _ _ _ (ap (λ o. o.no) e)) ∙ ap (λ o. o.value) e in omega arith)
    go (no n) = at_call pair (Call.Write h1 (some_bytes 1)) (λ e. n (sym (a.write _ _ _ (ap (λ o. o.no) e)) ∙ ap (λ o. o.value) e))

-- a new socket wakes nobody, a connect two
pub invents_wakes_out : (f : Implementation) → InventsWakes f → Differs f
unfolding model
invents_wakes_out f a = go (ℕ_discrete a.count 0)
  where
    go : Dec (a.count ≡ 0) → Differs f
    go (yes n) = at_call (listener 1 ++ socket ∷ []) (Call.Connect h1 root) (λ e. let z : ◌≡◌ {A = ℕ} 0 2 = sym n ∙ sym (a.wakes _ _ (ap (λ o. o.no) e)) ∙ ap (λ o. length o.wakes) e in omega arith)
    go (no n) = at_call [] socket (λ e. n (sym (a.wakes _ _ (ap (λ o. o.no) e)) ∙ ap (λ o. length o.wakes) e))

-- ── demand 3 alone ──

-- `NoLostWake`, of any implementation
abbrev pub NoLostWakeOf : Implementation → Table → Type 0
NoLostWakeOf f t = (x y : Call) → (f t x).no ≡ 8 → Still (f t y).next x → (f (f t y).next x).no ≢ 8 → Memᴰ (sleeps_on x) (f t y).wakes

pub of_run : (t : Table) → NoLostWakeOf run t → NoLostWake t
of_run t a = a

-- "demand 3 alone would let it pass": a sleeper that never is to be woken
pub again_passes : (f : Implementation) → AlwaysAgain f → (t : Table) → NoLostWakeOf f t
again_passes f a t x y b s d = absurd (d (a (f t y).next x))
