-- The arms of the rules that only a damaged table could reach: an open peer that is not connected. On a well-formed table no call comes there, so `run`
-- never answers 19; that number is admission's alone.
use mathlib.Core.Path.{◌≡◌, refl}
use mathlib.Core.Logic.{◌≢◌}
use mathlib.Core.Option.{some}
use Prim.Native.Nat.{ℕ}
use native.Mathlib.Omega.{arith}
use mathlib.Core.Bool.{Bool, true, false, not, ◌||◌}
use mathlib.Core.List.{List, [], ◌∷◌}
use lib.IntN.{ℤ}
use borrow.Author.Tests.{not-false}
use Rattle.laws.proofs.Tests.{or_right, cond_both}
use Rattle.rules.specs.WellFormed.{is_connected, well_formed}
use Rattle.rules.proofs.Model.{Table, State, Call, Outcome, Policy, refuse, refuse_if, handle_at, at, holder, is_open, is_live, state_of, is_nil, do_socket, do_bind, do_listen, do_accept, reach, do_connect, drained, drain, send, do_send, do_shutdown, do_close, on_live, on_name, run}
use Rattle.rules.proofs.Frame.{none_some, live_open}
use Rattle.rules.proofs.Wf.{peer_of, WellFormed}
use Rattle.rules.proofs.YesNo.{agree}

peer_conn : (σ : State) (g : ℕ) → peer_of σ ≡ some g → is_connected σ ≡ true
unfolding peer_of is_connected
peer_conn State.Unbound g e = absurd (none_some e)
peer_conn (State.Bound m) g e = absurd (none_some e)
peer_conn (State.Listening m b q) g e = absurd (none_some e)
peer_conn (State.Connected p i x y) g e = refl

-- the open peer of an open socket is connected
pub peer_connected : (t : Table) → WellFormed t → (g p : ℕ) → is_open t g ≡ true → peer_of (state_of t g) ≡ some p → is_open t p ≡ true → is_connected (state_of t p) ≡ true
peer_connected t w g p o e q = peer_conn (state_of t p) g (w.paired g p o e q)

-- ── No call answers 19 ──

record Sane (o : Outcome) : Type 0 where
  sane : o.no ≡ 19 → ⊥

-- of each number but 19
other : (t : Table) (n : ℕ) → (n ≡ 19 → ⊥) → Sane (refuse t n)
other t n d = record { sane = d }

guard : (t : Table) (b : Bool) (n : ℕ) (o : Outcome) → (n ≡ 19 → ⊥) → (b ≡ false → Sane o) → Sane (refuse_if b n t o)
unfolding refuse_if
guard t true n o d f = other t n d
guard t false n o d f = f refl

fine : {o : Outcome} → o.no ≡ 0 → Sane o
fine {o} e = record { sane = λ z. omega arith }

module _ (t : Table) (w : WellFormed t) where
  on-live : (h : ℕ) (o : Outcome) → (is_live t h ≡ true → Sane o) → Sane (on_live t h o)
  unfolding on_live
  on-live h o f = guard t _ 1 o (λ z. omega arith) λ e. f (not-false _ e)

  on-name : (h : ℕ) (n : List ℕ) (o : Outcome) → (is_live t h ≡ true → Sane o) → Sane (on_name t h n o)
  unfolding on_name
  on-name h n o f = on-live h _ λ l. guard t _ 2 _ (λ z. omega arith) λ a. guard t _ 17 _ (λ z. omega arith) λ b. f l

  sane_socket : (d y p : ℤ) → Sane (do_socket t d y p)
  unfolding do_socket
  sane_socket d y p =
      guard t _ 12 _ (λ z. omega arith) λ a. guard t _ 14 _ (λ z. omega arith) λ b. guard t _ 15 _ (λ z. omega arith) λ c. guard t _ 16 _ (λ z. omega arith) λ e. fine refl

  sane_bind : (h : ℕ) (n : List ℕ) (σ : State) → Sane (do_bind t h n σ)
  unfolding do_bind
  sane_bind h n State.Unbound = guard t _ 3 _ (λ z. omega arith) λ e. fine refl
  sane_bind h n (State.Bound m) = other t 2 (λ z. omega arith)
  sane_bind h n (State.Listening m b q) = other t 2 (λ z. omega arith)
  sane_bind h n (State.Connected p i x y) = other t 2 (λ z. omega arith)

  sane_listen : (h k : ℕ) (σ : State) → Sane (do_listen t h k σ)
  unfolding do_listen
  sane_listen h k State.Unbound = other t 4 (λ z. omega arith)
  sane_listen h k (State.Bound m) = fine refl
  sane_listen h k (State.Listening m b q) = fine refl
  sane_listen h k (State.Connected p i x y) = other t 2 (λ z. omega arith)

  sane_accept : (h : ℕ) (σ : State) → Sane (do_accept t h σ)
  unfolding do_accept
  sane_accept h State.Unbound = other t 2 (λ z. omega arith)
  sane_accept h (State.Bound m) = other t 2 (λ z. omega arith)
  sane_accept h (State.Listening m b []) = other t 8 (λ z. omega arith)
  sane_accept h (State.Listening m b (s ∷ q)) = fine refl
  sane_accept h (State.Connected p i x y) = other t 2 (λ z. omega arith)

  sane_reach : (h l : ℕ) (σ : State) → Sane (reach t h l σ)
  unfolding reach
  sane_reach h l State.Unbound = other t 7 (λ z. omega arith)
  sane_reach h l (State.Bound m) = other t 7 (λ z. omega arith)
  sane_reach h l (State.Listening m b q) = guard t _ 8 _ (λ z. omega arith) λ e. guard t _ 16 _ (λ z. omega arith) λ e. fine refl
  sane_reach h l (State.Connected p i x y) = other t 7 (λ z. omega arith)

  sane_connect : (h : ℕ) (n : List ℕ) (σ : State) → Sane (do_connect t h n σ)
  unfolding do_connect
  sane_connect h n State.Unbound = sane_reach h (handle_at t (holder t n)) (at t (holder t n)).state
  sane_connect h n (State.Bound m) = other t 2 (λ z. omega arith)
  sane_connect h n (State.Listening m b q) = other t 6 (λ z. omega arith)
  sane_connect h n (State.Connected p i x y) = other t 5 (λ z. omega arith)

  sane_drain : (h k : ℕ) (m : Policy) (σ : State) → Sane (drain t h k m σ)
  unfolding drain drained
  sane_drain h k m State.Unbound = other t 9 (λ z. omega arith)
  sane_drain h k m (State.Bound n) = other t 9 (λ z. omega arith)
  sane_drain h k m (State.Listening n b q) = other t 9 (λ z. omega arith)
  sane_drain h k m (State.Connected p i x y) =
      cond_both Sane (is_nil i.bytes) (λ a. cond_both Sane (x || not (is_open t p)) (λ b. fine refl) (λ b. other t 8 (λ z. omega arith))) (λ a. fine refl)

  sane_send : (p : ℕ) (new its : List ℕ) (σ : State) → is_connected σ ≡ true → Sane (send t p new its σ)
  unfolding send is_connected
  sane_send p new its State.Unbound c = absurd (let z : ◌≡◌ {A = ℕ} 0 1 = cc in omega arith)
  sane_send p new its (State.Bound m) c = absurd (let z : ◌≡◌ {A = ℕ} 0 1 = cc in omega arith)
  sane_send p new its (State.Listening m b q) c = absurd (let z : ◌≡◌ {A = ℕ} 0 1 = cc in omega arith)
  sane_send p new its (State.Connected h i x y) c = guard t _ 8 _ (λ z. omega arith) λ a. guard t _ 2 _ (λ z. omega arith) λ b. guard t _ 11 _ (λ z. omega arith) λ e. fine refl

  sane-do_send : (h : ℕ) → is_live t h ≡ true → (new its : List ℕ) (σ : State) → state_of t h ≡ σ → Sane (do_send t new its σ)
  unfolding do_send peer_of
  sane-do_send h l new its State.Unbound e = other t 9 (λ z. omega arith)
  sane-do_send h l new its (State.Bound m) e = other t 9 (λ z. omega arith)
  sane-do_send h l new its (State.Listening m b q) e = other t 9 (λ z. omega arith)
  sane-do_send h l new its (State.Connected p i x y) e =
      guard t _ 10 _ (λ z. omega arith) λ a. sane_send p new its (state_of t p) (peer_connected t w h p (live_open t h l) (rw e refl) (not-false _ (or_right y _ a)))

  sane_shutdown : (h : ℕ) (rd wr : Bool) (σ : State) → Sane (do_shutdown t h rd wr σ)
  unfolding do_shutdown
  sane_shutdown h rd wr State.Unbound = other t 9 (λ z. omega arith)
  sane_shutdown h rd wr (State.Bound m) = other t 9 (λ z. omega arith)
  sane_shutdown h rd wr (State.Listening m b q) = other t 9 (λ z. omega arith)
  sane_shutdown h rd wr (State.Connected p i x y) = fine refl

  sane_run : (y : Call) → Sane (run t y)
  unfolding run do_close
  sane_run (Call.Socket d y p) = sane_socket d y p
  sane_run (Call.Bind h n) = on-name h n _ λ l. sane_bind h n (state_of t h)
  sane_run (Call.Listen h k) = on-live h _ λ l. sane_listen h k (state_of t h)
  sane_run (Call.Accept h) = on-live h _ λ l. sane_accept h (state_of t h)
  sane_run (Call.Connect h n) = on-name h n _ λ l. sane_connect h n (state_of t h)
  sane_run (Call.Read h k) = on-live h _ λ l. sane_drain h k Policy.Drop (state_of t h)
  sane_run (Call.Recvmsg h k m) = on-live h _ λ l. guard t _ 2 _ (λ z. omega arith) λ a. sane_drain h k (Policy.Take m) (state_of t h)
  sane_run (Call.Write h b) = on-live h _ λ l. sane-do_send h l b [] (state_of t h) refl
  sane_run (Call.Sendmsg h b i) = on-live h _ λ l. sane-do_send h l b i (state_of t h) refl
  sane_run (Call.Shutdown h how) = on-live h _ λ l. guard t _ 2 _ (λ z. omega arith) λ a. sane_shutdown h _ _ (state_of t h)
  sane_run (Call.Close h) = on-live h _ λ l. fine refl
  sane_run (Call.Readiness h) = on-live h _ λ l. fine refl

pub never_damaged : (t : Table) (y : Call) → well_formed t ≡ true → (run t y).no ≢ 19
never_damaged t y f = (sane_run t ((agree t).0 f).sound.wf y).sane
