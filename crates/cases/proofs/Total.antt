-- Total and refusing: an allowed answer is 0 or one of 01's numbers, 1 to 19, and a refusal leaves all that was lent as it was. That there is an allowed result
-- for every storage and request is what the code adds: the contracts of crate unix_socket.
use Prim.Native.Nat.{ℕ, ◌≤◌}
use native.Mathlib.Omega.{arith}
use mathlib.Core.Path.{◌≡◌, refl, ap, ap₂, ◌∙◌}
use mathlib.Core.Logic.{◌≢◌, ◌⊎◌, inl, inr}
use mathlib.Core.Bool.{Bool, true, false, cond, not, ◌||◌}
use mathlib.Core.List.{List, [], ◌∷◌}
use lib.IntN.{ℤ}
use lib.Dec.{eqb}
use lib.ListN.{length}
use lib.Seq.{sets}
use Rattle.rules.specs.Table.{Table, State, is_open, is_live, state_of, at, holder, handle_at}
use Rattle.rules.specs.Inbox.{is_nil}
use Rattle.rules.specs.Outcome.{Call, Outcome, refuse, refuse_if}
use Rattle.rules.specs.Connecting.{do_socket, do_bind, do_listen, do_accept, reach, do_connect}
use Rattle.rules.specs.Moving.{Policy, drained, drain, send, do_send}
use Rattle.rules.specs.Ending.{do_shutdown, do_close}
use Rattle.rules.specs.Run.{on_live, on_name, run, admission, in_range, entry}
use Rattle.storage.specs.Rows.{Store}
use Rattle.storage.specs.View.{view}
use Rattle.table.specs.Formed.{formed}
use Rattle.promise.specs.Answers.{refused_with}
use Rattle.promise.specs.Promise.{lists}
use Rattle.promise.proofs.Answering.{same_answer}
use Rattle.cases.specs.Step.{Request, Result, outcome_of, Allowed}

-- ── What the rules answer ──

-- the refusal of this number
pub record Refusal (t : Table) (o : Outcome) : Type 0 where
  pub number : ℕ
  pub least : 1 ≤ number
  pub most : number ≤ 19
  pub is_refusal : o ≡ refuse t number

abbrev pub Ruled : Table → Outcome → Type 0
Ruled t o = (o.no ≡ 0) ⊎ Refusal t o

module _ (t : Table) where
  with_no : (e : ℕ) → 1 ≤ e → e ≤ 19 → Ruled t (refuse t e)
  with_no e l m = inr (record { number = e; least = l; most = m; is_refusal = refl })

  guard : (b : Bool) (e : ℕ) (o : Outcome) → 1 ≤ e → e ≤ 19 → Ruled t o → Ruled t (refuse_if b e t o)
  unfolding refuse_if
  guard true e o l m r = with_no e l m
  guard false e o l m r = r

  on-live : (h : ℕ) (o : Outcome) → Ruled t o → Ruled t (on_live t h o)
  unfolding on_live
  on-live h o r = guard (not (is_live t h)) 1 o (omega arith) (omega arith) r

  on-name : (h : ℕ) (n : List ℕ) (o : Outcome) → Ruled t o → Ruled t (on_name t h n o)
  unfolding on_name
  on-name h n o r = on-live h _ (guard _ 2 _ (omega arith) (omega arith) (guard _ 17 _ (omega arith) (omega arith) r))

  socket_ruled : (d y p : ℤ) → Ruled t (do_socket t d y p)
  unfolding do_socket
  socket_ruled d y p =
      guard _ 12 _ (omega arith) (omega arith)
      (guard _ 14 _ (omega arith) (omega arith)
      (guard _ 15 _ (omega arith) (omega arith)
      (guard _ 16 _ (omega arith) (omega arith) (inl refl))))

  bind_ruled : (h : ℕ) (n : List ℕ) (σ : State) → Ruled t (do_bind t h n σ)
  unfolding do_bind
  bind_ruled h n State.Unbound = guard _ 3 _ (omega arith) (omega arith) (inl refl)
  bind_ruled h n (State.Bound m) = with_no 2 (omega arith) (omega arith)
  bind_ruled h n (State.Listening m b q) = with_no 2 (omega arith) (omega arith)
  bind_ruled h n (State.Connected p i x y) = with_no 2 (omega arith) (omega arith)

  listen_ruled : (h k : ℕ) (σ : State) → Ruled t (do_listen t h k σ)
  unfolding do_listen
  listen_ruled h k State.Unbound = with_no 4 (omega arith) (omega arith)
  listen_ruled h k (State.Bound m) = inl refl
  listen_ruled h k (State.Listening m b q) = inl refl
  listen_ruled h k (State.Connected p i x y) = with_no 2 (omega arith) (omega arith)

  accept_ruled : (h : ℕ) (σ : State) → Ruled t (do_accept t h σ)
  unfolding do_accept
  accept_ruled h State.Unbound = with_no 2 (omega arith) (omega arith)
  accept_ruled h (State.Bound m) = with_no 2 (omega arith) (omega arith)
  accept_ruled h (State.Listening m b []) = with_no 8 (omega arith) (omega arith)
  accept_ruled h (State.Listening m b (s ∷ q)) = inl refl
  accept_ruled h (State.Connected p i x y) = with_no 2 (omega arith) (omega arith)

  reach_ruled : (h l : ℕ) (σ : State) → Ruled t (reach t h l σ)
  unfolding reach
  reach_ruled h l State.Unbound = with_no 7 (omega arith) (omega arith)
  reach_ruled h l (State.Bound m) = with_no 7 (omega arith) (omega arith)
  reach_ruled h l (State.Listening m b q) = guard _ 8 _ (omega arith) (omega arith) (guard _ 16 _ (omega arith) (omega arith) (inl refl))
  reach_ruled h l (State.Connected p i x y) = with_no 7 (omega arith) (omega arith)

  connect_ruled : (h : ℕ) (n : List ℕ) (σ : State) → Ruled t (do_connect t h n σ)
  unfolding do_connect
  connect_ruled h n State.Unbound = reach_ruled h (handle_at t (holder t n)) (at t (holder t n)).state
  connect_ruled h n (State.Bound m) = with_no 2 (omega arith) (omega arith)
  connect_ruled h n (State.Listening m b q) = with_no 6 (omega arith) (omega arith)
  connect_ruled h n (State.Connected p i x y) = with_no 5 (omega arith) (omega arith)

  drain_ruled : (h k : ℕ) (policy : Policy) (σ : State) → Ruled t (drain t h k policy σ)
  unfolding drain drained
  drain_ruled h k policy State.Unbound = with_no 9 (omega arith) (omega arith)
  drain_ruled h k policy (State.Bound m) = with_no 9 (omega arith) (omega arith)
  drain_ruled h k policy (State.Listening m b q) = with_no 9 (omega arith) (omega arith)
  drain_ruled h k policy (State.Connected p i x y) = both (is_nil i.bytes) (both (x || not (is_open t p)) (inl refl) (with_no 8 (omega arith) (omega arith))) (inl refl)
    where
      both : (b : Bool) {o o' : Outcome} → Ruled t o → Ruled t o' → Ruled t (cond b o o')
      both true f g = f
      both false f g = g

  send_ruled : (p : ℕ) (new its : List ℕ) (σ : State) → Ruled t (send t p new its σ)
  unfolding send
  send_ruled p new its State.Unbound = with_no 19 (omega arith) (omega arith)
  send_ruled p new its (State.Bound m) = with_no 19 (omega arith) (omega arith)
  send_ruled p new its (State.Listening m b q) = with_no 19 (omega arith) (omega arith)
  send_ruled p new its (State.Connected h i x y) =
      guard _ 8 _ (omega arith) (omega arith) (guard _ 2 _ (omega arith) (omega arith) (guard _ 11 _ (omega arith) (omega arith) (inl refl)))

  do_send-ruled : (new its : List ℕ) (σ : State) → Ruled t (do_send t new its σ)
  unfolding do_send
  do_send-ruled new its State.Unbound = with_no 9 (omega arith) (omega arith)
  do_send-ruled new its (State.Bound m) = with_no 9 (omega arith) (omega arith)
  do_send-ruled new its (State.Listening m b q) = with_no 9 (omega arith) (omega arith)
  do_send-ruled new its (State.Connected p i x y) = guard _ 10 _ (omega arith) (omega arith) (send_ruled p new its (state_of t p))

  shutdown_ruled : (h : ℕ) (rd wr : Bool) (σ : State) → Ruled t (do_shutdown t h rd wr σ)
  unfolding do_shutdown
  shutdown_ruled h rd wr State.Unbound = with_no 9 (omega arith) (omega arith)
  shutdown_ruled h rd wr (State.Bound m) = with_no 9 (omega arith) (omega arith)
  shutdown_ruled h rd wr (State.Listening m b q) = with_no 9 (omega arith) (omega arith)
  shutdown_ruled h rd wr (State.Connected p i x y) = inl refl

  close_ruled : (h : ℕ) → Ruled t (do_close t h)
  unfolding do_close
  close_ruled h = inl refl

  pub run_ruled : (c : Call) → Ruled t (run t c)
  unfolding run
  run_ruled (Call.Socket d y p) = socket_ruled d y p
  run_ruled (Call.Bind h n) = on-name h n _ (bind_ruled h n (state_of t h))
  run_ruled (Call.Listen h k) = on-live h _ (listen_ruled h k (state_of t h))
  run_ruled (Call.Accept h) = on-live h _ (accept_ruled h (state_of t h))
  run_ruled (Call.Connect h n) = on-name h n _ (connect_ruled h n (state_of t h))
  run_ruled (Call.Read h k) = on-live h _ (drain_ruled h k Policy.Drop (state_of t h))
  run_ruled (Call.Recvmsg h k m) = on-live h _ (guard _ 2 _ (omega arith) (omega arith) (drain_ruled h k (Policy.Take m) (state_of t h)))
  run_ruled (Call.Write h b) = on-live h _ (do_send-ruled b [] (state_of t h))
  run_ruled (Call.Sendmsg h b i) = on-live h _ (do_send-ruled b i (state_of t h))
  run_ruled (Call.Shutdown h how) = on-live h _ (guard _ 2 _ (omega arith) (omega arith) (shutdown_ruled h _ _ (state_of t h)))
  run_ruled (Call.Close h) = on-live h _ (close_ruled h)
  run_ruled (Call.Readiness h) = on-live h _ (inl refl)

  pub entry_ruled : (n c : ℕ) (large well : Bool) (call : Call) → Ruled t (entry n c large well t call)
  unfolding entry admission refuse_if
  entry_ruled n c large well call = go (in_range n c) large well
    where
      go : (a b d : Bool) → Ruled t (let e = cond a (cond b (cond d 0 19) 18) 2 in refuse_if (not (eqb e 0)) e t (run t call))
      go true true true = run_ruled call
      go true true false = with_no 19 (omega arith) (omega arith)
      go true false d = with_no 18 (omega arith) (omega arith)
      go false b d = with_no 2 (omega arith) (omega arith)

-- ── What is allowed ──

-- the number, and nothing else
pub record Untouched (s : Store) (q : Request) (r : Result) : Type 0 where
  pub store : r.store ≡ s
  pub lists : r.lists ≡ q.lists
  pub buf : r.buf ≡ q.buf
  pub items : r.items ≡ q.items
  pub answer : r.answer ≡ refused_with r.answer.refusal

pub record Total (s : Store) (q : Request) (r : Result) : Type 0 where
  -- accepted, or one of 01's numbers
  pub number : (r.answer.refusal ≡ 0) ⊎ ((1 ≤ r.answer.refusal) × (r.answer.refusal ≤ 19))
  -- "A refusal returns its number, both counts 0, and no lent byte differs."
  pub refusing : r.answer.refusal ≢ 0 → Untouched s q r

pub total : (s : Store) (q : Request) (r : Result) → Allowed s q r → Total s q r
total s q r a = go (entry_ruled (view q.n q.c s) q.n q.c _ (formed q.n q.c s) q.call)
  where
    go : Ruled (view q.n q.c s) (outcome_of s q) → Total s q r
    go (inl z) = let e : r.answer.refusal ≡ 0 = a.promise.refusal_is ∙ z in record { number = inl e; refusing = λ ne. absurd (ne e) }
    go (inr f) =
        let p = a.promise in
        let o : outcome_of s q ≡ refuse (view q.n q.c s) f.number = f.is_refusal in
        let e : r.answer.refusal ≡ f.number = p.refusal_is ∙ ap (λ (x : Outcome). x.no) o in
        let l = f.least in
        let m = f.most in
        let nz : (outcome_of s q).no ≢ 0 = λ z. let y = p.refusal_is in omega arith in
        let w : r.lists.wakes ≡ q.lists.wakes = p.wake_list ∙ ap (λ (x : Outcome). sets q.lists.wakes 0 x.wakes) o in
        let v : r.lists.releases ≡ q.lists.releases = p.release_list ∙ ap (λ (x : Outcome). sets q.lists.releases 0 x.releases) o in
        record {
          number = inr (omega arith, omega arith);
          refusing = λ _.
              record {
                store = p.refused nz;
                lists = ap₂ lists w v;
                buf = a.fills.buffer ∙ ap (λ (x : Outcome). sets q.buf 0 x.bytes) o;
                items = a.fills.item_list ∙ ap (λ (x : Outcome). sets q.items 0 x.items) o;
                answer =
                    same_answer r.answer (refused_with r.answer.refusal) refl (p.flags_are ∙ ap (λ (x : Outcome). x.flags) o) (p.value_is ∙ ap (λ (x : Outcome). x.value) o)
                    (p.item_count ∙ ap (λ (x : Outcome). length x.items) o) (p.wake_count ∙ ap (λ (x : Outcome). length x.wakes) o)
                    (p.release_count ∙ ap (λ (x : Outcome). length x.releases) o);
              };
        }
