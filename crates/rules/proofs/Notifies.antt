-- Who is woken, for a kernel engineer: which calls sleep, which calls wake nobody, that each wake list names open sockets and none twice, and that a socket whose
-- readiness rises is in it.
use mathlib.Core.Path.{◌≡◌, refl, sym, ap, ◌∙◌, subst}
use mathlib.Core.Logic.{◌≢◌, ◌⊎◌, inl, inr, ⊎_elim}
use mathlib.Core.Option.{some}
use Prim.Native.Nat.{ℕ, ◌/◌, ◌%◌, ◌≤◌, ◌<◌}
use native.Mathlib.Omega.{arith}
use mathlib.Core.Bool.{Bool, true, false, not}
use mathlib.Core.List.Memᴰ
use mathlib.Core.List.{List, [], Memᴰ}
use lib.ListN.{length}
use lib.Dec.{ltb}
use lib.IntN.{ℤ}
use Rattle.laws.proofs.Tests.{cond_both}
use Rattle.rules.specs.WellFormed.{is_connected}
use Rattle.rules.proofs.Model.{Table, State, Inbox, Call, Outcome, fresh, after, refuse, refuse_if, answer, at, is_open, is_live, state_of, open_one, close_all, free_slot, connected, drained, do_socket, do_bind, do_listen, do_shutdown, do_close, ready, on_live, on_name, run}
use Rattle.rules.proofs.Frame.{live_open, open_become, enter_open, unbound_not_listening}
use Rattle.rules.proofs.Walk.{Steps, walk}
use Rattle.rules.proofs.Wf.{peer_of, WellFormed}
use Rattle.rules.proofs.WfRun.{wf_fresh}
use Rattle.rules.proofs.Queues.{Once}
use Rattle.rules.proofs.QueuesRun.{Sound, sound_fresh, sound_after}
use Rattle.rules.proofs.Clients.{Clients, clients_fresh, clients_after}
use Rattle.rules.proofs.Closing.{open_one-is, close_occupied, close_once}
use Rattle.rules.proofs.Levels.{Level, level, moves}

-- ── the calls that sleep ──

-- an accept, connect, read, recvmsg, write or sendmsg
unfoldable pub is_sleeper : Call → Bool
is_sleeper (Call.Socket d y p) = false
is_sleeper (Call.Bind h n) = false
is_sleeper (Call.Listen h k) = false
is_sleeper (Call.Accept h) = true
is_sleeper (Call.Connect h n) = true
is_sleeper (Call.Read h k) = true
is_sleeper (Call.Recvmsg h k m) = true
is_sleeper (Call.Write h b) = true
is_sleeper (Call.Sendmsg h b i) = true
is_sleeper (Call.Shutdown h w) = false
is_sleeper (Call.Close h) = false
is_sleeper (Call.Readiness h) = false

-- an outcome that is not EAGAIN
record Awake (o : Outcome) : Type 0 where
  isnt : o.no ≢ 8

-- a rule whose numbers are not 8
skip : (t : Table) (b : Bool) (n : ℕ) {o : Outcome} → n ≢ 8 → Awake o → Awake (refuse_if b n t o)
unfolding refuse_if
skip t true n d a = record { isnt = d }
skip t false n d a = a

past : (t : Table) (n : ℕ) → n ≢ 8 → Awake (refuse t n)
past t n d = record { isnt = d }

done : {t : Table} {v : ℕ} {w r : List ℕ} → Awake (answer t v w r)
done = record { isnt = omega arith }

awake_socket : (t : Table) (d y p : ℤ) → Awake (do_socket t d y p)
unfolding do_socket
awake_socket t d y p = skip t _ 12 (omega arith) (skip t _ 14 (omega arith) (skip t _ 15 (omega arith) (skip t _ 16 (omega arith) done)))

awake_bind : (t : Table) (h : ℕ) (n : List ℕ) (σ : State) → Awake (do_bind t h n σ)
unfolding do_bind
awake_bind t h n State.Unbound = skip t _ 3 (omega arith) done
awake_bind t h n (State.Bound m) = past t 2 (omega arith)
awake_bind t h n (State.Listening m b q) = past t 2 (omega arith)
awake_bind t h n (State.Connected p i x y) = past t 2 (omega arith)

awake_listen : (t : Table) (h k : ℕ) (σ : State) → Awake (do_listen t h k σ)
unfolding do_listen
awake_listen t h k State.Unbound = past t 4 (omega arith)
awake_listen t h k (State.Bound m) = done
awake_listen t h k (State.Listening m b q) = done
awake_listen t h k (State.Connected p i x y) = past t 2 (omega arith)

awake_shutdown : (t : Table) (h : ℕ) (rd wr : Bool) (σ : State) → Awake (do_shutdown t h rd wr σ)
unfolding do_shutdown
awake_shutdown t h rd wr State.Unbound = past t 9 (omega arith)
awake_shutdown t h rd wr (State.Bound m) = past t 9 (omega arith)
awake_shutdown t h rd wr (State.Listening m b q) = past t 9 (omega arith)
awake_shutdown t h rd wr (State.Connected p i x y) = done

awake_close : (t : Table) (h : ℕ) → Awake (do_close t h)
unfolding do_close
awake_close t h = done

on-live : (t : Table) (h : ℕ) {o : Outcome} → Awake o → Awake (on_live t h o)
unfolding on_live
on-live t h a = skip t _ 1 (omega arith) a

on-name : (t : Table) (h : ℕ) (n : List ℕ) {o : Outcome} → Awake o → Awake (on_name t h n o)
unfolding on_name
on-name t h n a = on-live t h (skip t _ 2 (omega arith) (skip t _ 17 (omega arith) a))

-- "a connect, accept, read, recvmsg, write or sendmsg answered EAGAIN": no other call does
pub only_six : (t : Table) (x : Call) → (run t x).no ≡ 8 → is_sleeper x ≡ true
unfolding run is_sleeper
only_six t (Call.Socket d y p) e = absurd ((awake_socket t d y p).isnt e)
only_six t (Call.Bind h n) e = absurd ((on-name t h n (awake_bind t h n (state_of t h))).isnt e)
only_six t (Call.Listen h k) e = absurd ((on-live t h (awake_listen t h k (state_of t h))).isnt e)
only_six t (Call.Accept h) e = refl
only_six t (Call.Connect h n) e = refl
only_six t (Call.Read h k) e = refl
only_six t (Call.Recvmsg h k m) e = refl
only_six t (Call.Write h b) e = refl
only_six t (Call.Sendmsg h b i) e = refl
only_six t (Call.Shutdown h w) e = absurd ((on-live t h (skip t _ 2 (omega arith) (awake_shutdown t h _ _ (state_of t h)))).isnt e)
only_six t (Call.Close h) e = absurd ((on-live t h (awake_close t h)).isnt e)
only_six t (Call.Readiness h) e = absurd ((on-live t h done).isnt e)

-- ── the calls that tell nobody ──

-- a call that is refused: its number, no value, no wake, no release, no byte, no item, and the table as it was
pub refused_silent : (t : Table) → length t.slots ≤ 1024 → (y : Call) → (run t y).no ≢ 0 → run t y ≡ refuse t (run t y).no
unfolding drained do_shutdown do_close
refused_silent t fit y =
    walk t fit (λ o. o.no ≢ 0 → o ≡ refuse t o.no)
    (record {
      refused = λ n d. refl;
      unchanged = λ v d. absurd (d refl);
      socket = λ r v z d. absurd (d refl);
      bind = λ h n l e a b f d. absurd (d refl);
      listen = λ h k m l e d. absurd (d refl);
      again = λ h k m b q l e d. absurd (d refl);
      accept = λ h m b s q l e d. absurd (d refl);
      connect = λ h k m b q l un o e f r v z d. absurd (d refl);
      read = λ h k m p i x z l e n d. absurd (d refl);
      write = λ h p i x z new its o e r f g d. absurd (d refl);
      shutdown = λ h p i x z rd wr l e d. absurd (d refl);
      close = λ h l d. absurd (d refl);
    })
    y

-- a question about readiness
pub readiness_silent : (t : Table) (h : ℕ) → ((run t (Call.Readiness h)).wakes ≡ []) × ((run t (Call.Readiness h)).releases ≡ []) × ((run t (Call.Readiness h)).next ≡ t)
unfolding run on_live refuse_if
readiness_silent t h = cond_both (λ (o : Outcome). (o.wakes ≡ []) × (o.releases ≡ []) × (o.next ≡ t)) (not (is_live t h)) (λ _. (refl, refl, refl)) (λ _. (refl, refl, refl))

-- ── every call ──

-- each entry of the wake list is the registry or a socket that is open in the table after the call
pub record Occupied (o : Outcome) : Type 0 where
  pub occupied : (x : ℕ) → Memᴰ x o.wakes → (x ≡ 0) ⊎ (is_open o.next x ≡ true)

none_woken : (o : Outcome) → o.wakes ≡ [] → Occupied o
none_woken o e = record { occupied = λ x m. absurd (Memᴰ.not-nil (subst (Memᴰ x) e m)) }

one_woken : (t : Table) (p : ℕ) → Once (open_one t p)
unfolding open_one
one_woken t p = cond_both Once (is_open t p) (λ _. (Memᴰ.not-nil, tt)) (λ _. tt)

connected_open : (t : Table) (h l : ℕ) (m : List ℕ) (b : ℕ) (q : List ℕ) → (at t (free_slot t)).in_use ≡ false → (g : ℕ) → is_open t g ≡ true → is_open (connected t h l m b q) g ≡ true
unfolding connected
connected_open t h l m b q v g o = open_become _ l _ g ∙ open_become _ h _ g ∙ (enter_open t (free_slot t) false _ g v o).0

module _ (c : ℕ) (t : Table) (s : Sound c t) (k : Clients t) where
  apart : (h p : ℕ) (i : Inbox) (x y : Bool) → is_live t h ≡ true → state_of t h ≡ State.Connected p i x y → h ≢ p
  unfolding peer_of
  apart h p i x y l e z = s.wf.apart h (live_open t h l) (ap peer_of e ∙ ap some (sym z))

  occupied_steps : Steps t Occupied
  unfolding drained do_shutdown do_close close_all
  occupied_steps =
      record {
        refused = λ n. none_woken _ refl;
        unchanged = λ v. none_woken _ refl;
        socket = λ r v z. none_woken _ refl;
        bind = λ h n l e a b f. none_woken _ refl;
        listen = λ h i m l e. none_woken _ refl;
        again = λ h i m b q l e. record { occupied = λ x a. inl (cond_both (λ w. Memᴰ x w → x ≡ 0) (ltb b i) (λ _ a. Memᴰ.eq_of_singleton a) (λ _ a. absurd (Memᴰ.not-nil a)) a) };
        accept = λ h m b i q l e. record { occupied = λ x a. inl (Memᴰ.eq_of_singleton a) };
        connect = λ h i m b q l un o e f r v z.
            record {
              occupied = λ x a.
                  inr
                  (connected_open t h i m b q v x
                  (⊎_elim (λ d. ap (is_open t) d ∙ o) (λ d. ap (is_open t) (Memᴰ.eq_of_singleton d) ∙ live_open t h l) (Memᴰ.cases_cons a)));
            };
        read = λ h i m p b x z l e n. record { occupied = λ g a. let d = open_one-is t p g a in inr (open_become t h _ g ∙ ap (is_open t) d.0 ∙ d.1) };
        write = λ h p i x z new its o e r f g. record { occupied = λ y a. inr (open_become t p _ y ∙ ap (is_open t) (Memᴰ.eq_of_singleton a) ∙ o) };
        shutdown = λ h p i x z rd wr l e.
            record {
              occupied = λ y a.
                  inr
                  (cond_both (λ u. is_open u y ≡ is_open t y) (is_open t p) (λ _. open_become _ p _ y ∙ open_become t h _ y) (λ _. open_become t h _ y)
                  ∙ ⊎_elim (λ d. ap (is_open t) d ∙ live_open t h l) (λ d. let j = open_one-is t p y d in ap (is_open t) j.0 ∙ j.1) (Memᴰ.cases_cons a));
            };
        close = λ h l. record { occupied = close_occupied t s.wf s.queues k h (live_open t h l) (state_of t h) refl };
      }

  once_steps : Steps t (λ o. Once o.wakes)
  unfolding drained do_shutdown do_close close_all
  once_steps =
      record {
        refused = λ n. tt;
        unchanged = λ v. tt;
        socket = λ r v z. tt;
        bind = λ h n l e a b f. tt;
        listen = λ h i m l e. tt;
        again = λ h i m b q l e. cond_both Once (ltb b i) (λ _. (Memᴰ.not-nil, tt)) (λ _. tt);
        accept = λ h m b i q l e. (Memᴰ.not-nil, tt);
        connect = λ h i m b q l un o e f r v z. (λ a. unbound_not_listening (sym un ∙ ap (state_of t) (sym (Memᴰ.eq_of_singleton a)) ∙ e), (Memᴰ.not-nil, tt));
        read = λ h i m p b x z l e n. one_woken t p;
        write = λ h p i x z new its o e r f g. (Memᴰ.not-nil, tt);
        shutdown = λ h p i x z rd wr l e. (λ a. apart h p i x z l e (open_one-is t p h a).0, one_woken t p);
        close = λ h l. close_once t s.wf s.queues k h (live_open t h l) (state_of t h) refl;
      }

  -- no handle stands twice in the wakes of a call
  pub wakes_once : (y : Call) → Once (run t y).wakes
  wakes_once y = walk t s.wf.sized (λ o. Once o.wakes) once_steps y

  -- whoever is woken is there: the registry, or a socket that is open after the call
  pub wakes_occupied : (y : Call) → Occupied (run t y)
  wakes_occupied y = walk t s.wf.sized Occupied occupied_steps y

-- of every table that is reached from a fresh one
module _ (n c : ℕ) (fits : n ≤ 1024) (cs : List Call) where
  abbrev t : Table
  t = after (fresh n c) cs

  sound : Sound c t
  sound = sound_after c (fresh n c) cs (sound_fresh n c fits)

  clients : Clients t
  clients = clients_after (fresh n c) cs (wf_fresh n c fits) (clients_fresh n c)

  pub reached_wakes_once : (y : Call) → Once (run (after (fresh n c) cs) y).wakes
  reached_wakes_once = wakes_once c t sound clients

  pub reached_wakes_occupied : (y : Call) → Occupied (run (after (fresh n c) cs) y)
  reached_wakes_occupied = wakes_occupied c t sound clients

-- ── readiness ──

-- a bit of a readiness is set that was not: readable, writable or hung up
abbrev pub Rises : ℕ → ℕ → Type 0
Rises r r' = (r % 2 < r' % 2) ⊎ (r / 2 % 2 < r' / 2 % 2) ⊎ (r / 4 < r' / 4)

level_not : {r r' : ℕ} → Level r r' → Rises r r' → ⊥
level_not l (inl z) = omega (arith, l.read)
level_not l (inr (inl z)) = omega (arith, l.write)
level_not l (inr (inr z)) = omega (arith, l.hung)

-- a socket that is open before and after a call, and one of whose readiness bits rises, is woken by it
pub readiness_told : (t : Table) → WellFormed t → (y : Call) (h : ℕ) → is_open t h ≡ true → is_open (run t y).next h ≡ true
    → Rises (ready t (state_of t h)) (ready (run t y).next (state_of (run t y).next h)) → Memᴰ h (run t y).wakes
readiness_told t w y h o o' r =
    ⊎_elim
    (λ n. ⊎_elim (λ l. absurd (level_not l r)) (λ m. m) (level t w y h o o' n (is_connected (state_of t h)) refl))
    (λ m. m)
    ((moves t w y h o o').next h o o')
