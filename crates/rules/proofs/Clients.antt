-- The open peer of a pending server is a socket that the host has, and no socket's handle is the registry's: kept by every call.
use mathlib.Core.Path.{◌≡◌, refl, sym, ap, ◌∙◌}
use mathlib.Core.Logic.{◌≢◌, ⊎_elim}
use mathlib.Core.Option.{some}
use Prim.Native.Nat.{ℕ, suc, ◌<◌}
use native.Mathlib.Omega.{arith}
use mathlib.Core.Bool.{Bool, true, false, cond, ◌||◌, true≢false, false≢true}
use mathlib.Core.List.{List, [], ◌∷◌}
use lib.ListN.{length}
use Rattle.laws.proofs.Tests.{cond_both}
use Rattle.rules.proofs.Model.{Table, State, Call, fresh, after, slot_of, handle, at, is_open, is_live, state_of, become, give, enter, leave, connected, new_handle, free_slot, drained, do_shutdown, do_close, close_all, nothing, run}
use Rattle.rules.proofs.Frame.{at_put, field_put, live_open, open_become, open_used, at_enter, given_of, given_enter, none_some, some_inj, unbound_not_listening, given_become, live_given}
use Rattle.rules.proofs.Walk.{Steps, walk}
use Rattle.rules.proofs.Wf.{peer_of, WellFormed, joined, kin, Kin, others_stay, not_yet, steady_give, steady-close_all}
use Rattle.rules.proofs.WfRun.{none_open, kept_run, ends_peer}

pub record Clients (t : Table) : Type 0 where
  -- a server that accept has not returned: its peer, where it is open, has been handed out
  pub clients : (s p : ℕ) → is_open t s ≡ true → given_of t s ≡ false → peer_of (state_of t s) ≡ some p → is_open t p ≡ true → given_of t p ≡ true
  -- 0 is the registry and no socket
  pub born : (g : ℕ) → is_open t g ≡ true → g ≢ 0

-- ── a change that leaves the pairs, and takes no handle back ──

record Tame (t u : Table) : Type 0 where
  opens : (g : ℕ) → is_open u g ≡ true → is_open t g ≡ true
  peers : (g : ℕ) → is_open u g ≡ true → peer_of (state_of u g) ≡ peer_of (state_of t g)
  given : (g : ℕ) → is_open u g ≡ true → given_of t g ≡ true → given_of u g ≡ true

tame_then : {t u v : Table} → Tame t u → Tame u v → Tame t v
tame_then a b =
    record {
      opens = λ g o. a.opens g (b.opens g o);
      peers = λ g o. b.peers g o ∙ a.peers g (b.opens g o);
      given = λ g o e. b.given g o (a.given g (b.opens g o) e);
    }

not_before : (b b' : Bool) → (b ≡ true → b' ≡ true) → b' ≡ false → b ≡ false
not_before true b' f e = sym (f refl) ∙ e
not_before false b' f e = refl

clients_tame : {t u : Table} → Tame t u → Clients t → Clients u
clients_tame {t} {u} a c =
    record {
      clients = λ s p o k e q. a.given p q (c.clients s p (a.opens s o) (not_before _ _ (a.given s o) k) (sym (a.peers s o) ∙ e) (a.opens p q));
      born = λ g o. c.born g (a.opens g o);
    }

tame_become : (t : Table) (h : ℕ) (σ : State) → peer_of σ ≡ peer_of (state_of t h) → Tame t (become t h σ)
unfolding become state_of
tame_become t h σ e =
    record {
      opens = λ g o. sym (open_become t h σ g) ∙ o;
      peers = λ g o. field_put (λ s. peer_of s.state) t (slot_of h) _ (slot_of g) e;
      given = λ g o k. given_become t h σ g ∙ k;
    }

tame_give : (t : Table) (h : ℕ) → Tame t (give t h)
unfolding give given_of
tame_give t h =
    record {
      opens = (steady_give t h).opens;
      peers = (steady_give t h).peers;
      given = λ g o k. ⊎_elim (λ e. ap (λ s. s.given) e.1) (λ e. ap (λ s. s.given) e ∙ k) (at_put t (slot_of h) _ (slot_of g));
    }

-- what is open after a close is the socket that it was
pub close_all-same : (t : Table) (hs : List ℕ) (g : ℕ) → is_open (close_all t hs).next g ≡ true → at (close_all t hs).next (slot_of g) ≡ at t (slot_of g)
unfolding close_all leave
close_all-same t [] g o = refl
close_all-same t (h ∷ hs) g o =
    let e : at (close_all t (h ∷ hs)).next (slot_of g) ≡ at (leave t h) (slot_of g) = close_all-same (leave t h) hs g o in
    ⊎_elim
    (λ z. absurd (false≢true (sym (ap (λ s. s.in_use) (e ∙ z.1)) ∙ open_used (close_all t (h ∷ hs)).next g o)))
    (λ z. e ∙ z)
    (at_put t (slot_of h) _ (slot_of g))

tame-close_all : (t : Table) (hs : List ℕ) → Tame t (close_all t hs).next
unfolding state_of given_of
tame-close_all t hs =
    record {
      opens = (steady-close_all t hs).opens;
      peers = (steady-close_all t hs).peers;
      given = λ g o k. ap (λ s. s.given) (close_all-same t hs g o) ∙ k;
    }

-- ── a new socket ──

new_born : (n i g : ℕ) → g ≡ handle (suc n) i → g ≢ 0
new_born n i g e = omega arith

module _ (t : Table) (w : WellFormed t) (c : Clients t) where
  clients_socket : (i : ℕ) → (at t i).in_use ≡ false → Clients (enter t i true State.Unbound)
  unfolding peer_of
  clients_socket i v =
      let u : Table = enter t i true State.Unbound in
      record {
        clients = λ s p o k e q.
            ⊎_elim
            (λ z. absurd (none_some (sym (ap peer_of z.2) ∙ e)))
            (λ z. let e' : peer_of (state_of t s) ≡ some p = sym (ap peer_of z.1) ∙ e in
            ⊎_elim
            (λ y. absurd (not_yet t w i s p z.0 e' y.0 y.1))
            (λ y. given_enter t i true State.Unbound p v y.0 ∙ c.clients s p z.0 (sym (given_enter t i true State.Unbound s v z.0) ∙ k) e' y.0)
            (at_enter t i true State.Unbound p q))
            (at_enter t i true State.Unbound s o);
        born = λ g o. ⊎_elim (λ z. new_born (at t i).gen i g z.0) (λ z. c.born g z.0) (at_enter t i true State.Unbound g o);
      }

  -- the caller h and a new server point at each other
  module _ (i h : ℕ) (r : i < length t.slots) (v : (at t i).in_use ≡ false) (l : is_live t h ≡ true) (un : state_of t h ≡ State.Unbound) where
    abbrev o : is_open t h ≡ true
    o = live_open t h l

    abbrev j : Table
    j = joined t w i h r v o un

    given_j : (g : ℕ) → is_open t g ≡ true → given_of j g ≡ given_of t g
    unfolding joined
    given_j g a = given_become _ h _ g ∙ given_enter t i false _ g v a

    mine_given : given_of j h ≡ true
    mine_given = given_j h o ∙ live_given t h l

    clients_kin : (s p : ℕ) → Kin t w i h r v o un s → Kin t w i h r v o un p → given_of j s ≡ false → peer_of (state_of j s) ≡ some p → given_of j p ≡ true
    unfolding peer_of
    clients_kin s p (Kin.server a z b) x k e = ap (given_of j) (sym (some_inj (sym (ap peer_of b) ∙ e))) ∙ mine_given
    clients_kin s p (Kin.mine a b) x k e = absurd (true≢false (sym (ap (given_of j) a ∙ mine_given) ∙ k))
    clients_kin s p (Kin.old a b) (Kin.server d z f) k e = absurd (not_yet t w i s p a (sym (ap peer_of b) ∙ e) d z)
    clients_kin s p (Kin.old a b) (Kin.mine d f) k e = ap (given_of j) d ∙ mine_given
    clients_kin s p (Kin.old a b) (Kin.old d f) k e = given_j p d ∙ c.clients s p a (sym (given_j s a) ∙ k) (sym (ap peer_of b) ∙ e) d

    born_kin : (g : ℕ) → Kin t w i h r v o un g → g ≢ 0
    born_kin g (Kin.server a z b) = new_born (at t i).gen i g a
    born_kin g (Kin.mine a b) = λ e. c.born h o (sym a ∙ e)
    born_kin g (Kin.old a b) = c.born g a

    clients_joined : Clients j
    clients_joined = record { clients = λ s p a k e q. clients_kin s p (kin t w i h r v o un s a) (kin t w i h r v o un p q) k e; born = λ g a. born_kin g (kin t w i h r v o un g a) }

  clients_steps : Steps t (λ o. Clients o.next)
  unfolding drained do_shutdown do_close connected new_handle joined peer_of
  clients_steps =
      record {
        refused = λ n. c;
        unchanged = λ v. c;
        socket = λ r v y. clients_socket (free_slot t) v;
        bind = λ h n l e a b f. clients_tame (tame_become t h _ (rw e refl)) c;
        listen = λ h k m l e. clients_tame (tame_become t h _ (rw e refl)) c;
        again = λ h k m b q l e. clients_tame (tame_become t h _ (rw e refl)) c;
        accept = λ h m b s q l e. clients_tame (tame_then (tame_become t h _ (rw e refl)) (tame_give _ s)) c;
        connect = λ h k m b q l un o e f r v y.
            clients_tame
            (tame_become (joined t w (free_slot t) h r v (live_open t h l) un) k _ (rw (others_stay t w (free_slot t) h r v (live_open t h l) un k o (λ z. unbound_not_listening (sym z ∙ e)), e) refl))
            (clients_joined (free_slot t) h r v l un);
        read = λ h k m p i x y l e n. clients_tame (tame_become t h _ (rw e refl)) c;
        write = λ h p i x y new its o e r f g. clients_tame (tame_become t p _ (rw e refl)) c;
        shutdown = λ h p i x y rd wr l e.
            let u : Table = become t h (State.Connected p (cond rd nothing i) (x || rd) (y || wr)) in
            let mine : Tame t u = tame_become t h _ (rw e refl) in
            cond_both Clients (is_open t p)
            (λ _. clients_tame (tame_then mine (tame_become u p _ (ends_peer wr rd (state_of u p)))) c)
            (λ _. clients_tame mine c);
        close = λ h l. clients_tame (tame-close_all t _) c;
      }

  pub clients_run : (y : Call) → Clients (run t y).next
  clients_run y = walk t w.sized (λ o. Clients o.next) clients_steps y

-- ── reachable tables ──

pub clients_fresh : (n c : ℕ) → Clients (fresh n c)
clients_fresh n c = record { clients = λ s p o k e q. absurd (none_open n c s o); born = λ g o. absurd (none_open n c g o) }

pub clients_after : (t : Table) (cs : List Call) → WellFormed t → Clients t → Clients (after t cs)
unfolding after
clients_after t [] w c = c
clients_after t (y ∷ cs) w c = clients_after (run t y).next cs (kept_run t w y) (clients_run t w c y)
