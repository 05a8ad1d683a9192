-- Each call keeps a table well-formed, and a fresh table is.
use mathlib.Core.Path.{◌≡◌, refl, sym, ap, ◌∙◌}
use Prim.Native.Nat.{ℕ, zero, suc, ◌≤◌, ◌<◌}
use mathlib.Core.Bool.{Bool, true, false, cond, ◌||◌, false≢true}
use mathlib.Core.List.{List, [], ◌∷◌}
use lib.ListN.{length, get_or, replicate, length-replicate}
use Rattle.laws.proofs.Tests.{cond_both}
use Rattle.rules.proofs.Model.{Table, State, Call, vacant, fresh, after, slot_of, at, is_open, state_of, become, free_slot, new_handle, nothing, close_ends, connected, drained, do_shutdown, do_close, run}
use Rattle.rules.proofs.Frame.{live_open, open_used, unbound_not_listening}
use Rattle.rules.proofs.Walk.{Steps, walk}
use Rattle.rules.proofs.Wf.{peer_of, name_of, WellFormed, Steady, wf_steady, steady_then, steady_become, steady_give, steady-close_all, wf_bind, wf_enter, joined, wf_joined, others_stay}

pub ends_peer : (a b : Bool) (σ : State) → peer_of (close_ends a b σ) ≡ peer_of σ
unfolding close_ends peer_of
ends_peer a b State.Unbound = refl
ends_peer a b (State.Bound m) = refl
ends_peer a b (State.Listening m k q) = refl
ends_peer a b (State.Connected p i x y) = refl

ends_name : (a b : Bool) (σ : State) → name_of (close_ends a b σ) ≡ name_of σ
unfolding close_ends name_of
ends_name a b State.Unbound = refl
ends_name a b (State.Bound m) = refl
ends_name a b (State.Listening m k q) = refl
ends_name a b (State.Connected p i x y) = refl

module _ (t : Table) (w : WellFormed t) where
  kept_connect : (h l : ℕ) (m : List ℕ) (b : ℕ) (q : List ℕ) → is_open t h ≡ true → state_of t h ≡ State.Unbound → is_open t l ≡ true → state_of t l ≡ State.Listening m b q
      → free_slot t < length t.slots → (at t (free_slot t)).in_use ≡ false → WellFormed (connected t h l m b q)
  unfolding connected new_handle joined peer_of name_of
  kept_connect h l m b q o un ol e r v =
      let j : Table = joined t w (free_slot t) h r v o un in
      let is : state_of j l ≡ State.Listening m b q = others_stay t w (free_slot t) h r v o un l ol (λ z. unbound_not_listening (sym z ∙ e)) ∙ e in
      wf_steady (steady_become j l _ (rw is refl) (rw is refl)) (wf_joined t w (free_slot t) h r v o un)

  kept_steps : Steps t (λ o. WellFormed o.next)
  unfolding drained do_shutdown do_close peer_of name_of
  kept_steps =
      record {
        refused = λ n. w;
        unchanged = λ v. w;
        socket = λ r v y. wf_enter t w (free_slot t);
        bind = λ h n l e a b f. wf_bind t h n (live_open t h l) e f w;
        listen = λ h k m l e. wf_steady (steady_become t h _ (rw e refl) (rw e refl)) w;
        again = λ h k m b q l e. wf_steady (steady_become t h _ (rw e refl) (rw e refl)) w;
        accept = λ h m b s q l e. wf_steady (steady_then (steady_become t h _ (rw e refl) (rw e refl)) (steady_give _ s)) w;
        connect = λ h k m b q l un o e f r v y. kept_connect h k m b q (live_open t h l) un o e r v;
        read = λ h k m p i x y l e n. wf_steady (steady_become t h _ (rw e refl) (rw e refl)) w;
        write = λ h p i x y new its o e r f g. wf_steady (steady_become t p _ (rw e refl) (rw e refl)) w;
        shutdown = λ h p i x y rd wr l e.
            let mine : Steady t (become t h (State.Connected p (cond rd nothing i) (x || rd) (y || wr))) = steady_become t h _ (rw e refl) (rw e refl) in
            cond_both WellFormed (is_open t p)
            (λ a. wf_steady (steady_then mine (steady_become _ p _ (ends_peer wr rd _) (ends_name wr rd _))) w)
            (λ a. wf_steady mine w);
        close = λ h l. wf_steady (steady-close_all t _) w;
      }

  pub kept_run : (y : Call) → WellFormed (run t y).next
  kept_run y = walk t w.sized (λ o. WellFormed o.next) kept_steps y

-- ── reachable tables ──

pub vacant_all : (n i : ℕ) → get_or (replicate n vacant) i vacant ≡ vacant
vacant_all zero i = refl
vacant_all (suc n) zero = refl
vacant_all (suc n) (suc i) = vacant_all n i

pub none_open : (n c g : ℕ) → is_open (fresh n c) g ≡ true → ⊥
none_open n c g o = false≢true (sym (ap (λ s. s.in_use) (vacant_all n (slot_of g))) ∙ open_used (fresh n c) g o)

pub wf_fresh : (n c : ℕ) → n ≤ 1024 → WellFormed (fresh n c)
wf_fresh n c l =
    record {
      sized = rw (length-replicate n vacant) l;
      paired = λ g p o e q. absurd (none_open n c g o);
      apart = λ g o e. none_open n c g o;
      past = λ g p o e. absurd (none_open n c g o);
      single = λ g g' m o o' e e'. absurd (none_open n c g o);
    }

pub wf_after : (t : Table) (cs : List Call) → WellFormed t → WellFormed (after t cs)
unfolding after
wf_after t [] w = w
wf_after t (c ∷ cs) w = wf_after (run t c).next cs (kept_run t w c)
