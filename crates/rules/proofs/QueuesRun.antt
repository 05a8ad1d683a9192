-- Every call keeps `Queues`: the walk of `run`, with a line for each accepted outcome.
use mathlib.Core.Path.{◌≡◌, refl}
use Prim.Native.Nat.{ℕ, ◌≤◌}
use mathlib.Core.Bool.{Bool, true, false, cond, ◌||◌}
use mathlib.Core.List.{List, [], ◌∷◌, ◌++◌}
use lib.ListN.{length}
use Rattle.laws.proofs.Tests.{cond_both}
use Rattle.rules.specs.WellFormed.{is_connected}
use Rattle.rules.proofs.Model.{Table, State, Call, Outcome, fresh, after, is_open, become, connected, new_handle, free_slot, drained, do_shutdown, do_close, close_ends, queued, nothing, run}
use Rattle.rules.proofs.Frame.{live_open, live_given}
use Rattle.rules.proofs.Wf.{WellFormed}
use Rattle.rules.proofs.WfRun.{kept_run, none_open, wf_fresh}
use Rattle.rules.proofs.Walk.{Steps, walk}
use Rattle.rules.proofs.Ends.{Ends, Inboxes, ends_run, in_run}
use Rattle.rules.proofs.Queues.{Queues, Even, queues_even, even_become, even_then, queues_accept, queues_connect, queues_close, queues_socket}

ends_queue : (a b : Bool) (σ : State) → queued (close_ends a b σ) ≡ queued σ
unfolding close_ends queued
ends_queue a b State.Unbound = refl
ends_queue a b (State.Bound m) = refl
ends_queue a b (State.Listening m k q) = refl
ends_queue a b (State.Connected p i x y) = refl

ends_conn : (a b : Bool) (σ : State) → is_connected σ ≡ true → is_connected (close_ends a b σ) ≡ true
unfolding close_ends is_connected
ends_conn a b State.Unbound e = e
ends_conn a b (State.Bound m) e = e
ends_conn a b (State.Listening m k q) e = e
ends_conn a b (State.Connected p i x y) e = e

abbrev QN : Outcome → Type 0
QN o = Queues o.next

steps : (t : Table) → length t.slots ≤ 1024 → Queues t → Steps t QN
unfolding queued is_connected drained do_shutdown do_close connected new_handle
steps t fit q =
    record {
      refused = λ n. q;
      unchanged = λ v. q;
      socket = λ r v y. queues_socket t q (free_slot t) fit r v;
      bind = λ h n l e a b f. queues_even (even_become t h _ (rw e refl) (rw e (λ z. z))) q;
      listen = λ h k m l e. queues_even (even_become t h _ (rw e refl) (rw e (λ z. z))) q;
      again = λ h k m b r l e. queues_even (even_become t h _ (rw e refl) (rw e (λ z. z))) q;
      accept = λ h m b s r l e. queues_accept t q h s r (live_open t h l) (State.Listening m b r) (rw e refl) refl;
      connect = λ h k m b r l un o e f i v z.
          queues_connect t q (free_slot t) h k fit i v (live_open t h l) o (rw un refl) (rw un refl) (rw e refl) (State.Connected h nothing false false)
          (State.Connected _ nothing false false) (State.Listening m b (r ++ _ ∷ [])) refl refl refl (rw e refl);
      read = λ h k m p i x y l e n. queues_even (even_become t h _ (rw e refl) (λ z. refl)) q;
      write = λ h p i x y new its o e r f g. queues_even (even_become t p _ (rw e refl) (λ z. refl)) q;
      shutdown = λ h p i x y rd wr l e.
          let mine : Even t (become t h (State.Connected p (cond rd nothing i) (x || rd) (y || wr))) = even_become t h _ (rw e refl) (λ z. refl) in
          cond_both Queues (is_open t p)
          (λ _. queues_even (even_then mine (even_become _ p _ (ends_queue wr rd _) (ends_conn wr rd _))) q)
          (λ _. queues_even mine q);
      close = λ h l. queues_close t q h (live_open t h l) (live_given t h l);
    }

-- what every reachable table has
pub record Sound (c : ℕ) (t : Table) : Type 0 where
  pub wf : WellFormed t
  pub queues : Queues t
  pub ends : Ends t
  pub inboxes : Inboxes c t

pub sound_run : (c : ℕ) (t : Table) → Sound c t → (y : Call) → Sound c (run t y).next
sound_run c t s y = record { wf = kept_run t s.wf y; ends = ends_run t s.wf s.ends y; inboxes = in_run c t s.wf.sized s.inboxes y; queues = walk t s.wf.sized QN (steps t s.wf.sized s.queues) y }

pub sound_fresh : (n c : ℕ) → n ≤ 1024 → Sound c (fresh n c)
sound_fresh n c l =
    record {
      wf = wf_fresh n c l;
      ends = record { ends = λ g p o k q. absurd (none_open n c g o) };
      inboxes = record { capacity = refl; ok = λ g o. absurd (none_open n c g o) };
      queues =
          record {
            entries = λ g s o m. absurd (none_open n c g o);
            owned = λ s o g. absurd (none_open n c s o);
            one = λ g g' s o o' m m'. absurd (none_open n c g o);
            once = λ g o. absurd (none_open n c g o);
          };
    }

pub sound_after : (c : ℕ) (t : Table) (cs : List Call) → Sound c t → Sound c (after t cs)
unfolding after
sound_after c t [] s = s
sound_after c t (y ∷ cs) s = sound_after c (run t y).next cs (sound_run c t s y)
