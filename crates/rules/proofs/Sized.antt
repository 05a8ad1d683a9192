-- No call changes the number of slots or the capacity.
use mathlib.Core.Path.{◌≡◌, refl, ◌∙◌}
use Prim.Native.Nat.{ℕ, ◌≤◌}
use mathlib.Core.Bool.{Bool, true, false}
use mathlib.Core.List.{List, [], ◌∷◌}
use lib.ListN.{length, length-set}
use Rattle.laws.proofs.Tests.{cond_both}
use Rattle.rules.proofs.Model.{Table, Slot, State, Call, put, is_open, become, give, enter, leave, connected, drained, do_shutdown, close_all, do_close, run}
use Rattle.rules.proofs.Walk.{Steps, walk}

pub record Sized (t u : Table) : Type 0 where
  pub size : length u.slots ≡ length t.slots
  pub room : u.capacity ≡ t.capacity

then : {t u v : Table} → Sized t u → Sized u v → Sized t v
then a b = record { size = b.size ∙ a.size; room = b.room ∙ a.room }

here : {t : Table} → Sized t t
here = record { size = refl; room = refl }

one : (t : Table) (i : ℕ) (s : Slot) → Sized t (put t i s)
one t i s = record { size = length-set t.slots i s; room = refl }

pub sized_become : (t : Table) (h : ℕ) (σ : State) → Sized t (become t h σ)
unfolding become
sized_become t h σ = one t _ _

pub sized_give : (t : Table) (h : ℕ) → Sized t (give t h)
unfolding give
sized_give t h = one t _ _

pub sized_enter : (t : Table) (i : ℕ) (b : Bool) (σ : State) → Sized t (enter t i b σ)
unfolding enter
sized_enter t i b σ = one t _ _

sized_leave : (t : Table) (h : ℕ) → Sized t (leave t h)
unfolding leave
sized_leave t h = one t _ _

pub sized-close_all : (t : Table) (hs : List ℕ) → Sized t (close_all t hs).next
unfolding close_all
sized-close_all t [] = here
sized-close_all t (h ∷ hs) = then (sized_leave t h) (sized-close_all (leave t h) hs)

steps : (t : Table) → Steps t (λ o. Sized t o.next)
unfolding connected drained do_shutdown do_close
steps t =
    record {
      refused = λ n. here;
      unchanged = λ v. here;
      socket = λ r v y. sized_enter t _ true State.Unbound;
      bind = λ h n l e a b f. sized_become t h _;
      listen = λ h k m l e. sized_become t h _;
      again = λ h k m b q l e. sized_become t h _;
      accept = λ h m b s q l e. then (sized_become t h _) (sized_give _ s);
      connect = λ h k m b q l un o e f r v y. then (sized_enter t _ false _) (then (sized_become _ h _) (sized_become _ k _));
      read = λ h k m p i x y l e n. sized_become t h _;
      write = λ h p i x y new its o e r f g. sized_become t p _;
      shutdown = λ h p i x y rd wr l e. cond_both (Sized t) (is_open t p) (λ a. then (sized_become t h _) (sized_become _ p _)) (λ a. sized_become t h _);
      close = λ h l. sized-close_all t _;
    }

pub sized_run : (t : Table) → length t.slots ≤ 1024 → (y : Call) → Sized t (run t y).next
sized_run t fit y = walk t fit (λ o. Sized t o.next) (steps t) y
