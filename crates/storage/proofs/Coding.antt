-- Cells and states: what the code leaves at each return, and that a state comes back from its cell.
use mathlib.Core.Path.{◌≡◌, refl, ap, ap₂, ◌∙◌}
use mathlib.Core.Logic.{◌≢◌}
use mathlib.Core.Bool.{Bool, true, false, not}
use mathlib.Core.List.{List}
use Prim.Native.Nat.{ℕ}
use lib.Dec.{eqb}
use borrow.Author.Tests.{ne_eqb}
use Rattle.storage.specs.Cells.{cell_at, state_of, listener_of, connection_of, cell_of, flag}
use Rattle.storage.specs.declared.Cell.{Cell}
use Rattle.storage.specs.declared.Slot.{Slot}
use Rattle.storage.specs.declared.Listener.{Listener}
use Rattle.storage.specs.declared.Connection.{Connection}
use Rattle.storage.specs.declared.State.{State}
use Rattle.storage.specs.declared.State.TheVariants.{Closed, Unbound, Bound, Listening, Connected}

-- ── A tag is one of five ──

module _ (k : Cell) where
  pub says_unbound : k.tag ≡ 1 → Unbound ≡ state_of k
  unfolding state_of
  says_unbound e = rw e

  pub says_bound : k.tag ≡ 2 → Bound k.name ≡ state_of k
  unfolding state_of
  says_bound e = rw e

  pub says_listening : k.tag ≡ 3 → Listening (listener_of k) ≡ state_of k
  unfolding state_of
  says_listening e = rw e

  pub says_connected : (r : Connection) → k.tag ≡ 4 → r ≡ connection_of k → Connected r ≡ state_of k
  unfolding state_of
  says_connected r e z = ap Connected z ∙ rw e

  pub says_closed : k.tag ≢ 1 → k.tag ≢ 2 → k.tag ≢ 3 → k.tag ≢ 4 → Closed ≡ state_of k
  unfolding state_of
  says_closed a b c d = rw (ne_eqb k.tag 1 a, ne_eqb k.tag 2 b, ne_eqb k.tag 3 c, ne_eqb k.tag 4 d)

-- ── load and store ──

-- what `load` answers
abbrev pub loaded_at : List ℕ → ℕ → Slot
loaded_at w i = record { generation = (cell_at w i).generation; state = state_of (cell_at w i) }

-- the slot that was loaded is that of j
module _ (w : List ℕ) {i j : ℕ} {s : Slot} (e : i ≡ j) (z : s ≡ loaded_at w i) where
  pub loaded_generation : s.generation ≡ (cell_at w j).generation
  loaded_generation = ap (λ (x : Slot). x.generation) z ∙ ap (λ (x : ℕ). (cell_at w x).generation) e

  pub loaded_state : s.state ≡ state_of (cell_at w j)
  loaded_state = ap (λ (x : Slot). x.state) z ∙ ap (λ (x : ℕ). state_of (cell_at w x)) e

-- ── There and back ──

set-flag : (b : Bool) → not (eqb (flag b) 0) ≡ b
set-flag true = refl
set-flag false = refl

pub back : (g : ℕ) (σ : State) → state_of (cell_of g σ) ≡ σ
unfolding state_of cell_of
back g Closed = refl
back g Unbound = refl
back g (Bound m) = refl
back g (Listening l) = refl
back g (Connected c) =
    ap₂ (λ (x y : Bool). Connected (record { peer = c.peer; inbox = c.inbox; inbox_closed = x; outbox_closed = y; waits = c.waits; place = c.place }))
    (set-flag c.inbox_closed) (set-flag c.outbox_closed)

pub back_gen : (g : ℕ) (σ : State) → (cell_of g σ).generation ≡ g
unfolding cell_of
back_gen g Closed = refl
back_gen g Unbound = refl
back_gen g (Bound m) = refl
back_gen g (Listening l) = refl
back_gen g (Connected c) = refl

-- ── What a state holds ──

pub listening_inj : {a b : Listener} → Listening a ≡ Listening b → a ≡ b
listening_inj {a} {b} e = ap (of a) e
  where
    of : Listener → State → Listener
    of d Closed = d
    of d Unbound = d
    of d (Bound m) = d
    of d (Listening q) = q
    of d (Connected k) = d

pub connected_inj : {a b : Connection} → Connected a ≡ Connected b → a ≡ b
connected_inj {a} {b} e = ap (of a) e
  where
    of : Connection → State → Connection
    of d Closed = d
    of d Unbound = d
    of d (Bound m) = d
    of d (Listening q) = d
    of d (Connected k) = k
