-- A call at a handle, once the handle has been asked and its slot loaded.
use mathlib.Core.Path.{◌≡◌, refl, sym, ap, ◌∙◌}
use mathlib.Core.Logic.{◌≢◌}
use mathlib.Core.Bool.{Bool, false, not}
use mathlib.Core.List.{List}
use Prim.Native.Nat.{ℕ, ◌<◌}
use native.Mathlib.Omega.{arith}
use Rattle.rules.specs.Table as model
use Rattle.rules.specs.Table.{Table, at, put, slot_of, become}
use Rattle.storage.specs.Cells.{cell_at, state_of}
use Rattle.storage.specs.Rows.{Store, Row, row_at}
use Rattle.storage.specs.View.{view, show_in}
use Rattle.storage.specs.Finding.{live_in}
use Rattle.storage.specs.declared.Slot.{Slot}
use Rattle.storage.specs.declared.State.{State}
use Rattle.storage.specs.declared.State.TheVariants.{Closed, Unbound, Bound, Listening, Connected}
use Rattle.storage.specs.declared.Connection.{Connection}
use Rattle.storage.proofs.Coding.{loaded_at}
use Rattle.storage.proofs.Viewed.{seen}
use Rattle.promise.proofs.Live.{Live, live}

-- slot i of the handle h is of generation g, in the state σ
pub record Called (n c : ℕ) (s : Store) (h i g : ℕ) (σ : State) : Type 0 where
  pub lives : Live n c s h
  pub is_slot : i ≡ slot_of h
  pub within : i < n
  pub gen : (cell_at s.words i).generation ≡ g
  pub state : state_of (cell_at s.words i) ≡ σ
  pub shown : at (view n c s) i ≡ show_in (row_at n c s i) g σ
  pub state_shown : model.state_of (view n c s) h ≡ (show_in (row_at n c s i) g σ).state

pub called : (n c : ℕ) (s : Store) (h : ℕ) (b : Bool) (i : ℕ) (x : Slot) (σ : State) → b ≡ live_in n s.words h → not b ≡ false → i ≡ slot_of h
    → x ≡ loaded_at s.words i → x.state ≡ σ → Called n c s h i x.generation σ
unfolding model.state_of
called n c s h b i x σ eb lv ei ex es =
    let l : Live n c s h = live n c s h b eb lv in
    let hi : i < n = let z = l.within in omega arith in
    let eg : (cell_at s.words i).generation ≡ x.generation = sym (ap (λ (y : Slot). y.generation) ex) in
    let st : state_of (cell_at s.words i) ≡ σ = sym (ap (λ (y : Slot). y.state) ex) ∙ es in
    let sh : at (view n c s) i ≡ show_in (row_at n c s i) x.generation σ = seen n c s i σ hi st ∙ ap (λ (g : ℕ). show_in (row_at n c s i) g σ) eg in
    record {
      lives = l;
      is_slot = ei;
      within = hi;
      gen = eg;
      state = st;
      shown = sh;
      state_shown = ap (λ (j : ℕ). (at (view n c s) j).state) (sym ei) ∙ ap (λ (y : model.Slot). y.state) sh;
    }

-- the same socket in another state
pub become_is : (t : Table) (h i : ℕ) (x : model.Slot) (σ : model.State) → i ≡ slot_of h → at t i ≡ x
    → become t h σ ≡ put t i (record { gen = x.gen; in_use = x.in_use; given = x.given; state = σ })
unfolding become
become_is t h i x σ ei ex =
    ap (λ (j : ℕ). put t j (record { gen = (at t j).gen; in_use = (at t j).in_use; given = (at t j).given; state = σ })) (sym ei)
    ∙ ap (λ (y : model.Slot). put t i (record { gen = y.gen; in_use = y.in_use; given = y.given; state = σ })) ex

-- ── States told apart ──

-- the states that `let State::Connected(..) = .. else` leaves
abbrev pub Unconnected : State → Type 0
Unconnected σ = (k : Connection) → σ ≢ Connected k

pub unconnected : (P : model.State → Type 0) → P model.State.Unbound → ((m : List ℕ) → P (model.State.Bound m)) → ((m : List ℕ) (b : ℕ) (q : List ℕ) → P (model.State.Listening m b q))
    → (r : Row) (g : ℕ) (σ : State) → Unconnected σ → P (show_in r g σ).state
unfolding show_in
unconnected P u d l r g Closed k = u
unconnected P u d l r g Unbound k = u
unconnected P u d l r g (Bound m) k = d _
unconnected P u d l r g (Listening q) k = l _ _ _
unconnected P u d l r g (Connected c) k = absurd (k c refl)
