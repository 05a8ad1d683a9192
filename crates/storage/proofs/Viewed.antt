-- The table that the storage shows: its slots, a changed row, and what the searches find in it.
use mathlib.Core.Path.{◌≡◌, refl, sym, ap, ap₂, ◌∙◌}
use mathlib.Core.Bool.{Bool, true, false, cond, not, ◌&&◌, false≢true, and_comm}
use mathlib.Core.List.{List, [], ◌∷◌, map}
use Prim.Native.Nat.{ℕ, zero, suc, ◌≤◌, ◌<◌}
use native.Mathlib.Nat.{not-suc-le-zero}
use native.Mathlib.Omega.{arith}
use lib.Dec.{eqb, ltb}
use lib.ListN.{length, take, get_or, set, length-map, get_or-map}
use borrow.Author.Tests.{lt-ltb, le-ltb}
use Rattle.laws.specs.Tab.{tab}
use Rattle.laws.proofs.Tests.{less_or}
use mathlib.Core.Logic.{◌⊎◌, inl, inr}
use Rattle.rules.specs.Table as model
use Rattle.rules.specs.Table.{slot_of, handle, at, put, vacant, is_open, is_live, first, is_free, free_slot, has_name, holds, holder}
use Rattle.storage.specs.Layout.{part, name_base}
use Rattle.storage.specs.Cells.{cell_at, state_of}
use Rattle.storage.specs.Rows.{Store, Row, row_at, rows, blank}
use Rattle.storage.specs.View.{show_in, show, view}
use Rattle.storage.specs.Finding.{least, occupied, waiting, open_in, live_in, free_cell, named, name_length, holds_cell}
use Rattle.storage.specs.declared.State.{State}
use Rattle.storage.specs.declared.State.TheVariants.{Closed, Unbound, Bound, Listening, Connected}
use Rattle.storage.proofs.Framing.{length-rows, row_is}
use Rattle.storage.proofs.Finds.{open_slot, open_used_in}

-- ── Slots ──

pub size_view : (n c : ℕ) (s : Store) → length (view n c s).slots ≡ n
unfolding view
size_view n c s = length-map (rows n c s) show ∙ length-rows n c s

show_blank : show blank ≡ vacant
unfolding show_in state_of
show_blank = refl

pub at_row : (n c : ℕ) (s : Store) (i : ℕ) → at (view n c s) i ≡ show (get_or (rows n c s) i blank)
unfolding view
at_row n c s i = ap (get_or (map show (rows n c s)) i) (sym show_blank) ∙ get_or-map show (rows n c s) i blank

pub at_view : (n c : ℕ) (s : Store) (i : ℕ) → i < n → at (view n c s) i ≡ show (row_at n c s i)
at_view n c s i h = at_row n c s i ∙ ap show (row_is n c s i h)

past_end : {A : Type 0} (l : List A) (i : ℕ) (d : A) → length l ≤ i → get_or l i d ≡ d
past_end [] i d h = refl
past_end (x ∷ l) zero d h = absurd (not-suc-le-zero h)
past_end (x ∷ l) (suc i) d h = past_end l i d (omega arith)

pub at_none : (n c : ℕ) (s : Store) (i : ℕ) → n ≤ i → at (view n c s) i ≡ vacant
at_none n c s i h = past_end (view n c s).slots i vacant (omega (arith, size_view n c s))

map-set : {A B : Type 0} (f : A → B) (l : List A) (i : ℕ) (a : A) → map f (set l i a) ≡ set (map f l) i (f a)
map-set f [] i a = refl
map-set f (x ∷ l) zero a = refl
map-set f (x ∷ l) (suc i) a = ap (λ r. f x ∷ r) (map-set f l i a)

pub put_view : (n c : ℕ) (s s' : Store) (i : ℕ) (r : Row) → rows n c s' ≡ set (rows n c s) i r → view n c s' ≡ put (view n c s) i (show r)
unfolding view
put_view n c s s' i r e = ap (λ (l : List model.Slot). record { capacity = c; slots = l }) (ap (map show) e ∙ map-set show (rows n c s) i r)

-- ── What a slot shows ──

pub shown_gen : (r : Row) (g : ℕ) (σ : State) → (show_in r g σ).gen ≡ g
unfolding show_in
shown_gen r g Closed = refl
shown_gen r g Unbound = refl
shown_gen r g (Bound m) = refl
shown_gen r g (Listening l) = refl
shown_gen r g (Connected k) = refl

pub shown_used : (r : Row) (g : ℕ) (σ : State) → (show_in r g σ).in_use ≡ occupied σ
unfolding show_in
shown_used r g Closed = refl
shown_used r g Unbound = refl
shown_used r g (Bound m) = refl
shown_used r g (Listening l) = refl
shown_used r g (Connected k) = refl

shown_given : (r : Row) (g : ℕ) (σ : State) → occupied σ ≡ true → (show_in r g σ).given ≡ not (waiting σ)
unfolding show_in
shown_given r g Closed e = absurd (false≢true e)
shown_given r g Unbound e = refl
shown_given r g (Bound m) e = refl
shown_given r g (Listening l) e = refl
shown_given r g (Connected k) e = sym (not_not (eqb k.waits 0))
  where
    not_not : (b : Bool) → not (not b) ≡ b
    not_not true = refl
    not_not false = refl

-- ── Handles ──

module _ (n c : ℕ) (s : Store) where
  used_at : (i : ℕ) → i < n → (at (view n c s) i).in_use ≡ occupied (state_of (cell_at s.words i))
  unfolding row_at
  used_at i l = ap (λ (x : model.Slot). x.in_use) (at_view n c s i l) ∙ shown_used (row_at n c s i) (cell_at s.words i).generation (state_of (cell_at s.words i))

  pub gen_at : (i : ℕ) → i < n → (at (view n c s) i).gen ≡ (cell_at s.words i).generation
  unfolding row_at
  gen_at i l = ap (λ (x : model.Slot). x.gen) (at_view n c s i l) ∙ shown_gen (row_at n c s i) (cell_at s.words i).generation (state_of (cell_at s.words i))

  given_at : (i : ℕ) → i < n → occupied (state_of (cell_at s.words i)) ≡ true → (at (view n c s) i).given ≡ not (waiting (state_of (cell_at s.words i)))
  unfolding row_at
  given_at i l o = ap (λ (x : model.Slot). x.given) (at_view n c s i l) ∙ shown_given (row_at n c s i) (cell_at s.words i).generation (state_of (cell_at s.words i)) o

  pub open_view : (h : ℕ) → open_in n s.words h ≡ is_open (view n c s) h
  unfolding open_in is_open
  open_view h = go (less_or (slot_of h) n)
    where
      go : (slot_of h < n) ⊎ (n ≤ slot_of h) → open_in n s.words h ≡ is_open (view n c s) h
      go (inl l) =
          rw (lt-ltb (slot_of h) n l)
          (and_comm (eqb (handle (cell_at s.words (slot_of h)).generation (slot_of h)) h) (occupied (state_of (cell_at s.words (slot_of h))))
          ∙ sym (ap₂ ◌&&◌ (used_at (slot_of h) l) (ap (λ (g : ℕ). eqb (handle g (slot_of h)) h) (gen_at (slot_of h) l))))
      go (inr l) =
          rw (le-ltb (slot_of h) n l) (sym (ap (λ (x : model.Slot). x.in_use && eqb (handle x.gen (slot_of h)) h) (at_none n c s (slot_of h) l)))

  pub live_view : (h : ℕ) → live_in n s.words h ≡ is_live (view n c s) h
  unfolding live_in is_live
  live_view h = go (open_in n s.words h) refl
    where
      go : (b : Bool) → open_in n s.words h ≡ b → live_in n s.words h ≡ is_live (view n c s) h
      go true e =
          let l : slot_of h < n = open_slot n s.words h e in
          let o : occupied (state_of (cell_at s.words (slot_of h))) ≡ true = open_used_in n s.words h e in
          ap₂ ◌&&◌ (open_view h) (sym (given_at (slot_of h) l o))
      go false e = rw e (rw (sym (open_view h) ∙ e))

-- ── Searches ──

first_least : (P : model.Slot → Bool) (m : ℕ) (f : ℕ → Row) → first P (map show (tab m f)) ≡ least m (λ i. P (show (f i)))
unfolding first tab least
first_least P zero f = refl
first_least P (suc m) f = ap (λ (x : ℕ). cond (P (show (f zero))) zero (suc x)) (first_least P m (λ k. f (suc k)))

least_same : (m : ℕ) (p q : ℕ → Bool) → ((i : ℕ) → i < m → p i ≡ q i) → least m p ≡ least m q
unfolding least
least_same zero p q e = refl
least_same (suc m) p q e =
    ap₂ (λ (b : Bool) (x : ℕ). cond b zero (suc x)) (e zero (omega arith)) (least_same m (λ k. p (suc k)) (λ k. q (suc k)) (λ i h. e (suc i) (omega arith)))

shown_free : (r : Row) (g : ℕ) (σ : State) → not (occupied σ) && ltb g 4294967295 ≡ is_free (show_in r g σ)
unfolding is_free show_in
shown_free r g Closed = refl
shown_free r g Unbound = refl
shown_free r g (Bound m) = refl
shown_free r g (Listening l) = refl
shown_free r g (Connected k) = refl

pub shown_holds : (r : Row) (g : ℕ) (σ : State) (m : List ℕ) → named σ && model.same (take (name_length σ) r.room) m ≡ holds m (show_in r g σ)
unfolding holds has_name show_in
shown_holds r g Closed m = refl
shown_holds r g Unbound m = refl
shown_holds r g (Bound z) m = refl
shown_holds r g (Listening l) m = refl
shown_holds r g (Connected k) m = refl

module _ (n c : ℕ) (s : Store) where
  pub free_view : least n (λ i. free_cell (cell_at s.words i)) ≡ free_slot (view n c s)
  unfolding free_slot view rows free_cell row_at
  free_view =
      least_same n (λ i. free_cell (cell_at s.words i)) (λ i. is_free (show (row_at n c s i))) (λ i h. shown_free (row_at n c s i) (cell_at s.words i).generation (state_of (cell_at s.words i)))
      ∙ sym (first_least is_free n (row_at n c s))

  pub holder_view : (m : List ℕ) → least n (λ i. holds_cell (cell_at s.words i) (part (name_base n c i) 255 s.bytes) m) ≡ holder (view n c s) m
  unfolding holder view rows holds_cell row_at
  holder_view m =
      least_same n (λ i. holds_cell (cell_at s.words i) (part (name_base n c i) 255 s.bytes) m) (λ i. holds m (show (row_at n c s i)))
      (λ i h. shown_holds (row_at n c s i) (cell_at s.words i).generation (state_of (cell_at s.words i)) m)
      ∙ sym (first_least (holds m) n (row_at n c s))

-- a slot in a known state
pub seen : (n c : ℕ) (s : Store) (i : ℕ) (σ : State) → i < n → state_of (cell_at s.words i) ≡ σ → at (view n c s) i ≡ show_in (row_at n c s i) (cell_at s.words i).generation σ
unfolding row_at
seen n c s i σ h e = at_view n c s i h ∙ ap (show_in (row_at n c s i) (cell_at s.words i).generation) e
