-- A change of one slot, and the slots that it leaves alone.
use mathlib.Core.Path.{◌≡◌, refl, sym, ap, ap₂, ◌∙◌}
use native.Mathlib.Nat.{not-suc-le-zero, le_of_suc-le-suc}
use mathlib.Core.Option.{none, some}
use mathlib.Core.Logic.{◌≢◌, ◌⊎◌, inl, inr, ⊎_elim}
use Prim.Native.Nat.{ℕ, zero, suc, ◌≤◌, ◌<◌}
use native.Mathlib.Omega.{arith}
use native.Mathlib.Decide.{ℕ_discrete, dec_lt}
use mathlib.Core.Bool.{Bool, true, false, not, ◌&&◌, false≢true}
use mathlib.Core.List.{List, [], ◌∷◌}
use lib.ListN.{length, get_or, length-set, get_or-eq_default}
use lib.Seq.{get_or-set_same, get_or-set_other, set_out}
use lib.Dec.{eqb}
use borrow.Author.Tests.{eqb-true, eq-eqb, leb-false, ltb-true, not-true}
use Rattle.laws.proofs.Tests.{and_left, and_right, cond_both}
use Rattle.rules.proofs.Model.{Table, Slot, State, vacant, at, put, slot_of, handle, handle_at, is_open, is_live, state_of, become, give, enter, leave, first, is_free, no_slot, free_slot, holds, holder}

-- slot j after slot i was put
pub at_put : (t : Table) (i : ℕ) (s : Slot) (j : ℕ) → ((j ≡ i) × (at (put t i s) j ≡ s)) ⊎ (at (put t i s) j ≡ at t j)
at_put t i s j = go (ℕ_discrete j i) (dec_lt i (length t.slots))
  where
    go : Dec (j ≡ i) → Dec (i < length t.slots) → ((j ≡ i) × (at (put t i s) j ≡ s)) ⊎ (at (put t i s) j ≡ at t j)
    go (yes e) (yes h) = inl (e, rw e (get_or-set_same t.slots i s vacant h))
    go (yes e) (no h) = inr (ap (λ l. get_or l j vacant) (set_out t.slots i s (omega arith)))
    go (no n) d = inr (get_or-set_other t.slots i j s vacant n)

-- a slot in use is a slot of the table
pub in-range : (t : Table) (i : ℕ) → (at t i).in_use ≡ true → i < length t.slots
in-range t i h = go (dec_lt i (length t.slots))
  where
    go : Dec (i < length t.slots) → i < length t.slots
    go (yes l) = l
    go (no n) = absurd (false≢true (sym (ap (λ s. s.in_use) (get_or-eq_default t.slots vacant {n = i} (omega arith))) ∙ h))

pub at_put_same : (t : Table) (i : ℕ) (s : Slot) → i < length t.slots → at (put t i s) i ≡ s
at_put_same t i s h = get_or-set_same t.slots i s vacant h

pub at_put_other : (t : Table) (i : ℕ) (s : Slot) (j : ℕ) → j ≢ i → at (put t i s) j ≡ at t j
at_put_other t i s j n = get_or-set_other t.slots i j s vacant n

-- ── open handles ──

pub open_used : (t : Table) (h : ℕ) → is_open t h ≡ true → (at t (slot_of h)).in_use ≡ true
unfolding is_open
open_used t h e = and_left (at t (slot_of h)).in_use _ e

pub open_handle : (t : Table) (h : ℕ) → is_open t h ≡ true → handle_at t (slot_of h) ≡ h
unfolding is_open
open_handle t h e = eqb-true _ _ (and_right (at t (slot_of h)).in_use _ e)

pub live_open : (t : Table) (h : ℕ) → is_live t h ≡ true → is_open t h ≡ true
unfolding is_live
live_open t h e = and_left (is_open t h) _ e

-- whether h is open is known from the generation and the use of its slot
pub open_by : (t u : Table) (h : ℕ) → (at u (slot_of h)).gen ≡ (at t (slot_of h)).gen → (at u (slot_of h)).in_use ≡ (at t (slot_of h)).in_use → is_open u h ≡ is_open t h
unfolding is_open
open_by t u h g e = rw (g, e) refl

-- what an update of one slot leaves of a slot's field
pub field_put : {A : Type 0} (f : Slot → A) (t : Table) (i : ℕ) (s : Slot) (j : ℕ) → f s ≡ f (at t i) → f (at (put t i s) j) ≡ f (at t j)
field_put f t i s j h = ⊎_elim (λ e. ap f e.1 ∙ h ∙ ap (λ k. f (at t k)) (sym e.0)) (λ e. ap f e) (at_put t i s j)

pub open_become : (t : Table) (h : ℕ) (σ : State) (g : ℕ) → is_open (become t h σ) g ≡ is_open t g
unfolding become
open_become t h σ g =
    open_by t (become t h σ) g (field_put (λ s. s.gen) t (slot_of h) _ (slot_of g) refl) (field_put (λ s. s.in_use) t (slot_of h) _ (slot_of g) refl)

pub open_give : (t : Table) (h g : ℕ) → is_open (give t h) g ≡ is_open t g
unfolding give
open_give t h g =
    open_by t (give t h) g (field_put (λ s. s.gen) t (slot_of h) _ (slot_of g) refl) (field_put (λ s. s.in_use) t (slot_of h) _ (slot_of g) refl)

pub state_give : (t : Table) (h g : ℕ) → state_of (give t h) g ≡ state_of t g
unfolding give state_of
state_give t h g = field_put (λ s. s.state) t (slot_of h) _ (slot_of g) refl

pub state_become : (t : Table) (h : ℕ) (σ : State) (g : ℕ) → ((slot_of g ≡ slot_of h) × (state_of (become t h σ) g ≡ σ)) ⊎ (state_of (become t h σ) g ≡ state_of t g)
unfolding become state_of
state_become t h σ g = ⊎_elim (λ e. inl (e.0, ap (λ s. s.state) e.1)) (λ e. inr (ap (λ s. s.state) e)) (at_put t (slot_of h) _ (slot_of g))

-- two open handles of one slot are one
pub open_same : (t : Table) (g h : ℕ) → is_open t g ≡ true → is_open t h ≡ true → slot_of g ≡ slot_of h → g ≡ h
open_same t g h a b e = sym (open_handle t g a) ∙ ap (handle_at t) e ∙ open_handle t h b

-- after a slot has been left or entered
pub open_leave : (t : Table) (h g : ℕ) → is_open (leave t h) g ≡ true → (is_open t g ≡ true) × (state_of (leave t h) g ≡ state_of t g)
unfolding leave state_of
open_leave t h g o =
    ⊎_elim
    (λ e. absurd (false≢true (sym (ap (λ s. s.in_use) e.1) ∙ open_used (leave t h) g o)))
    (λ e. (sym (open_by t (leave t h) g (ap (λ s. s.gen) e) (ap (λ s. s.in_use) e)) ∙ o, ap (λ s. s.state) e))
    (at_put t (slot_of h) _ (slot_of g))

-- the sockets of the slot that was left are closed, and the others as they were
pub at_leave : (t : Table) (h g : ℕ) → ((slot_of g ≡ slot_of h) × (is_open (leave t h) g ≡ false)) ⊎ ((is_open (leave t h) g ≡ is_open t g) × (state_of (leave t h) g ≡ state_of t g))
unfolding leave state_of is_open
at_leave t h g =
    ⊎_elim
    (λ e. inl (e.0, ap (λ s. s.in_use && eqb (handle s.gen (slot_of g)) g) e.1))
    (λ e. inr (open_by t (leave t h) g (ap (λ s. s.gen) e) (ap (λ s. s.in_use) e), ap (λ s. s.state) e))
    (at_put t (slot_of h) _ (slot_of g))

pub enter_open : (t : Table) (i : ℕ) (b : Bool) (σ : State) (g : ℕ) → (at t i).in_use ≡ false → is_open t g ≡ true → (is_open (enter t i b σ) g ≡ true) × (state_of (enter t i b σ) g ≡ state_of t g)
unfolding enter state_of
enter_open t i b σ g v o =
    let n : slot_of g ≢ i = λ e. false≢true (sym v ∙ ap (λ k. (at t k).in_use) (sym e) ∙ open_used t g o) in
    let e = at_put_other t i _ (slot_of g) n in
    (open_by t (enter t i b σ) g (ap (λ s. s.gen) e) (ap (λ s. s.in_use) e) ∙ o, ap (λ s. s.state) e)

-- ── handles of slots ──

pub slot_handle : (g i : ℕ) → i < 65536 → slot_of (handle g i) ≡ i
slot_handle g i h = omega arith

pub open_at : (t : Table) (i : ℕ) → length t.slots ≤ 1024 → (at t i).in_use ≡ true → (slot_of (handle_at t i) ≡ i) × (is_open t (handle_at t i) ≡ true)
unfolding is_open
open_at t i n e =
    let l : i < length t.slots = in-range t i e in
    let z : slot_of (handle_at t i) ≡ i = slot_handle (at t i).gen i (omega arith) in
    (z, rw (z, e) (eq-eqb (handle_at t i) (handle_at t i) refl))

-- the first slot that passes a test passes it, or there is none
pub first_found : (p : Slot → Bool) (l : List Slot) → (p (get_or l (first p l) vacant) ≡ true) ⊎ (get_or l (first p l) vacant ≡ vacant)
unfolding first
first_found p [] = inr refl
first_found p (s ∷ ss) =
    cond_both (λ n. (p (get_or (s ∷ ss) n vacant) ≡ true) ⊎ (get_or (s ∷ ss) n vacant ≡ vacant)) (p s) (λ e. inl e) (λ _. first_found p ss)

-- and a slot that passes it is not before it
pub first_least : (p : Slot → Bool) (l : List Slot) (i : ℕ) → p (get_or l i vacant) ≡ true → p vacant ≡ false → (p (get_or l (first p l) vacant) ≡ true)
unfolding first
first_least p [] i e v = absurd (false≢true (sym v ∙ e))
first_least p (s ∷ ss) zero e v = cond_both (λ n. p (get_or (s ∷ ss) n vacant) ≡ true) (p s) (λ a. a) (λ a. absurd (false≢true (sym a ∙ e)))
first_least p (s ∷ ss) (suc i) e v = cond_both (λ n. p (get_or (s ∷ ss) n vacant) ≡ true) (p s) (λ a. a) (λ a. first_least p ss i e v)

pub first_passes : (p : Slot → Bool) (l : List Slot) → first p l < length l → p (get_or l (first p l) vacant) ≡ true
unfolding first
first_passes p [] = λ h. absurd (not-suc-le-zero h)
first_passes p (s ∷ ss) =
    cond_both (λ n. n < length (s ∷ ss) → p (get_or (s ∷ ss) n vacant) ≡ true) (p s) (λ e h. e) (λ _ h. first_passes p ss (le_of_suc-le-suc h))

-- ── small facts ──

pub unbound_not_listening : {m : List ℕ} {b : ℕ} {q : List ℕ} → State.Unbound ≡ State.Listening m b q → ⊥
unbound_not_listening {m} {b} {q} e = let z : ◌≡◌ {A = ℕ} 0 1 = cc in omega arith

pub cons-nil : {x : ℕ} {xs : List ℕ} → ◌≡◌ {A = List ℕ} (x ∷ xs) [] → ⊥
cons-nil {x} {xs} e = let z : ◌≡◌ {A = ℕ} 0 1 = cc in omega arith

pub some_inj : {A : Type 0} {a b : A} → some a ≡ some b → a ≡ b
some_inj e = cc

pub none_some : {A : Type 0} {a : A} → none ≡ some a → ⊥
none_some {a} e = let z : ◌≡◌ {A = ℕ} 0 1 = cc in omega arith

-- the slot that a new socket takes is not in use
pub free_at : (t : Table) → no_slot t ≡ false → is_free (at t (free_slot t)) ≡ true
unfolding no_slot free_slot
free_at t e = first_passes is_free t.slots (leb-false _ _ e)

pub free_young : (t : Table) → no_slot t ≡ false → (at t (free_slot t)).gen < 4294967295
unfolding is_free
free_young t e = ltb-true _ _ (and_right (not (at t (free_slot t)).in_use) _ (free_at t e))

pub free_unused : (t : Table) → no_slot t ≡ false → (at t (free_slot t)).in_use ≡ false
unfolding no_slot is_free free_slot
free_unused t e = not-true _ (and_left (not (at t (free_slot t)).in_use) _ (first_passes is_free t.slots (leb-false _ _ e)))

-- the slot that a name leads to is in use, unless it is none
pub found_used : (t : Table) (n : List ℕ) (σ : State) → (at t (holder t n)).state ≡ σ → (σ ≢ State.Unbound) → (at t (holder t n)).in_use ≡ true
unfolding holder holds
found_used t n σ e u =
    ⊎_elim (λ f. and_left (at t (holder t n)).in_use _ f) (λ f. absurd (u (sym e ∙ ap (λ s. s.state) f))) (first_found (holds n) t.slots)

-- the state of a socket that has just been given one
pub state_become_same : (t : Table) (h : ℕ) (σ : State) → is_open t h ≡ true → state_of (become t h σ) h ≡ σ
unfolding become state_of
state_become_same t h σ o = ap (λ s. s.state) (at_put_same t (slot_of h) _ (in-range t (slot_of h) (open_used t h o)))

pub gen_become : (t : Table) (h : ℕ) (σ : State) (i : ℕ) → (at (become t h σ) i).gen ≡ (at t i).gen
unfolding become
gen_become t h σ i = field_put (λ s. s.gen) t (slot_of h) _ i refl

pub size_become : (t : Table) (h : ℕ) (σ : State) → length (become t h σ).slots ≡ length t.slots
unfolding become
size_become t h σ = length-set t.slots (slot_of h) _

-- after a socket has entered slot i
module _ (t : Table) (i : ℕ) (b : Bool) (σ : State) where
  pub at_enter : (g : ℕ) → is_open (enter t i b σ) g ≡ true → ((g ≡ handle (suc (at t i).gen) i) × (slot_of g ≡ i) × (state_of (enter t i b σ) g ≡ σ)) ⊎ ((is_open t g ≡ true) × (state_of (enter t i b σ) g ≡ state_of t g))
  unfolding enter state_of
  at_enter g o =
      ⊎_elim
      (λ e. inl (sym (open_handle (enter t i b σ) g o) ∙ ap₂ handle (ap (λ s. s.gen) e.1) e.0, e.0, ap (λ s. s.state) e.1))
      (λ e. inr (sym (open_by t (enter t i b σ) g (ap (λ s. s.gen) e) (ap (λ s. s.in_use) e)) ∙ o, ap (λ s. s.state) e))
      (at_put t i _ (slot_of g))

  pub gen_enter : (j : ℕ) → (at t j).gen ≤ (at (enter t i b σ) j).gen
  unfolding enter
  gen_enter j =
      ⊎_elim
      (λ e. le_of (ap (λ k. (at t k).gen) e.0) (ap (λ s. s.gen) e.1))
      (λ e. le_eq (ap (λ s. s.gen) e))
      (at_put t i _ j)
    where
      le_of : {a c d : ℕ} → a ≡ c → d ≡ suc c → a ≤ d
      le_of e f = omega arith

      le_eq : {a d : ℕ} → d ≡ a → a ≤ d
      le_eq e = omega arith

  pub size_enter : length (enter t i b σ).slots ≡ length t.slots
  unfolding enter
  size_enter = length-set t.slots i _

  pub enter_new : length t.slots ≤ 1024 → i < length t.slots → (is_open (enter t i b σ) (handle (suc (at t i).gen) i) ≡ true) × (state_of (enter t i b σ) (handle (suc (at t i).gen) i) ≡ σ)
  unfolding enter state_of is_open
  enter_new n l =
      let z : slot_of (handle (suc (at t i).gen) i) ≡ i = slot_handle (suc (at t i).gen) i (omega arith) in
      let e = at_put_same t i (record { gen = suc (at t i).gen; in_use = true; given = b; state = σ }) l in
      (rw (z, e) (eq-eqb (handle (suc (at t i).gen) i) _ refl), ap (λ k. (at (enter t i b σ) k).state) z ∙ ap (λ s. s.state) e)

unfoldable pub given_of : Table → ℕ → Bool
given_of t h = (at t (slot_of h)).given

pub live_given : (t : Table) (h : ℕ) → is_live t h ≡ true → given_of t h ≡ true
unfolding is_live given_of
live_given t h e = and_right (is_open t h) _ e

pub given_become : (t : Table) (h : ℕ) (σ : State) (g : ℕ) → given_of (become t h σ) g ≡ given_of t g
unfolding become given_of
given_become t h σ g = field_put (λ s. s.given) t (slot_of h) _ (slot_of g) refl

pub given_enter : (t : Table) (i : ℕ) (b : Bool) (σ : State) (g : ℕ) → (at t i).in_use ≡ false → is_open t g ≡ true → given_of (enter t i b σ) g ≡ given_of t g
unfolding enter given_of
given_enter t i b σ g v o =
    ap (λ s. s.given) (at_put_other t i _ (slot_of g) (λ e. false≢true (sym v ∙ ap (λ k. (at t k).in_use) (sym e) ∙ open_used t g o)))

pub given_new : (t : Table) (i : ℕ) (b : Bool) (σ : State) → length t.slots ≤ 1024 → i < length t.slots → given_of (enter t i b σ) (handle (suc (at t i).gen) i) ≡ b
unfolding enter given_of
given_new t i b σ n l =
    ap (λ k. (at (enter t i b σ) k).given) (slot_handle (suc (at t i).gen) i (omega arith)) ∙ ap (λ s. s.given) (at_put_same t i _ l)

-- ── by handles: the socket that was changed, or another one ──

pub slots_apart : (t : Table) (g h : ℕ) → is_open t g ≡ true → is_open t h ≡ true → g ≢ h → slot_of g ≢ slot_of h
slots_apart t g h a b n e = n (open_same t g h a b e)

pub become_at : (t : Table) (h : ℕ) (σ : State) (g : ℕ) → is_open t h ≡ true → is_open t g ≡ true → ((g ≡ h) × (state_of (become t h σ) g ≡ σ)) ⊎ ((g ≢ h) × (state_of (become t h σ) g ≡ state_of t g))
unfolding become state_of
become_at t h σ g o a = go (ℕ_discrete g h)
  where
    go : Dec (g ≡ h) → ((g ≡ h) × (state_of (become t h σ) g ≡ σ)) ⊎ ((g ≢ h) × (state_of (become t h σ) g ≡ state_of t g))
    go (yes e) = inl (e, ap (state_of (become t h σ)) e ∙ state_become_same t h σ o)
    go (no n) = inr (n, ap (λ s. s.state) (at_put_other t (slot_of h) _ (slot_of g) (slots_apart t g h a o n)))

pub give_at : (t : Table) (h g : ℕ) → is_open t h ≡ true → is_open t g ≡ true → ((g ≡ h) × ((at (give t h) (slot_of g)).given ≡ true)) ⊎ ((g ≢ h) × ((at (give t h) (slot_of g)).given ≡ (at t (slot_of g)).given))
unfolding give
give_at t h g o a = go (ℕ_discrete g h)
  where
    go : Dec (g ≡ h) → ((g ≡ h) × ((at (give t h) (slot_of g)).given ≡ true)) ⊎ ((g ≢ h) × ((at (give t h) (slot_of g)).given ≡ (at t (slot_of g)).given))
    go (yes e) = inl (e, ap (λ k. (at (give t h) (slot_of k)).given) e ∙ ap (λ s. s.given) (at_put_same t (slot_of h) _ (in-range t (slot_of h) (open_used t h o))))
    go (no n) = inr (n, ap (λ s. s.given) (at_put_other t (slot_of h) _ (slot_of g) (slots_apart t g h a o n)))
