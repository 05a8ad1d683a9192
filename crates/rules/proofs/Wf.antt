-- What every reachable table has, as far as demand 3 needs it, and that each call keeps it.
use mathlib.Core.Path.{◌≡◌, refl, sym, ap, ap₂, ◌∙◌}
use mathlib.Core.Logic.{◌≢◌, ◌⊎◌, inl, inr, ⊎_elim}
use mathlib.Core.Option.{Option, none, some}
use Prim.Native.Nat.{ℕ, suc, ◌≤◌, ◌<◌}
use native.Mathlib.Omega.{arith}
use mathlib.Core.Bool.{true, false, false≢true}
use mathlib.Core.List.{List, [], ◌∷◌}
use lib.ListN.{length, length-set}
use lib.Dec.{eqb}
use borrow.Author.Tests.{eq-eqb, eqb-true}
use Rattle.laws.proofs.Tests.{and_left, and_right}
use Rattle.rules.proofs.Model.{Table, State, slot_of, handle, handle_at, at, is_open, state_of, become, give, enter, leave, same, close_all, has_name, holds, holder, nothing}
use Rattle.rules.proofs.Frame.{field_put, open_become, open_give, open_used, open_handle, open_same, open_leave, state_become, enter_open, first_least, slot_handle, size_become, gen_become, size_enter, at_enter, gen_enter, enter_new, state_become_same, some_inj, none_some}

-- the peer, and the name, of a state
unfoldable pub peer_of : State → Option ℕ
peer_of State.Unbound = none
peer_of (State.Bound m) = none
peer_of (State.Listening m b q) = none
peer_of (State.Connected p i x y) = some p

unfoldable pub name_of : State → Option (List ℕ)
name_of State.Unbound = none
name_of (State.Bound m) = some m
name_of (State.Listening m b q) = some m
name_of (State.Connected p i x y) = none

pub record WellFormed (t : Table) : Type 0 where
  -- handles are apart: at most 1,024 slots
  pub sized : length t.slots ≤ 1024
  -- connected pairs point at each other or at a socket already closed
  pub paired : (g p : ℕ) → is_open t g ≡ true → peer_of (state_of t g) ≡ some p → is_open t p ≡ true → peer_of (state_of t p) ≡ some g
  -- and no socket at itself
  pub apart : (g : ℕ) → is_open t g ≡ true → peer_of (state_of t g) ≢ some g
  -- no peer's handle is yet to be given out
  pub past : (g p : ℕ) → is_open t g ≡ true → peer_of (state_of t g) ≡ some p → p ≤ handle_at t (slot_of p)
  -- no name twice
  pub single : (g g' : ℕ) (n : List ℕ) → is_open t g ≡ true → is_open t g' ≡ true → name_of (state_of t g) ≡ some n → name_of (state_of t g') ≡ some n → g ≡ g'

-- ── changes that leave the pairs and the names ──

pub record Steady (t u : Table) : Type 0 where
  pub size : length u.slots ≡ length t.slots
  pub gens : (i : ℕ) → (at u i).gen ≡ (at t i).gen
  pub opens : (g : ℕ) → is_open u g ≡ true → is_open t g ≡ true
  pub peers : (g : ℕ) → is_open u g ≡ true → peer_of (state_of u g) ≡ peer_of (state_of t g)
  pub names : (g : ℕ) → is_open u g ≡ true → name_of (state_of u g) ≡ name_of (state_of t g)

pub wf_steady : {t u : Table} → Steady t u → WellFormed t → WellFormed u
wf_steady {t} {u} s w =
    record {
      sized = rw s.size w.sized;
      paired = λ g p o e q. s.peers p q ∙ w.paired g p (s.opens g o) (sym (s.peers g o) ∙ e) (s.opens p q);
      apart = λ g o e. w.apart g (s.opens g o) (sym (s.peers g o) ∙ e);
      past = λ g p o e. rw (s.gens (slot_of p)) (w.past g p (s.opens g o) (sym (s.peers g o) ∙ e));
      single = λ g g' n o o' e e'. w.single g g' n (s.opens g o) (s.opens g' o') (sym (s.names g o) ∙ e) (sym (s.names g' o') ∙ e');
    }

pub steady_then : {t u v : Table} → Steady t u → Steady u v → Steady t v
steady_then a b =
    record {
      size = b.size ∙ a.size;
      gens = λ i. b.gens i ∙ a.gens i;
      opens = λ g o. a.opens g (b.opens g o);
      peers = λ g o. b.peers g o ∙ a.peers g (b.opens g o);
      names = λ g o. b.names g o ∙ a.names g (b.opens g o);
    }

pub steady_refl : {t : Table} → Steady t t
steady_refl = record { size = refl; gens = λ i. refl; opens = λ g o. o; peers = λ g o. refl; names = λ g o. refl }

-- a new state with the old peer and the old name
pub steady_become : (t : Table) (h : ℕ) (σ : State) → peer_of σ ≡ peer_of (state_of t h) → name_of σ ≡ name_of (state_of t h) → Steady t (become t h σ)
unfolding become state_of
steady_become t h σ p n =
    record {
      size = length-set t.slots (slot_of h) _;
      gens = λ i. field_put (λ s. s.gen) t (slot_of h) _ i refl;
      opens = λ g o. sym (open_become t h σ g) ∙ o;
      peers = λ g o. field_put (λ s. peer_of s.state) t (slot_of h) _ (slot_of g) p;
      names = λ g o. field_put (λ s. name_of s.state) t (slot_of h) _ (slot_of g) n;
    }

pub steady_give : (t : Table) (h : ℕ) → Steady t (give t h)
unfolding give state_of
steady_give t h =
    record {
      size = length-set t.slots (slot_of h) _;
      gens = λ i. field_put (λ s. s.gen) t (slot_of h) _ i refl;
      opens = λ g o. sym (open_give t h g) ∙ o;
      peers = λ g o. field_put (λ s. peer_of s.state) t (slot_of h) _ (slot_of g) refl;
      names = λ g o. field_put (λ s. name_of s.state) t (slot_of h) _ (slot_of g) refl;
    }

steady_leave : (t : Table) (h : ℕ) → Steady t (leave t h)
unfolding leave
steady_leave t h =
    record {
      size = length-set t.slots (slot_of h) _;
      gens = λ i. field_put (λ s. s.gen) t (slot_of h) _ i refl;
      opens = λ g o. (open_leave t h g o).0;
      peers = λ g o. ap peer_of (open_leave t h g o).1;
      names = λ g o. ap name_of (open_leave t h g o).1;
    }

pub steady-close_all : (t : Table) (hs : List ℕ) → Steady t (close_all t hs).next
unfolding close_all
steady-close_all t [] = steady_refl
steady-close_all t (h ∷ hs) = steady_then (steady_leave t h) (steady-close_all (leave t h) hs)

-- ── bind ──

pub same_eq : (xs ys : List ℕ) → same xs ys ≡ true → xs ≡ ys
unfolding same
same_eq [] [] e = refl
same_eq [] (y ∷ ys) e = absurd (false≢true e)
same_eq (x ∷ xs) [] e = absurd (false≢true e)
same_eq (x ∷ xs) (y ∷ ys) e = ap₂ ◌∷◌ (eqb-true x y (and_left (eqb x y) _ e)) (same_eq xs ys (and_right (eqb x y) _ e))

pub same_refl : (xs : List ℕ) → same xs xs ≡ true
unfolding same
same_refl [] = refl
same_refl (x ∷ xs) = rw (eq-eqb x x refl) (same_refl xs)

pub has-name : (n : List ℕ) (σ : State) → has_name n σ ≡ true → name_of σ ≡ some n
unfolding has_name name_of
has-name n State.Unbound e = absurd (false≢true e)
has-name n (State.Bound m) e = ap some (same_eq m n e)
has-name n (State.Listening m b q) e = ap some (same_eq m n e)
has-name n (State.Connected p i x y) e = absurd (false≢true e)

pub name_has : (n : List ℕ) (σ : State) → name_of σ ≡ some n → has_name n σ ≡ true
unfolding has_name name_of
name_has n State.Unbound e = absurd (none_some e)
name_has n (State.Bound m) e = rw (some_inj e) (same_refl n)
name_has n (State.Listening m b q) e = rw (some_inj e) (same_refl n)
name_has n (State.Connected p i x y) e = absurd (none_some e)

-- a socket that has the name is found
pub found : (t : Table) (n : List ℕ) (g : ℕ) → is_open t g ≡ true → name_of (state_of t g) ≡ some n → holds n (at t (holder t n)) ≡ true
unfolding holder holds state_of has_name
found t n g o e = first_least (holds n) t.slots (slot_of g) (rw (open_used t g o, name_has n (state_of t g) e) refl) refl

module _ (t : Table) (h : ℕ) (n : List ℕ) (o : is_open t h ≡ true) (un : state_of t h ≡ State.Unbound) (f : holds n (at t (holder t n)) ≡ false) (w : WellFormed t) where
  -- an open socket after the bind is the one that was bound, or was there before
  bound_or_old : (g : ℕ) → is_open (become t h (State.Bound n)) g ≡ true → ((g ≡ h) × (state_of (become t h (State.Bound n)) g ≡ State.Bound n)) ⊎ (state_of (become t h (State.Bound n)) g ≡ state_of t g)
  bound_or_old g a =
      ⊎_elim (λ e. inl (open_same t g h (sym (open_become t h (State.Bound n) g) ∙ a) o e.0, e.1)) (λ e. inr e) (state_become t h (State.Bound n) g)

  clash : (g : ℕ) (m : List ℕ) → is_open t g ≡ true → name_of (state_of t g) ≡ some m → name_of (State.Bound n) ≡ some m → ⊥
  unfolding name_of
  clash g m a e e' = false≢true (sym f ∙ found t n g a (e ∙ sym e'))

  pub wf_bind : WellFormed (become t h (State.Bound n))
  unfolding state_of peer_of become
  wf_bind =
      let u : Table = become t h (State.Bound n) in
      let peers : (g : ℕ) → peer_of (state_of u g) ≡ peer_of (state_of t g) = λ g. field_put (λ s. peer_of s.state) t (slot_of h) _ (slot_of g) (rw un refl) in
      let opens : (g : ℕ) → is_open u g ≡ true → is_open t g ≡ true = λ g z. sym (open_become t h (State.Bound n) g) ∙ z in
      record {
        sized = rw (size_become t h (State.Bound n)) w.sized;
        paired = λ g p a e q. peers p ∙ w.paired g p (opens g a) (sym (peers g) ∙ e) (opens p q);
        apart = λ g a e. w.apart g (opens g a) (sym (peers g) ∙ e);
        past = λ g p a e. rw (gen_become t h (State.Bound n)) (w.past g p (opens g a) (sym (peers g) ∙ e));
        single = λ g g' m a a' e e'.
            ⊎_elim
            (λ z. ⊎_elim
            (λ z'. z.0 ∙ sym z'.0)
            (λ z'. absurd (clash g' m (opens g' a') (sym (ap name_of z') ∙ e') (sym (ap name_of z.1) ∙ e)))
            (bound_or_old g' a'))
            (λ z. ⊎_elim
            (λ z'. absurd (clash g m (opens g a) (sym (ap name_of z) ∙ e) (sym (ap name_of z'.1) ∙ e')))
            (λ z'. w.single g g' m (opens g a) (opens g' a') (sym (ap name_of z) ∙ e) (sym (ap name_of z') ∙ e'))
            (bound_or_old g' a'))
            (bound_or_old g a);
      }

-- ── a new socket ──

-- no peer's handle is the next one to be given out
module _ (t : Table) (w : WellFormed t) (i : ℕ) where
  pub not_yet : (g p : ℕ) → is_open t g ≡ true → peer_of (state_of t g) ≡ some p → p ≡ handle (suc (at t i).gen) i → slot_of p ≡ i → ⊥
  not_yet g p a e z s = omega (arith, rw s at (w.past g p a e))

module _ (t : Table) (w : WellFormed t) (i : ℕ) where
  pub wf_enter : WellFormed (enter t i true State.Unbound)
  unfolding peer_of name_of
  wf_enter =
      let u : Table = enter t i true State.Unbound in
      record {
        sized = rw (size_enter t i true State.Unbound) w.sized;
        paired = λ g p a e q.
            ⊎_elim
            (λ z. absurd (none_some (sym (ap peer_of z.2) ∙ e)))
            (λ z. ⊎_elim
            (λ y. absurd (not_yet t w i g p z.0 (sym (ap peer_of z.1) ∙ e) y.0 y.1))
            (λ y. ap peer_of y.1 ∙ w.paired g p z.0 (sym (ap peer_of z.1) ∙ e) y.0)
            (at_enter t i true State.Unbound p q))
            (at_enter t i true State.Unbound g a);
        apart = λ g a e.
            ⊎_elim (λ z. none_some (sym (ap peer_of z.2) ∙ e)) (λ z. w.apart g z.0 (sym (ap peer_of z.1) ∙ e)) (at_enter t i true State.Unbound g a);
        past = λ g p a e.
            ⊎_elim
            (λ z. absurd (none_some (sym (ap peer_of z.2) ∙ e)))
            (λ z. omega (arith, gen_enter t i true State.Unbound (slot_of p), w.past g p z.0 (sym (ap peer_of z.1) ∙ e)))
            (at_enter t i true State.Unbound g a);
        single = λ g g' m a a' e e'.
            ⊎_elim
            (λ z. absurd (none_some (sym (ap name_of z.2) ∙ e)))
            (λ z. ⊎_elim
            (λ z'. absurd (none_some (sym (ap name_of z'.2) ∙ e')))
            (λ z'. w.single g g' m z.0 z'.0 (sym (ap name_of z.1) ∙ e) (sym (ap name_of z'.1) ∙ e'))
            (at_enter t i true State.Unbound g' a'))
            (at_enter t i true State.Unbound g a);
      }

-- ── connect ──

-- the caller h and the new server of slot i point at each other
module _ (t : Table) (w : WellFormed t) (i h : ℕ) (l : i < length t.slots) (v : (at t i).in_use ≡ false) (o : is_open t h ≡ true) (un : state_of t h ≡ State.Unbound) where
  abbrev pub s' : ℕ
  s' = handle (suc (at t i).gen) i

  abbrev pub σ₁ : State
  σ₁ = State.Connected h nothing false false

  abbrev pub σ₂ : State
  σ₂ = State.Connected s' nothing false false

  abbrev pub t₁ : Table
  t₁ = enter t i false σ₁

  unfoldable pub joined : Table
  joined = become t₁ h σ₂

  pub data Kin (g : ℕ) : Type 0 where
    server : g ≡ s' → slot_of g ≡ i → state_of joined g ≡ σ₁ → Kin g
    mine : g ≡ h → state_of joined g ≡ σ₂ → Kin g
    old : is_open t g ≡ true → state_of joined g ≡ state_of t g → Kin g

  pub kin : (g : ℕ) → is_open joined g ≡ true → Kin g
  unfolding joined
  kin g a =
      let b : is_open t₁ g ≡ true = sym (open_become t₁ h σ₂ g) ∙ a in
      ⊎_elim
      (λ e. mine (open_same t₁ g h b (enter_open t i false σ₁ h v o).0 e.0) e.1)
      (λ e. ⊎_elim
      (λ z. server z.0 z.1 (e ∙ z.2))
      (λ z. old z.0 (e ∙ z.1))
      (at_enter t i false σ₁ g b))
      (state_become t₁ h σ₂ g)

  pub others_stay : (l : ℕ) → is_open t l ≡ true → state_of t l ≢ State.Unbound → state_of joined l ≡ state_of t l
  unfolding joined
  others_stay l ol d =
      ⊎_elim
      (λ z. absurd (d (ap (state_of t) (open_same t l h ol o z.0) ∙ un)))
      (λ z. z ∙ (enter_open t i false σ₁ l v ol).1)
      (state_become t₁ h σ₂ l)

  pub of_mine : peer_of (state_of joined h) ≡ some s'
  unfolding joined peer_of
  of_mine = ap peer_of (state_become_same t₁ h σ₂ (enter_open t i false σ₁ h v o).0)

  pub of_server : peer_of (state_of joined s') ≡ some h
  unfolding joined peer_of
  of_server =
      ⊎_elim
      (λ e. absurd (false≢true (sym v ∙ ap (λ k. (at t k).in_use) (sym (slot_handle (suc (at t i).gen) i (omega (arith, w.sized))) ∙ e.0) ∙ open_used t h o)))
      (λ e. ap peer_of (e ∙ (enter_new t i false σ₁ w.sized l).1))
      (state_become t₁ h σ₂ s')

  gens_up : (j : ℕ) → (at t j).gen ≤ (at joined j).gen
  unfolding joined
  gens_up j = rw (gen_become t₁ h σ₂ j) (gen_enter t i false σ₁ j)

  open_server : is_open joined s' ≡ true
  unfolding joined
  open_server = open_become t₁ h σ₂ s' ∙ (enter_new t i false σ₁ w.sized l).0

  paired_kin : (g p : ℕ) → Kin g → Kin p → peer_of (state_of joined g) ≡ some p → peer_of (state_of joined p) ≡ some g
  unfolding peer_of
  paired_kin g p (server a s b) k e = cc of_mine
  paired_kin g p (mine a b) k e = cc of_server
  paired_kin g p (old a b) (server c s d) e = absurd (not_yet t w i g p a (sym (ap peer_of b) ∙ e) c s)
  paired_kin g p (old a b) (mine c d) e = absurd (none_some (sym (ap peer_of un) ∙ sym (ap (λ z. peer_of (state_of t z)) c) ∙ w.paired g p a (sym (ap peer_of b) ∙ e) (ap (is_open t) c ∙ o)))
  paired_kin g p (old a b) (old c d) e = ap peer_of d ∙ w.paired g p a (sym (ap peer_of b) ∙ e) c

  not_new : h ≡ s' → ⊥
  not_new e =
      false≢true
      (sym v ∙ ap (λ k. (at t k).in_use) (sym (slot_handle (suc (at t i).gen) i (omega (arith, w.sized))) ∙ ap slot_of (sym e)) ∙ open_used t h o)

  apart_kin : (g : ℕ) → Kin g → peer_of (state_of joined g) ≡ some g → ⊥
  unfolding peer_of
  apart_kin g (server a s b) e = not_new (some_inj (sym (ap peer_of b) ∙ e) ∙ a)
  apart_kin g (mine a b) e = not_new (sym (some_inj (sym (ap peer_of b) ∙ e) ∙ a))
  apart_kin g (old a b) e = w.apart g a (sym (ap peer_of b) ∙ e)

  past_kin : (g p : ℕ) → Kin g → peer_of (state_of joined g) ≡ some p → p ≤ handle_at joined (slot_of p)
  unfolding peer_of
  past_kin g p (server a s b) e = let z : h ≡ p = some_inj (sym (ap peer_of b) ∙ e) in rw (← z) (omega (arith, gens_up (slot_of h), open_handle t h o))
  past_kin g p (mine a b) e = let z : s' ≡ p = some_inj (sym (ap peer_of b) ∙ e) in rw (← z) (omega (arith, open_handle joined s' open_server))
  past_kin g p (old a b) e = omega (arith, gens_up (slot_of p), w.past g p a (sym (ap peer_of b) ∙ e))

  single_kin : (g g' : ℕ) (m : List ℕ) → Kin g → Kin g' → name_of (state_of joined g) ≡ some m → name_of (state_of joined g') ≡ some m → g ≡ g'
  unfolding name_of
  single_kin g g' m (server a s b) k e e' = absurd (none_some (sym (ap name_of b) ∙ e))
  single_kin g g' m (mine a b) k e e' = absurd (none_some (sym (ap name_of b) ∙ e))
  single_kin g g' m (old a b) (server c s d) e e' = absurd (none_some (sym (ap name_of d) ∙ e'))
  single_kin g g' m (old a b) (mine c d) e e' = absurd (none_some (sym (ap name_of d) ∙ e'))
  single_kin g g' m (old a b) (old c d) e e' = w.single g g' m a c (sym (ap name_of b) ∙ e) (sym (ap name_of d) ∙ e')

  pub wf_joined : WellFormed joined
  unfolding joined
  wf_joined =
      record {
        sized = rw (size_become t₁ h σ₂, size_enter t i false σ₁) w.sized;
        paired = λ g p a e q. paired_kin g p (kin g a) (kin p q) e;
        apart = λ g a e. apart_kin g (kin g a) e;
        past = λ g p a e. past_kin g p (kin g a) e;
        single = λ g g' m a a' e e'. single_kin g g' m (kin g a) (kin g' a') e e';
      }
