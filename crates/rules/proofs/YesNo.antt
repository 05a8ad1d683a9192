-- The yes-or-no definition `well_formed` says what the record `Formed` says, both ways. So it is kept by every call, and true of every table that is
-- reached from a fresh one.
use mathlib.Core.Path.{◌≡◌, refl, sym, ap, ◌∙◌, subst}
use mathlib.Core.Logic.{◌≢◌, ⊎_elim, ◌↔◌}
use mathlib.Core.Option.{some}
use Prim.Native.Nat.{ℕ, zero, suc, ◌/◌, ◌≤◌, ◌<◌}
use native.Mathlib.Nat.{not-suc-le-zero}
use native.Mathlib.Omega.{arith}
use native.Mathlib.Decide.{ℕ_discrete}
use mathlib.Core.Bool.{Bool, true, false, cond, not, ◌&&◌, ◌||◌, false≢true, beq}
use mathlib.Core.List.Memᴰ
use mathlib.Core.List.{List, [], ◌∷◌, Memᴰ}
use lib.ListN.{length, get_or-eq_default}
use lib.Dec.{leb, ltb, eqb}
use borrow.Author.Tests.{eq-eqb, ne_eqb, eqb-true, eqb-false, le-leb, leb-true, lt-ltb, ltb-true, not-true}
use Rattle.laws.proofs.Tests.{and_left, and_right, and_three, and_four, less_or, both}
use Rattle.rules.specs.WellFormed.{every, each, implies, alone, named_well, points_at, linked_well, rising, inbox_well, is_pending, queued_in, pending_well, state_well, is_unbound, slot_well, well_formed}
use Rattle.rules.proofs.Model.{Table, Slot, State, Inbox, Group, Call, vacant, fresh, after, slot_of, handle_at, at, is_open, state_of, holds, is_nil, queued, in_range, run}
use Rattle.rules.proofs.Frame.{open_used, open_handle, open_same, open_at, in-range, none_some, some_inj, given_of}
use Rattle.rules.proofs.Wf.{peer_of, name_of, WellFormed, has-name, name_has}
use Rattle.rules.proofs.Ends.{Ends, Inboxes, StateOk, in_of, out_of}
use Rattle.rules.proofs.InboxOk.{InboxOk, Rising}
use Rattle.rules.proofs.Queues.{Queues, Pending, In}
use Rattle.rules.proofs.Shape.{Shape, SlotGood, StateGood, closed_good}
use Rattle.rules.proofs.Counting.{count-mem, once_count, count_once, slot_below, two_slots, some_slot, one_slot}
use Rattle.rules.proofs.Formed.{Formed, few, formed_run, formed_fresh, formed_after}

-- ── Tests over ranges and lists ──

pub every_at : (n : ℕ) (p : ℕ → Bool) (i : ℕ) → every n p ≡ true → i < n → p i ≡ true
unfolding every
every_at zero p i e l = absurd (not-suc-le-zero l)
every_at (suc n) p i e l = go (ℕ_discrete i n) (every_at n p i (and_right (p n) (every n p) e))
  where
    go : Dec (i ≡ n) → (i < n → p i ≡ true) → p i ≡ true
    go (yes z) f = rw z (and_left (p n) (every n p) e)
    go (no z) f = f (omega arith)

pub at_every : (n : ℕ) (p : ℕ → Bool) → ((i : ℕ) → i < n → p i ≡ true) → every n p ≡ true
unfolding every
at_every zero p f = refl
at_every (suc n) p f = rw (f n (omega arith)) (at_every n p (λ i l. f i (omega arith)))

each_at : (xs : List ℕ) (p : ℕ → Bool) (x : ℕ) → each xs p ≡ true → Memᴰ x xs → p x ≡ true
unfolding each
each_at [] p x e m = absurd (Memᴰ.not-nil m)
each_at (y ∷ xs) p x e m = ⊎_elim (λ z. rw z (and_left (p y) _ e)) (λ n. each_at xs p x (and_right (p y) _ e) n) (Memᴰ.cases_cons m)

at_each : (xs : List ℕ) (p : ℕ → Bool) → ((x : ℕ) → Memᴰ x xs → p x ≡ true) → each xs p ≡ true
unfolding each
at_each [] p f = refl
at_each (y ∷ xs) p f = rw (f y (Memᴰ.head refl)) (at_each xs p (λ x m. f x (Memᴰ.tail m)))

pub use_implies : (a b : Bool) → implies a b ≡ true → a ≡ true → b ≡ true
unfolding implies
use_implies true b e h = e
use_implies false b e h = absurd (false≢true h)

pub make_implies : (a b : Bool) → (a ≡ true → b ≡ true) → implies a b ≡ true
unfolding implies
make_implies true b f = f refl
make_implies false b f = refl

beq_true : (a b : Bool) → beq a b ≡ true → a ≡ b
beq_true true true e = refl
beq_true true false e = absurd (false≢true e)
beq_true false true e = absurd (false≢true e)
beq_true false false e = refl

true_beq : (a b : Bool) → a ≡ b → beq a b ≡ true
true_beq a b e = rw e (go b)
  where
    go : (b : Bool) → beq b b ≡ true
    go true = refl
    go false = refl

eqb-not : (m n : ℕ) → not (eqb m n) ≡ true → m ≡ n → ⊥
eqb-not m n e = eqb-false m n (not-true (eqb m n) e)

-- ── An inbox ──

rising_is : (a b : ℕ) (gs : List Group) → rising a b gs ≡ true → Rising a b gs
unfolding rising
rising_is a b [] e = tt
rising_is a b (g ∷ gs) e =
    let l = and_four (not (is_nil g.items)) (leb a g.place) (ltb g.place b) _ e in
    (leb-true a g.place l.1, ltb-true g.place b l.2, not-true _ l.0, rising_is (suc g.place) b gs l.3)

is_rising : (a b : ℕ) (gs : List Group) → Rising a b gs → rising a b gs ≡ true
unfolding rising
is_rising a b [] r = refl
is_rising a b (g ∷ gs) r = rw (r.2, le-leb a g.place r.0, lt-ltb g.place b r.1) (is_rising (suc g.place) b gs r.3)

pub inbox_is : (t : Table) (i : Inbox) → inbox_well t i ≡ true → InboxOk t.capacity i
unfolding inbox_well
inbox_is t i e =
    let l = and_three (leb (length i.bytes) t.capacity) (rising 0 (length i.bytes) i.groups) _ e in
    record { fits = leb-true _ _ l.0; rising = rising_is 0 _ _ l.1; few = leb-true _ _ l.2 }

pub is_inbox : (t : Table) (i : Inbox) → InboxOk t.capacity i → inbox_well t i ≡ true
unfolding inbox_well
is_inbox t i o = rw (le-leb _ _ o.fits, is_rising 0 _ _ o.rising, le-leb _ _ o.few)

-- ── A peer ──

points_peer : (g : ℕ) (c : Bool) (σ : State) → points_at g c σ ≡ true → (peer_of σ ≡ some g) × (in_of σ ≡ c)
unfolding points_at peer_of in_of
points_peer g c State.Unbound e = absurd (false≢true e)
points_peer g c (State.Bound m) e = absurd (false≢true e)
points_peer g c (State.Listening m b q) e = absurd (false≢true e)
points_peer g c (State.Connected p i x y) e = (ap some (eqb-true p g (and_left _ _ e)), beq_true x c (and_right (eqb p g) _ e))

peer_points : (g : ℕ) (c : Bool) (σ : State) → peer_of σ ≡ some g → in_of σ ≡ c → points_at g c σ ≡ true
unfolding points_at peer_of in_of
peer_points g c State.Unbound e k = absurd (none_some e)
peer_points g c (State.Bound m) e k = absurd (none_some e)
peer_points g c (State.Listening m b q) e k = absurd (none_some e)
peer_points g c (State.Connected p i x y) e k = both (eqb p g) (beq x c) (eq-eqb p g (some_inj e)) (true_beq x c k)

-- what `linked_well` says, one by one
record Linked (t : Table) (i p : ℕ) (c : Bool) : Type 0 where
  lived : 1 ≤ p / 65536
  past : p ≤ handle_at t (slot_of p)
  apart : p ≡ handle_at t i → ⊥
  back : is_open t p ≡ true → points_at (handle_at t i) c (state_of t p) ≡ true

linked_is : (t : Table) (i p : ℕ) (c : Bool) → linked_well t i p c ≡ true → Linked t i p c
unfolding linked_well
linked_is t i p c e =
    let l = and_four (leb 1 (p / 65536)) (leb p (handle_at t (slot_of p))) (not (eqb p (handle_at t i))) _ e in
    record { lived = leb-true _ _ l.0; past = leb-true _ _ l.1; apart = eqb-not _ _ l.2; back = use_implies _ _ l.3 }

is_linked : (t : Table) (i p : ℕ) (c : Bool) → Linked t i p c → linked_well t i p c ≡ true
unfolding linked_well
is_linked t i p c l = rw (le-leb _ _ l.lived, le-leb _ _ l.past, ne_eqb _ _ l.apart) (make_implies _ _ l.back)

-- ── Pending servers ──

pending_is : (t : Table) (s : ℕ) → is_pending t s ≡ true → Pending t s
unfolding is_pending given_of
pending_is t s e =
    let l = and_three (is_open t s) (not (at t (slot_of s)).given) _ e in
    record { here = l.0; kept = not-true _ l.1; conn = l.2 }

is-pending : (t : Table) (s : ℕ) → Pending t s → is_pending t s ≡ true
unfolding is_pending given_of
is-pending t s p = rw (p.here, p.kept) p.conn

unbound_is : (σ : State) → is_unbound σ ≡ true → σ ≡ State.Unbound
unfolding is_unbound
unbound_is State.Unbound e = refl
unbound_is (State.Bound m) e = absurd (false≢true e)
unbound_is (State.Listening m b q) e = absurd (false≢true e)
unbound_is (State.Connected p i x y) e = absurd (false≢true e)

-- ── From the test to the propositions ──

module _ (t : Table) (w : well_formed t ≡ true) where
  range : in_range (length t.slots) t.capacity ≡ true
  unfolding well_formed
  range = and_left _ _ w

  slot : (i : ℕ) → i < length t.slots → slot_well t i (at t i) ≡ true
  unfolding well_formed
  slot i h = every_at _ _ i (and_right (in_range (length t.slots) t.capacity) _ w) h

  -- a slot in use
  record Used (i : ℕ) : Type 0 where
    lived : 1 ≤ (at t i).gen
    given : (at t i).given || pending_well t (handle_at t i) ≡ true
    well : state_well t i (at t i).state ≡ true

  used : (i : ℕ) → (at t i).in_use ≡ true → Used i
  unfolding slot_well
  used i u =
      let e = and_right (leb (at t i).gen 4294967295) _ (slot i (in-range t i u)) in
      let l = and_three (leb 1 (at t i).gen) ((at t i).given || pending_well t (handle_at t i)) _ (rw u at e) in
      record { lived = leb-true _ _ l.0; given = l.1; well = l.2 }

  -- an open socket
  well : (g : ℕ) → is_open t g ≡ true → state_well t (slot_of g) (state_of t g) ≡ true
  unfolding state_of
  well g o = (used (slot_of g) (open_used t g o)).well

  -- its peer, its name, its queue, its inbox
  link_of : (i p : ℕ) (σ : State) → state_well t i σ ≡ true → peer_of σ ≡ some p → Linked t i p (out_of σ)
  unfolding state_well peer_of out_of
  link_of i p State.Unbound a e = absurd (none_some e)
  link_of i p (State.Bound m) a e = absurd (none_some e)
  link_of i p (State.Listening m b q) a e = absurd (none_some e)
  link_of i p (State.Connected p' ib x y) a e = subst (λ (k : ℕ). Linked t i k y) (some_inj e) (linked_is t i p' y (and_left _ _ a))

  name-of : (i : ℕ) (n : List ℕ) (σ : State) → state_well t i σ ≡ true → name_of σ ≡ some n → named_well t i n ≡ true
  unfolding state_well name_of
  name-of i n State.Unbound a e = absurd (none_some e)
  name-of i n (State.Bound m) a e = rw (← some_inj e) a
  name-of i n (State.Listening m b q) a e = rw (← some_inj e) (and_left _ _ a)
  name-of i n (State.Connected p ib x y) a e = absurd (none_some e)

  entry_of : (i s : ℕ) (σ : State) → state_well t i σ ≡ true → In s σ → Pending t s
  unfolding state_well queued
  entry_of i s State.Unbound a m = absurd (Memᴰ.not-nil m)
  entry_of i s (State.Bound n) a m = absurd (Memᴰ.not-nil m)
  entry_of i s (State.Listening n b q) a m = pending_is t s (each_at q (is_pending t) s (and_right (named_well t i n) _ a) m)
  entry_of i s (State.Connected p ib x y) a m = absurd (Memᴰ.not-nil m)

  state_ok : (i : ℕ) (σ : State) → state_well t i σ ≡ true → StateOk t.capacity σ
  unfolding state_well
  state_ok i State.Unbound a = tt
  state_ok i (State.Bound m) a = tt
  state_ok i (State.Listening m b q) a = tt
  state_ok i (State.Connected p ib x y) a = inbox_is t ib (and_right (linked_well t i p y) _ a)

  state_good : (i : ℕ) (σ : State) → state_well t i σ ≡ true → StateGood σ
  unfolding state_well named_well
  state_good i State.Unbound a = tt
  state_good i (State.Bound m) a = let l = and_three (leb 1 (length m)) (leb (length m) 255) _ a in (leb-true _ _ l.0, leb-true _ _ l.1)
  state_good i (State.Listening m b q) a = let l = and_three (leb 1 (length m)) (leb (length m) 255) _ (and_left _ _ a) in (leb-true _ _ l.0, leb-true _ _ l.1)
  state_good i (State.Connected p ib x y) a = (linked_is t i p y (and_left _ _ a)).lived

  back_at : (g p : ℕ) → is_open t g ≡ true → peer_of (state_of t g) ≡ some p → is_open t p ≡ true → (peer_of (state_of t p) ≡ some g) × (in_of (state_of t p) ≡ out_of (state_of t g))
  back_at g p o e q =
      let r = points_peer (handle_at t (slot_of g)) (out_of (state_of t g)) (state_of t p) ((link_of (slot_of g) p (state_of t g) (well g o) e).back q) in
      (r.0 ∙ ap some (open_handle t g o), r.1)

  wf : WellFormed t
  unfolding named_well alone holds state_of
  wf =
      record {
        sized = few _ _ range;
        paired = λ g p o e q. (back_at g p o e q).0;
        apart = λ g o e. (link_of (slot_of g) g (state_of t g) (well g o) e).apart (sym (open_handle t g o));
        past = λ g p o e. (link_of (slot_of g) p (state_of t g) (well g o) e).past;
        single = λ g g' n o o' e e'.
            let a = (and_three (leb 1 (length n)) (leb (length n) 255) _ (name-of (slot_of g) n (state_of t g) (well g o) e)).2 in
            open_same t g g' o o'
            (sym
            (eqb-true _ _
            (use_implies _ _
            (every_at _ (λ j. implies (holds n (at t j)) (eqb j (slot_of g))) (slot_of g') a (in-range t (slot_of g') (open_used t g' o')))
            (rw (open_used t g' o', name_has n (state_of t g') e') refl))));
      }

  ends : Ends t
  ends = record { ends = λ g p o e q. sym (back_at g p o e q).1 }

  inboxes : Inboxes t.capacity t
  inboxes = record { capacity = refl; ok = λ g o. state_ok (slot_of g) (state_of t g) (well g o) }

  -- how often a pending server is queued
  counted : (s : ℕ) → is_open t s ≡ true → given_of t s ≡ false → queued_in t (length t.slots) s ≡ 1
  unfolding given_of pending_well
  counted s o g =
      let e = (used (slot_of s) (open_used t s o)).given in
      let p : is_pending t (handle_at t (slot_of s)) && eqb (queued_in t (length t.slots) (handle_at t (slot_of s))) 1 ≡ true = rw g at e in
      rw (← open_handle t s o) (eqb-true _ 1 (and_right (is_pending t (handle_at t (slot_of s))) _ p))

  -- a closed slot
  shut : (i : ℕ) → i < length t.slots → (at t i).in_use ≡ false → ((at t i).given ≡ false) × ((at t i).state ≡ State.Unbound)
  unfolding slot_well
  shut i h u =
      let e = and_right (leb (at t i).gen 4294967295) _ (slot i h) in
      let l : not (at t i).given && is_unbound (at t i).state ≡ true = rw u at e in
      (not-true _ (and_left _ _ l), unbound_is _ (and_right (not (at t i).given) _ l))

  -- a slot with a queue is in use
  queue_used : (i s : ℕ) → i < length t.slots → Memᴰ s (queued (at t i).state) → (at t i).in_use ≡ true
  unfolding queued
  queue_used i s h m = go (at t i).in_use refl
    where
      go : (u : Bool) → (at t i).in_use ≡ u → (at t i).in_use ≡ true
      go true u = u
      go false u = absurd (Memᴰ.not-nil (subst (λ (σ : State). Memᴰ s (queued σ)) (shut i h u).1 m))

  queue_at : (g : ℕ) → queued (state_of t g) ≡ queued (at t (slot_of g)).state
  unfolding state_of
  queue_at g = refl

  -- a server in two queues would be counted twice
  twice : (l l' s : ℕ) → is_open t l ≡ true → is_open t l' ≡ true → In s (state_of t l) → In s (state_of t l') → slot_of l < slot_of l' → ⊥
  unfolding state_of
  twice l l' s o o' m m' h =
      let p = entry_of (slot_of l) s (state_of t l) (well l o) m in
      omega (arith, counted s p.here p.kept, two_slots t s (length t.slots) (slot_of l) (slot_of l') h (in-range t (slot_of l') (open_used t l' o')), count-mem s (queued (state_of t l)) m, count-mem s (queued (state_of t l')) m')

  one : (l l' s : ℕ) → is_open t l ≡ true → is_open t l' ≡ true → In s (state_of t l) → In s (state_of t l') → l ≡ l'
  one l l' s o o' m m' =
      ⊎_elim (λ h. absurd (twice l l' s o o' m m' h))
      (λ h. ⊎_elim (λ k. absurd (twice l' l s o' o m' m k)) (λ k. open_same t l l' o o' (omega arith)) (less_or (slot_of l') (slot_of l)))
      (less_or (slot_of l) (slot_of l'))

  queues : Queues t
  unfolding state_of
  queues =
      record {
        entries = λ l s o m. entry_of (slot_of l) s (state_of t l) (well l o) m;
        owned = λ s o g.
            let r = some_slot t s (length t.slots) (omega (arith, counted s o g)) in
            let u = queue_used r.0 s r.1 r.2 in
            let a = open_at t r.0 (few _ _ range) u in
            record { by = handle_at t r.0; open' = a.1; holds' = subst (λ (k : ℕ). Memᴰ s (queued (at t k).state)) (sym a.0) r.2 };
        one = one;
        once = λ l o. count_once _ (λ s m. let p = entry_of (slot_of l) s (state_of t l) (well l o) m in
            omega (arith, counted s p.here p.kept, slot_below t s (length t.slots) (slot_of l) (in-range t (slot_of l) (open_used t l o))));
      }

  shape : Shape t
  unfolding slot_well
  shape = record { good = λ i. ⊎_elim (inside i) (outside i) (less_or i (length t.slots)) }
    where
      inside : (i : ℕ) → i < length t.slots → SlotGood (at t i)
      inside i h =
          record {
            young = leb-true _ _ (and_left _ _ (slot i h));
            lived = λ u. (used i u).lived;
            shut = λ u. let e = shut i h u in λ k. record { gen = (at t i).gen; in_use = u k; given = e.0 k; state = e.1 k };
            state = cond_both' (at t i).in_use refl;
          }
        where
          cond_both' : (u : Bool) → (at t i).in_use ≡ u → StateGood (at t i).state
          cond_both' true u = state_good i (at t i).state (used i u).well
          cond_both' false u = subst StateGood (sym (shut i h u).1) tt

      outside : (i : ℕ) → length t.slots ≤ i → SlotGood (at t i)
      outside i h = subst SlotGood (sym (get_or-eq_default t.slots vacant h)) (closed_good 0 (omega arith))

  formed : Formed t
  formed = record { range = range; sound = record { wf = wf; queues = queues; ends = ends; inboxes = inboxes }; shape = shape }

-- ── From the propositions to the test ──

module _ (t : Table) (f : Formed t) where
  abbrev ok : WellFormed t
  ok = f.sound.wf

  -- a slot in use, seen as a handle
  open_slot : (i : ℕ) → (at t i).in_use ≡ true → (slot_of (handle_at t i) ≡ i) × (is_open t (handle_at t i) ≡ true)
  open_slot i u = open_at t i ok.sized u

  state_at : (i : ℕ) → (at t i).in_use ≡ true → state_of t (handle_at t i) ≡ (at t i).state
  unfolding state_of
  state_at i u = ap (λ (k : ℕ). (at t k).state) (open_slot i u).0

  given_at : (i : ℕ) → (at t i).in_use ≡ true → given_of t (handle_at t i) ≡ (at t i).given
  unfolding given_of
  given_at i u = ap (λ (k : ℕ). (at t k).given) (open_slot i u).0

  well_named : (i : ℕ) (m : List ℕ) → (at t i).in_use ≡ true → name_of (at t i).state ≡ some m → (1 ≤ length m) × (length m ≤ 255) → named_well t i m ≡ true
  unfolding named_well alone holds
  well_named i m u e l =
      rw (le-leb 1 (length m) l.0, le-leb (length m) 255 l.1)
      (at_every (length t.slots) (λ j. implies (holds m (at t j)) (eqb j i)) λ j h.
      make_implies (holds m (at t j)) (eqb j i) λ k.
      let v = and_left (at t j).in_use _ k in
      let a = open_slot i u in
      let b = open_slot j v in
      eq-eqb j i
      (sym b.0
      ∙ ap slot_of
      (ok.single (handle_at t j) (handle_at t i) m b.1 a.1 (ap name_of (state_at j v) ∙ has-name m _ (and_right (at t j).in_use _ k)) (ap name_of (state_at i u) ∙ e))
      ∙ a.0))

  well_linked : (i p : ℕ) (c : Bool) → (at t i).in_use ≡ true → peer_of (at t i).state ≡ some p → out_of (at t i).state ≡ c → 1 ≤ p / 65536 → linked_well t i p c ≡ true
  well_linked i p c u e k l =
      let a = open_slot i u in
      let pe : peer_of (state_of t (handle_at t i)) ≡ some p = ap peer_of (state_at i u) ∙ e in
      is_linked t i p c
      (record {
        lived = l;
        past = ok.past (handle_at t i) p a.1 pe;
        apart = λ z. ok.apart (handle_at t i) a.1 (pe ∙ ap some z);
        back = λ q. peer_points (handle_at t i) c (state_of t p) (ok.paired (handle_at t i) p a.1 pe q) (sym (f.sound.ends.ends (handle_at t i) p a.1 pe q) ∙ ap out_of (state_at i u) ∙ k);
      })

  well_state : (i : ℕ) → (at t i).in_use ≡ true → (σ : State) → (at t i).state ≡ σ → state_well t i σ ≡ true
  unfolding state_well name_of peer_of out_of queued
  well_state i u State.Unbound e = refl
  well_state i u (State.Bound m) e = well_named i m u (rw e refl) (subst StateGood e (f.shape.good i).state)
  well_state i u (State.Listening m b q) e =
      both (named_well t i m) _ (well_named i m u (rw e refl) (subst StateGood e (f.shape.good i).state))
      (at_each q (is_pending t) (λ s k. is-pending t s (f.sound.queues.entries (handle_at t i) s (open_slot i u).1 (subst (In s) (sym (state_at i u ∙ e)) k))))
  well_state i u (State.Connected p ib x y) e =
      both (linked_well t i p y) _ (well_linked i p y u (rw e refl) (rw e refl) (subst StateGood e (f.shape.good i).state))
      (is_inbox t ib (subst (StateOk t.capacity) (state_at i u ∙ e) (f.sound.inboxes.ok (handle_at t i) (open_slot i u).1)))

  -- the only slot whose queue has s is the one of l
  only : (l s j : ℕ) → is_open t l ≡ true → In s (state_of t l) → Memᴰ s (queued (at t j).state) → slot_of l ≡ j
  unfolding queued
  only l s j o m n = go (at t j).in_use refl
    where
      go : (u : Bool) → (at t j).in_use ≡ u → slot_of l ≡ j
      go true u = ap slot_of (f.sound.queues.one l (handle_at t j) s o (open_slot j u).1 m (subst (In s) (sym (state_at j u)) n)) ∙ (open_slot j u).0
      go false u = absurd (Memᴰ.not-nil (subst (λ (x : Slot). Memᴰ s (queued x.state)) ((f.shape.good j).shut u) n))

  well_pending : (i : ℕ) → (at t i).in_use ≡ true → (at t i).given ≡ false → pending_well t (handle_at t i) ≡ true
  unfolding pending_well state_of
  well_pending i u g =
      let s = handle_at t i in
      let a = open_slot i u in
      let o = f.sound.queues.owned s a.1 (given_at i u ∙ g) in
      let l = o.by in
      let here : slot_of l < length t.slots = in-range t (slot_of l) (open_used t l o.open') in
      let single = once_count s (queued (state_of t l)) (f.sound.queues.once l o.open') o.holds' in
      let other : (j : ℕ) → j ≢ slot_of l → Memᴰ s (queued (at t j).state) → ⊥ = λ j n m. n (sym (only l s j o.open' o.holds' m)) in
      both (is_pending t s) _ (is-pending t s (f.sound.queues.entries l s o.open' o.holds'))
      (eq-eqb _ 1 (one_slot t s (length t.slots) (slot_of l) here single other))

  well_slot : (i : ℕ) → slot_well t i (at t i) ≡ true
  unfolding slot_well is_unbound
  well_slot i = both (leb (at t i).gen 4294967295) _ (le-leb _ _ (f.shape.good i).young) (go (at t i).in_use refl)
    where
      given : (b : Bool) → (at t i).given ≡ b → (at t i).in_use ≡ true → (at t i).given || pending_well t (handle_at t i) ≡ true
      given true e u = rw e refl
      given false e u = rw e (well_pending i u e)

      go : (u : Bool) → (at t i).in_use ≡ u
          → cond (at t i).in_use (leb 1 (at t i).gen && ((at t i).given || pending_well t (handle_at t i)) && state_well t i (at t i).state) (not (at t i).given && is_unbound (at t i).state) ≡ true
      go true u = rw (u, le-leb 1 _ ((f.shape.good i).lived u)) (both _ _ (given (at t i).given refl u) (well_state i u (at t i).state refl))
      go false u = subst (λ (x : Slot). cond x.in_use (leb 1 x.gen && (x.given || pending_well t (handle_at t i)) && state_well t i x.state) (not x.given && is_unbound x.state) ≡ true) (sym ((f.shape.good i).shut u)) refl

  well-formed : well_formed t ≡ true
  unfolding well_formed
  well-formed = both (in_range (length t.slots) t.capacity) _ f.range (at_every _ _ (λ i h. well_slot i))

-- ── The theorems ──

pub agree : (t : Table) → (well_formed t ≡ true) ↔ Formed t
agree t = (formed t, well-formed t)

-- kept by every call
pub kept : (t : Table) (y : Call) → well_formed t ≡ true → well_formed (run t y).next ≡ true
kept t y w = well-formed (run t y).next (formed_run t (formed t w) y)

-- true of the fresh table
pub fresh_well : (n c : ℕ) → in_range n c ≡ true → well_formed (fresh n c) ≡ true
fresh_well n c r = well-formed (fresh n c) (formed_fresh n c r)

-- "Every table reachable from a fresh one is proved well-formed."
pub reachable : (n c : ℕ) → in_range n c ≡ true → (cs : List Call) → well_formed (after (fresh n c) cs) ≡ true
reachable n c r cs = well-formed (after (fresh n c) cs) (formed_after (fresh n c) cs (formed_fresh n c r))
