-- What holds of each slot by itself: its generation, a closed slot's emptiness, a name's length, a peer's generation. Kept by every call.
use mathlib.Core.Path.{◌≡◌, refl, sym, ◌∙◌, subst}
use mathlib.Core.Logic.{⊎_elim}
use Prim.Native.Nat.{ℕ, ◌/◌, ◌≤◌, ◌<◌}
use native.Mathlib.Omega.{arith}
use mathlib.Core.Bool.{Bool, true, false, cond, ◌||◌, true≢false, false≢true}
use mathlib.Core.List.Memᴰ
use mathlib.Core.List.{List, [], ◌∷◌}
use lib.ListN.{length}
use Rattle.laws.proofs.Tests.{cond_both}
use Rattle.rules.proofs.Model.{Table, Slot, State, Inbox, Call, closed, fresh, at, put, slot_of, is_open, state_of, become, give, enter, leave, connected, new_handle, free_slot, drained, close_ends, do_shutdown, do_close, close_all, queued, nothing, run}
use Rattle.rules.proofs.Frame.{at_put, open_used, open_handle, live_open, open_become, enter_open}
use Rattle.rules.proofs.Walk.{Steps, walk}
use Rattle.rules.proofs.Queues.{Queues}
use Rattle.rules.proofs.WfRun.{vacant_all}
use Rattle.rules.proofs.InboxOk.{nil-length}

-- a state's name has 1 to 255 bytes, and its peer lives or has lived
abbrev pub StateGood : State → Type 0
StateGood State.Unbound = Unit {0}
StateGood (State.Bound m) = (1 ≤ length m) × (length m ≤ 255)
StateGood (State.Listening m b q) = (1 ≤ length m) × (length m ≤ 255)
StateGood (State.Connected p i x y) = 1 ≤ p / 65536

pub record SlotGood (s : Slot) : Type 0 where
  pub young : s.gen ≤ 4294967295
  pub lived : s.in_use ≡ true → 1 ≤ s.gen
  pub shut : s.in_use ≡ false → s ≡ closed s.gen
  pub state : StateGood s.state

pub record Shape (t : Table) : Type 0 where
  pub good : (i : ℕ) → SlotGood (at t i)

pub closed_good : (g : ℕ) → g ≤ 4294967295 → SlotGood (closed g)
closed_good g h = record { young = h; lived = λ e. absurd (false≢true e); shut = λ e. refl; state = tt }

-- ── One slot changes ──

shape_put : (t : Table) (i : ℕ) (s : Slot) → Shape t → SlotGood s → Shape (put t i s)
shape_put t i s w g = record { good = λ j. ⊎_elim (λ e. subst SlotGood (sym e.1) g) (λ e. subst SlotGood (sym e) (w.good j)) (at_put t i s j) }

not_shut : {X : Type 0} {b : Bool} → b ≡ true → b ≡ false → X
not_shut p q = absurd (true≢false (sym p ∙ q))

shape_become : (t : Table) (h : ℕ) (σ : State) → is_open t h ≡ true → StateGood σ → Shape t → Shape (become t h σ)
unfolding become
shape_become t h σ o g w =
    let s = w.good (slot_of h) in
    shape_put t (slot_of h) _ w (record { young = s.young; lived = s.lived; shut = not_shut (open_used t h o); state = g })

shape_give : (t : Table) (h : ℕ) → is_open t h ≡ true → Shape t → Shape (give t h)
unfolding give
shape_give t h o w =
    let s = w.good (slot_of h) in
    shape_put t (slot_of h) _ w (record { young = s.young; lived = s.lived; shut = not_shut (open_used t h o); state = s.state })

shape_enter : (t : Table) (i : ℕ) (b : Bool) (σ : State) → (at t i).gen < 4294967295 → StateGood σ → Shape t → Shape (enter t i b σ)
unfolding enter
shape_enter t i b σ y g w = shape_put t i _ w (record { young = y; lived = λ _. omega arith; shut = λ e. absurd (true≢false e); state = g })

shape_leave : (t : Table) (h : ℕ) → Shape t → Shape (leave t h)
unfolding leave
shape_leave t h w = shape_put t (slot_of h) _ w (closed_good _ (w.good (slot_of h)).young)

shape-close_all : (t : Table) (hs : List ℕ) → Shape t → Shape (close_all t hs).next
unfolding close_all
shape-close_all t [] w = w
shape-close_all t (h ∷ hs) w = shape-close_all (leave t h) hs (shape_leave t h w)

-- ── Every call ──

-- the state of an open socket, and its handle's generation
of_state : (t : Table) (h : ℕ) (σ : State) → Shape t → state_of t h ≡ σ → StateGood σ
unfolding state_of
of_state t h σ w e = subst StateGood e (w.good (slot_of h)).state

pub of_open : (t : Table) (h : ℕ) → Shape t → is_open t h ≡ true → 1 ≤ h / 65536
of_open t h w o =
    let g = (w.good (slot_of h)).lived (open_used t h o) in
    let e = open_handle t h o in
    omega arith

ends_good : (a b : Bool) (σ : State) → StateGood σ → StateGood (close_ends a b σ)
unfolding close_ends
ends_good a b State.Unbound g = g
ends_good a b (State.Bound m) g = g
ends_good a b (State.Listening m k q) g = g
ends_good a b (State.Connected p i x y) g = g

module _ (t : Table) (fit : length t.slots ≤ 1024) (w : Shape t) (q : Queues t) where
  made : free_slot t < length t.slots → 1 ≤ new_handle t / 65536
  unfolding new_handle
  made h = omega arith

  connect_good : (h l : ℕ) (m : List ℕ) (b : ℕ) (k : List ℕ) → is_open t h ≡ true → is_open t l ≡ true → state_of t l ≡ State.Listening m b k
      → free_slot t < length t.slots → (at t (free_slot t)).in_use ≡ false → (at t (free_slot t)).gen < 4294967295 → Shape (connected t h l m b k)
  unfolding connected
  connect_good h l m b k o ol e r v y =
      let t₁ = enter t (free_slot t) false (State.Connected h nothing false false) in
      let w₁ = shape_enter t (free_slot t) false (State.Connected h nothing false false) y (of_open t h w o) w in
      let t₂ = become t₁ h (State.Connected (new_handle t) nothing false false) in
      let w₂ = shape_become t₁ h (State.Connected (new_handle t) nothing false false) (enter_open t (free_slot t) false _ h v o).0 (made r) w₁ in
      shape_become t₂ l _ (open_become t₁ h _ l ∙ (enter_open t (free_slot t) false _ l v ol).0) (of_state t l _ w e) w₂

  shut_good : (h p : ℕ) (i : Inbox) (x y rd wr : Bool) → is_open t h ≡ true → state_of t h ≡ State.Connected p i x y → Shape (do_shutdown t h rd wr (State.Connected p i x y)).next
  unfolding do_shutdown state_of
  shut_good h p i x y rd wr o e =
      let u = become t h (State.Connected p (cond rd nothing i) (x || rd) (y || wr)) in
      let v = shape_become t h (State.Connected p (cond rd nothing i) (x || rd) (y || wr)) o (of_state t h _ w e) w in
      cond_both Shape (is_open t p) (λ a. shape_become u p _ (open_become t h _ p ∙ a) (ends_good wr rd _ (v.good (slot_of p)).state) v) (λ a. v)

  steps : Steps t (λ o. Shape o.next)
  unfolding drained do_close queued
  steps =
      record {
        refused = λ n. w;
        unchanged = λ v. w;
        socket = λ r v y. shape_enter t (free_slot t) true State.Unbound y tt w;
        bind = λ h n l e a b f. shape_become t h _ (live_open t h l) (nil-length n a, b) w;
        listen = λ h k m l e. shape_become t h _ (live_open t h l) (of_state t h _ w e) w;
        again = λ h k m b q l e. shape_become t h _ (live_open t h l) (of_state t h _ w e) w;
        accept = λ h m b s r l e.
            shape_give _ s (open_become t h _ s ∙ (q.entries h s (live_open t h l) (rw e (Memᴰ.head refl))).here)
            (shape_become t h _ (live_open t h l) (of_state t h _ w e) w);
        connect = λ h k m b r l un o e f i v y. connect_good h k m b r (live_open t h l) o e i v y;
        read = λ h n m p i x y l e f. shape_become t h _ (live_open t h l) (of_state t h _ w e) w;
        write = λ h p i x y new its o e r f g. shape_become t p _ o (of_state t p _ w e) w;
        shutdown = λ h p i x y rd wr l e. shut_good h p i x y rd wr (live_open t h l) e;
        close = λ h l. shape-close_all t _ w;
      }

  pub shape_run : (y : Call) → Shape (run t y).next
  shape_run y = walk t fit (λ o. Shape o.next) steps y

pub shape_fresh : (n c : ℕ) → Shape (fresh n c)
shape_fresh n c = record { good = λ i. subst SlotGood (sym (vacant_all n i)) (closed_good 0 (omega arith)) }
