-- Queue entries and pending servers. Where each entry is of a server that says so, and the table is well-formed, each server stands where it says.
use mathlib.Core.Path.{◌≡◌, refl, sym, ap, ◌∙◌, subst}
use mathlib.Core.Logic.{◌≢◌, ◌⊎◌, inl, inr}
use mathlib.Core.Bool.{true, false, cond, false≢true}
use mathlib.Core.List.Memᴰ
use mathlib.Core.List.{List, [], ◌∷◌, Memᴰ}
use Prim.Native.Nat.{ℕ, zero, suc, ◌+◌, ◌-◌, ◌≤◌, ◌<◌}
use native.Mathlib.Nat.{not-suc-le-zero}
use native.Mathlib.Decide.{ℕ_discrete as dec_eq}
use native.Mathlib.Omega.{arith}
use lib.Dec.{leb, ltb, eqb}
use lib.ListN.{length, get_or}
use borrow.Author.Tests.{lt-ltb, ltb-true, le-leb, lt-leb, eqb-true, eq-eqb, ne_eqb}
use Rattle.laws.proofs.Tests.{and_three, and_left, and_right, less_or}
use Rattle.ring.specs.Ring.{place_of, queued}
use Rattle.ring.proofs.Queued.{Place, place_in, queued-length, queued_at}
use Rattle.ring.proofs.Copying.{place_is}
use Rattle.rules.specs.Table as model
use Rattle.rules.specs.Table.{slot_of, handle, handle_at, at, is_open}
use Rattle.rules.specs.Ending as ending
use Rattle.rules.proofs.YesNo.{every_at, at_every}
use Rattle.rules.proofs.Frame.{in-range, open_at, open_used, given_of}
use Rattle.rules.proofs.Formed.{Formed}
use Rattle.storage.specs.Layout.{queue_base}
use Rattle.storage.specs.Cells.{cell_at, state_of}
use Rattle.storage.specs.Rows.{Store, row_at, Roomy}
use Rattle.storage.specs.View.{show_in, view}
use Rattle.storage.specs.declared.State.{State}
use Rattle.storage.specs.declared.State.TheVariants.{Closed, Unbound, Bound, Listening, Connected}
use Rattle.storage.specs.declared.Listener.{Listener}
use Rattle.storage.specs.declared.Connection.{Connection}
use Rattle.storage.proofs.Coding.{connected_inj}
use Rattle.storage.proofs.Viewed.{seen, size_view}
use Rattle.storage.proofs.Pasted.{length_part}
use Rattle.storage.proofs.Strides.{row_before}
use Rattle.table.specs.Formed.{queue_in, waits_at, server_well, ahead, stands_at, tied_state, tied}

-- ── Lists ──

pub mem_index : {s : ℕ} {q : List ℕ} → Memᴰ s q → (k : ℕ) × (k < length q) × (get_or q k 0 ≡ s)
mem_index (Memᴰ.head e) = (0, omega arith, sym e)
mem_index (Memᴰ.tail m) = let r = mem_index m in (suc r.0, let z = r.1 in omega arith, r.2)

pub index-mem : (q : List ℕ) (k : ℕ) → k < length q → Memᴰ (get_or q k 0) q
index-mem [] k h = absurd (not-suc-le-zero h)
index-mem (x ∷ q) zero h = Memᴰ.head refl
index-mem (x ∷ q) (suc k) h = Memᴰ.tail (index-mem q k (omega arith))

-- ── Places in a ring of n ──

pub place_ring : (n a k : ℕ) → a < n → k < n → place_of n (a + k) < n
place_ring n a k ha hk = place_in (place_is n (a + k) (place_of n (a + k)) refl) (omega arith)

pub ahead_place : (n a k : ℕ) → a < n → k < n → ahead n a (place_of n (a + k)) ≡ k
unfolding ahead
ahead_place n a k ha hk = go (less_or (a + k) n)
  where
    p : Place n (a + k) (place_of n (a + k))
    p = place_is n (a + k) (place_of n (a + k)) refl

    go : (a + k < n) ⊎ (n ≤ a + k) → cond (leb a (place_of n (a + k))) (place_of n (a + k) - a) (place_of n (a + k) + n - a) ≡ k
    go (inl h) = let e = p.low h in rw (le-leb a (place_of n (a + k)) (omega arith)) (omega arith)
    go (inr h) = let e = p.high h in rw (lt-leb a (place_of n (a + k)) (omega arith)) (omega arith)

pub place_ahead : (n a x : ℕ) → a < n → x < n → place_of n (a + ahead n a x) ≡ x
unfolding ahead
place_ahead n a x ha hx = go (less_or x a)
  where
    go : (x < a) ⊎ (a ≤ x) → place_of n (a + cond (leb a x) (x - a) (x + n - a)) ≡ x
    go (inl h) = rw (lt-leb a x h) (let z = (place_is n (a + (x + n - a)) (place_of n (a + (x + n - a))) refl).high (omega arith) in omega arith)
    go (inr h) = rw (le-leb a x h) (let z = (place_is n (a + (x - a)) (place_of n (a + (x - a))) refl).low (omega arith) in omega arith)

-- ── An entry, and the server that it is of ──

pub record Entry (n : ℕ) (w : List ℕ) (l x h : ℕ) : Type 0 where
  pub within : slot_of h < n
  pub whole : handle (cell_at w (slot_of h)).generation (slot_of h) ≡ h
  pub server : Connection
  pub is_server : state_of (cell_at w (slot_of h)) ≡ Connected server
  pub waits_there : server.waits ≡ l + 1
  pub stands_there : server.place ≡ x

waits_is : (l x : ℕ) (σ : State) → waits_at l x σ ≡ true → (k : Connection) × (σ ≡ Connected k) × (k.waits ≡ l) × (k.place ≡ x)
unfolding waits_at
waits_is l x Closed e = absurd (false≢true e)
waits_is l x Unbound e = absurd (false≢true e)
waits_is l x (Bound m) e = absurd (false≢true e)
waits_is l x (Listening q) e = absurd (false≢true e)
waits_is l x (Connected k) e = (k, refl, eqb-true k.waits l (and_left _ _ e), eqb-true k.place x (and_right (eqb k.waits l) _ e))

pub entry_of : (n : ℕ) (w : List ℕ) (l x h : ℕ) → server_well n w l x h ≡ true → Entry n w l x h
unfolding server_well
entry_of n w l x h e =
    let p = and_three (ltb (slot_of h) n) (eqb (handle (cell_at w (slot_of h)).generation (slot_of h)) h) (waits_at (l + 1) x (state_of (cell_at w (slot_of h)))) e in
    let k = waits_is (l + 1) x (state_of (cell_at w (slot_of h))) p.2 in
    record { within = ltb-true (slot_of h) n p.0; whole = eqb-true _ _ p.1; server = k.0; is_server = k.1; waits_there = k.2; stands_there = k.3 }

pub of_entry : (n : ℕ) (w : List ℕ) (l x h : ℕ) → Entry n w l x h → server_well n w l x h ≡ true
unfolding server_well waits_at
of_entry n w l x h e =
    rw (lt-ltb (slot_of h) n e.within, eq-eqb _ _ e.whole, e.is_server, eq-eqb _ _ e.waits_there, eq-eqb _ _ e.stands_there)

-- all entries of the listener q in slot l
pub record Entries (n : ℕ) (w : List ℕ) (l : ℕ) (q : Listener) : Type 0 where
  pub each : (k : ℕ) → k < q.pending → Entry n w l (place_of n (q.head + k)) (get_or (queue_in n w l) (place_of n (q.head + k)) 0)

pub entries_of : (n : ℕ) (w : List ℕ) (l : ℕ) (q : Listener) → tied_state n w l (Listening q) ≡ true → Entries n w l q
unfolding tied_state
entries_of n w l q e = record { each = λ k h. entry_of n w l _ _ (every_at q.pending _ k e h) }

of_entries : (n : ℕ) (w : List ℕ) (l : ℕ) (q : Listener) → Entries n w l q → tied_state n w l (Listening q) ≡ true
unfolding tied_state
of_entries n w l q e = at_every q.pending _ (λ k h. of_entry n w l _ _ (e.each k h))

stands_true : (n : ℕ) (w : List ℕ) (i : ℕ) (k : Connection) (l x j h : ℕ) (q : Listener) → k.waits ≡ l + 1 → k.place ≡ x → l < n → x < n → ahead n q.head x ≡ j → j < q.pending
    → state_of (cell_at w l) ≡ Listening q → get_or (queue_in n w l) x 0 ≡ h → handle (cell_at w i).generation i ≡ h → tied_state n w i (Connected k) ≡ true
unfolding tied_state stands_at
stands_true n w i k l x j h q ew ex hl hx ea hj el eh em =
    let back : k.waits - 1 ≡ l = omega arith in
    rw (ne_eqb k.waits 0 (λ z. omega arith), le-leb k.waits n (omega arith), back, el, ex, lt-ltb x n hx, ea, lt-ltb j q.pending hj, eh, em, eq-eqb h h refl)

-- ── The queue of a listener ──

module _ (n c : ℕ) (s : Store) (f : Roomy n c s) where
  pub queue_long : (l : ℕ) → l < n → length (queue_in n s.words l) ≡ n
  queue_long l h = let z = f.words in let y = row_before n l n h in length_part (queue_base n l) n s.words (omega arith)

  -- a queue is as long as the listener says
  pub queue-length : (l : ℕ) (q : Listener) → l < n → q.head < n → q.pending ≤ n → length (queued (queue_in n s.words l) q.head q.pending) ≡ q.pending
  queue-length l q hl hh hp = let z = queue_long l hl in queued-length (queue_in n s.words l) q.head (omega arith) q.pending (omega arith)

  -- the entries of a queue, by their places
  pub queue_at : (l : ℕ) (q : Listener) (k : ℕ) → l < n → q.head < n → q.pending ≤ n → k < q.pending
      → get_or (queued (queue_in n s.words l) q.head q.pending) k 0 ≡ get_or (queue_in n s.words l) (place_of n (q.head + k)) 0
  queue_at l q k hl hh hp hk =
      let e = queue_long l hl in
      queued_at (queue_in n s.words l) q.head (omega arith) q.pending k (place_of n (q.head + k)) hk (omega arith) (rw e (place_is n (q.head + k) (place_of n (q.head + k)) refl))

-- ── Each server stands where it says ──

module _ (n c : ℕ) (s : Store) (f : Roomy n c s) (g : Formed (view n c s)) where
  -- an open socket's slot is one of n
  pub open_within : (h : ℕ) → is_open (view n c s) h ≡ true → slot_of h < n
  open_within h o = let z = in-range (view n c s) (slot_of h) (open_used (view n c s) h o) in omega (arith, size_view n c s)

  -- a slot whose table state has a queue is a listener
  listens : (l : ℕ) (x : ℕ) → l < n → Memᴰ x (ending.queued (at (view n c s) l).state) → (q : Listener) × (state_of (cell_at s.words l) ≡ Listening q) × Memᴰ x (queued (queue_in n s.words l) q.head q.pending)
  unfolding ending.queued show_in row_at
  listens l x hl m = go (state_of (cell_at s.words l)) refl
    where
      go : (σ : State) → state_of (cell_at s.words l) ≡ σ → (q : Listener) × (state_of (cell_at s.words l) ≡ Listening q) × Memᴰ x (queued (queue_in n s.words l) q.head q.pending)
      go Closed e = absurd (Memᴰ.not-nil (subst (λ (y : model.Slot). Memᴰ x (ending.queued y.state)) (seen n c s l Closed hl e) m))
      go Unbound e = absurd (Memᴰ.not-nil (subst (λ (y : model.Slot). Memᴰ x (ending.queued y.state)) (seen n c s l Unbound hl e) m))
      go (Bound z) e = absurd (Memᴰ.not-nil (subst (λ (y : model.Slot). Memᴰ x (ending.queued y.state)) (seen n c s l (Bound z) hl e) m))
      go (Listening q) e = (q, e, subst (λ (y : model.Slot). Memᴰ x (ending.queued y.state)) (seen n c s l (Listening q) hl e) m)
      go (Connected k) e = absurd (Memᴰ.not-nil (subst (λ (y : model.Slot). Memᴰ x (ending.queued y.state)) (seen n c s l (Connected k) hl e) m))

  module _ (ok : (l : ℕ) → l < n → (q : Listener) → state_of (cell_at s.words l) ≡ Listening q → (q.head < n) × (q.pending ≤ n) × Entries n s.words l q) where
    -- a waiting server, in slot i
    stands : (i : ℕ) (k : Connection) → i < n → state_of (cell_at s.words i) ≡ Connected k → k.waits ≢ 0 → tied_state n s.words i (Connected k) ≡ true
    unfolding show_in model.state_of given_of
    stands i k hi e nz =
        let mine : at (view n c s) i ≡ show_in (row_at n c s i) (cell_at s.words i).generation (Connected k) = seen n c s i (Connected k) hi e in
        let used : (at (view n c s) i).in_use ≡ true = ap (λ (x : model.Slot). x.in_use) mine in
        let o = open_at (view n c s) i g.sound.wf.sized used in
        let h : ℕ = handle_at (view n c s) i in
        let hid : (at (view n c s) (slot_of h)).given ≡ false = ap (λ (x : ℕ). (at (view n c s) x).given) o.0 ∙ ap (λ (x : model.Slot). x.given) mine ∙ ne_eqb k.waits 0 nz in
        let owner = g.sound.queues.owned h o.1 hid in
        let l : ℕ = slot_of owner.by in
        let hl : l < n = open_within owner.by owner.open' in
        let lis = listens l h hl owner.holds' in
        let q : Listener = lis.0 in
        let r = ok l hl q lis.1 in
        let ix = mem_index lis.2 in
        let j : ℕ = ix.0 in
        let lq = queue-length n c s f l q hl r.0 r.1 in
        let hj : j < q.pending = let z = ix.1 in omega arith in
        let x : ℕ = place_of n (q.head + j) in
        let is_h : get_or (queue_in n s.words l) x 0 ≡ h = sym (queue_at n c s f l q j hl r.0 r.1 hj) ∙ ix.2 in
        let en : Entry n s.words l x h = subst (λ (y : ℕ). Entry n s.words l x y) is_h (r.2.each j hj) in
        let same : k ≡ en.server = connected_inj (sym e ∙ ap (λ (y : ℕ). state_of (cell_at s.words y)) (sym o.0) ∙ en.is_server) in
        let ew : k.waits ≡ l + 1 = ap (λ (y : Connection). y.waits) same ∙ en.waits_there in
        let ex : k.place ≡ x = ap (λ (y : Connection). y.place) same ∙ en.stands_there in
        let gen : (cell_at s.words i).generation ≡ (at (view n c s) i).gen = sym (ap (λ (y : model.Slot). y.gen) mine) in
        let hx : x < n = place_ring n q.head j r.0 (let z = r.1 in omega arith) in
        stands_true n s.words i k l x j h q ew ex hl hx (ahead_place n q.head j r.0 (let z = r.1 in omega arith)) hj lis.1 is_h (ap (λ (y : ℕ). handle y i) gen)

    pub tied_up : (i : ℕ) → i < n → tied n s.words i ≡ true
    unfolding tied tied_state
    tied_up i hi = go (state_of (cell_at s.words i)) refl
      where
        go : (σ : State) → state_of (cell_at s.words i) ≡ σ → tied_state n s.words i σ ≡ true
        go Closed e = refl
        go Unbound e = refl
        go (Bound m) e = refl
        go (Listening q) e = of_entries n s.words i q (ok i hi q e).2
        go (Connected k) e = elim (dec_eq k.waits 0) [ yes z ↦ rw (eq-eqb k.waits 0 z) | no nz ↦ stands i k hi e nz ]
