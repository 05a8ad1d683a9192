-- Queues: where each entry is of a server that says so, and each server stands where it says, each pending server is in one queue, once.
use mathlib.Core.Path.{◌≡◌, refl, sym, ap, ap₂, ◌∙◌, subst}
use mathlib.Core.Logic.{◌≢◌, ◌⊎◌, inl, inr}
use mathlib.Core.Bool.{Bool, true, false, not, ◌&&◌, false≢true}
use mathlib.Core.List.{List, [], ◌∷◌, Memᴰ}
use Prim.Native.Nat.{ℕ, suc, ◌+◌, ◌-◌, ◌≤◌, ◌<◌}
use native.Mathlib.Omega.{arith}
use lib.Dec.{leb, ltb, eqb}
use lib.ListN.{length, get_or}
use borrow.Author.Tests.{lt-ltb, ltb-true, leb-true, eq-eqb, ne_eqb, eqb-true}
use Rattle.laws.proofs.Tests.{and_left, and_right, and_three, less_or, both}
use Rattle.ring.specs.Ring.{place_of, queued}
use Rattle.rules.specs.Table as model
use Rattle.rules.specs.Table.{slot_of, handle, handle_at, at, vacant, is_open}
use Rattle.rules.specs.Ending as ending
use Rattle.rules.specs.WellFormed.{each, is_connected, is_pending, count, queued_in, pending_well}
use Rattle.rules.proofs.Queues.{Once}
use Rattle.rules.proofs.Counting.{once_count, one_slot}
use Rattle.storage.specs.Cells.{cell_at, state_of}
use Rattle.storage.specs.Rows.{Store, row_at, Roomy}
use Rattle.storage.specs.View.{show_in, view}
use Rattle.storage.specs.Finding.{open_in}
use Rattle.storage.specs.declared.State.{State}
use Rattle.storage.specs.declared.State.TheVariants.{Closed, Unbound, Bound, Listening, Connected}
use Rattle.storage.specs.declared.Listener.{Listener}
use Rattle.storage.specs.declared.Connection.{Connection}
use Rattle.storage.proofs.Coding.{connected_inj}
use Rattle.storage.proofs.Viewed.{seen, size_view, at_none, gen_at, open_view}
use Rattle.table.specs.Formed.{queue_in, ahead, stands_at, tied_state}
use Rattle.table.proofs.Links.{mem_index, index-mem, ahead_place, Entry, Entries, place_ahead, queue-length, queue_at}

-- ── Lists ──

at_each : (xs : List ℕ) (p : ℕ → Bool) → ((k : ℕ) → k < length xs → p (get_or xs k 0) ≡ true) → each xs p ≡ true
unfolding each
at_each [] p f = refl
at_each (x ∷ xs) p f = rw (f 0 (omega arith)) (at_each xs p (λ k h. f (suc k) (omega arith)))

-- no element at two indices
once_of : (q : List ℕ) → ((a b : ℕ) → a < length q → b < length q → get_or q a 0 ≡ get_or q b 0 → a ≡ b) → Once q
once_of [] f = tt
once_of (x ∷ q) f = (
  λ m. let r = mem_index m in let z : 0 ≡ suc r.0 = f 0 (suc r.0) (omega arith) (let l = r.1 in omega arith) (sym r.2) in omega arith,
  once_of q (λ a b ha hb e. let z : suc a ≡ suc b = f (suc a) (suc b) (omega arith) (omega arith) e in omega arith),
)

-- ── Where a server stands ──

-- one server, two entries: the same listener, and the same place
same_server : (n : ℕ) (w : List ℕ) (l l' x x' h : ℕ) → Entry n w l x h → Entry n w l' x' h → (l ≡ l') × (x ≡ x')
same_server n w l l' x x' h e e' =
    let k : e.server ≡ e'.server = connected_inj (sym e.is_server ∙ e'.is_server) in
    let a : e.server.waits ≡ e'.server.waits = ap (λ (y : Connection). y.waits) k in
    let b = e.waits_there in
    let d = e'.waits_there in
    (omega arith, sym e.stands_there ∙ ap (λ (y : Connection). y.place) k ∙ e'.stands_there)

record Stands (n x h : ℕ) (queue : List ℕ) (σ : State) : Type 0 where
  listener : Listener
  listens : σ ≡ Listening listener
  in_ring : x < n
  in_queue : ahead n listener.head x < listener.pending
  is_there : get_or queue x 0 ≡ h

stands : (n x h : ℕ) (queue : List ℕ) (σ : State) → stands_at n x h queue σ ≡ true → Stands n x h queue σ
unfolding stands_at
stands n x h queue Closed e = absurd (false≢true e)
stands n x h queue Unbound e = absurd (false≢true e)
stands n x h queue (Bound m) e = absurd (false≢true e)
stands n x h queue (Listening q) e =
    let l = and_three (ltb x n) (ltb (ahead n q.head x) q.pending) (eqb (get_or queue x 0) h) e in
    record { listener = q; listens = refl; in_ring = ltb-true _ _ l.0; in_queue = ltb-true _ _ l.1; is_there = eqb-true _ _ l.2 }
stands n x h queue (Connected k) e = absurd (false≢true e)

module _ (n c : ℕ) (s : Store) (f : Roomy n c s) where
  -- an entry is of a pending server
  entry_pending : (l x h : ℕ) → Entry n s.words l x h → is_pending (view n c s) h ≡ true
  unfolding is_pending is_connected model.state_of open_in show_in
  entry_pending l x h e =
      let seen' : at (view n c s) (slot_of h) ≡ show_in (row_at n c s (slot_of h)) (cell_at s.words (slot_of h)).generation (Connected e.server) =
      seen n c s (slot_of h) (Connected e.server) e.within e.is_server in
      let op : is_open (view n c s) h ≡ true =
      sym (open_view n c s h) ∙ rw (lt-ltb (slot_of h) n e.within, eq-eqb (handle (cell_at s.words (slot_of h)).generation (slot_of h)) h e.whole, e.is_server) refl in
      let z = e.waits_there in
      let hid : eqb e.server.waits 0 ≡ false = ne_eqb e.server.waits 0 (λ y. omega arith) in
      ap₂ (λ (b : Bool) (y : model.Slot). b && not y.given && is_connected y.state) op seen' ∙ rw hid refl

  -- the queue of a listener
  module _ (l : ℕ) (q : Listener) (hl : l < n) (hh : q.head < n) (hp : q.pending ≤ n) (en : Entries n s.words l q) where
    abbrev line : List ℕ
    line = queued (queue_in n s.words l) q.head q.pending

    line_long : length line ≡ q.pending
    line_long = queue-length n c s f l q hl hh hp

    line_at : (k : ℕ) → k < q.pending → get_or line k 0 ≡ get_or (queue_in n s.words l) (place_of n (q.head + k)) 0
    line_at k hk = queue_at n c s f l q k hl hh hp hk

    line_entry : (k : ℕ) → k < q.pending → Entry n s.words l (place_of n (q.head + k)) (get_or line k 0)
    line_entry k hk = subst (λ (h : ℕ). Entry n s.words l (place_of n (q.head + k)) h) (sym (line_at k hk)) (en.each k hk)

    pub line_pending : each line (is_pending (view n c s)) ≡ true
    line_pending = at_each line (is_pending (view n c s)) (λ k h. entry_pending l _ _ (line_entry k (omega (arith, line_long))))

    line_once : Once line
    line_once =
        once_of line λ a b ha hb e.
        let ha' : a < q.pending = omega (arith, line_long) in
        let hb' : b < q.pending = omega (arith, line_long) in
        let other : Entry n s.words l (place_of n (q.head + a)) (get_or line b 0) = subst (λ (h : ℕ). Entry n s.words l (place_of n (q.head + a)) h) e (line_entry a ha') in
        let z = (same_server n s.words l l (place_of n (q.head + a)) (place_of n (q.head + b)) (get_or line b 0) other (line_entry b hb')).1 in
        sym (ahead_place n q.head a hh (omega arith)) ∙ ap (ahead n q.head) z ∙ ahead_place n q.head b hh (omega arith)

  -- all listeners
  module _ (ok : (l : ℕ) → l < n → (q : Listener) → state_of (cell_at s.words l) ≡ Listening q → (q.head < n) × (q.pending ≤ n) × Entries n s.words l q) where
    -- what the table's slot j has queued
    lined : (j : ℕ) (q : Listener) → j < n → state_of (cell_at s.words j) ≡ Listening q
        → ending.queued (at (view n c s) j).state ≡ queued (queue_in n s.words j) q.head q.pending
    unfolding ending.queued show_in row_at
    lined j q hj e = ap (λ (y : model.Slot). ending.queued y.state) (seen n c s j (Listening q) hj e)

    queued_entry : (j h : ℕ) → Memᴰ h (ending.queued (at (view n c s) j).state) → (x : ℕ) × Entry n s.words j x h
    unfolding ending.queued show_in
    queued_entry j h m = within (less_or j n)
      where
        none : (y : model.Slot) → ending.queued y.state ≡ [] → at (view n c s) j ≡ y → (x : ℕ) × Entry n s.words j x h
        none y z e = absurd (mathlib.Core.List.Memᴰ.not-nil (subst (Memᴰ h) (ap (λ (v : model.Slot). ending.queued v.state) e ∙ z) m))

        go : (σ : State) → j < n → state_of (cell_at s.words j) ≡ σ → (x : ℕ) × Entry n s.words j x h
        go Closed hj e = none _ refl (seen n c s j Closed hj e)
        go Unbound hj e = none _ refl (seen n c s j Unbound hj e)
        go (Bound z) hj e = none _ refl (seen n c s j (Bound z) hj e)
        go (Listening q) hj e =
            let r = ok j hj q e in
            let ix = mem_index (subst (Memᴰ h) (lined j q hj e) m) in
            let k : ℕ = ix.0 in
            let hk : k < q.pending = let z = ix.1 in omega (arith, line_long j q hj r.0 r.1 r.2) in
            (place_of n (q.head + k), subst (λ (y : ℕ). Entry n s.words j (place_of n (q.head + k)) y) ix.2 (line_entry j q hj r.0 r.1 r.2 k hk))
        go (Connected k) hj e = none _ refl (seen n c s j (Connected k) hj e)

        within : (j < n) ⊎ (n ≤ j) → (x : ℕ) × Entry n s.words j x h
        within (inl hj) = go (state_of (cell_at s.words j)) hj refl
        within (inr hj) = none vacant refl (at_none n c s j hj)

    -- a handle that stands in the queue of slot l is counted once
    counted : (l h : ℕ) (q : Listener) (k : ℕ) → l < n → state_of (cell_at s.words l) ≡ Listening q → k < q.pending
        → get_or (queue_in n s.words l) (place_of n (q.head + k)) 0 ≡ h → pending_well (view n c s) h ≡ true
    unfolding pending_well
    counted l h q k hl e hk at-k =
        let r = ok l hl q e in
        let mine : Entry n s.words l (place_of n (q.head + k)) h = subst (λ (y : ℕ). Entry n s.words l (place_of n (q.head + k)) y) at-k (r.2.each k hk) in
        let here : Memᴰ h (queued (queue_in n s.words l) q.head q.pending) =
        subst (λ (y : ℕ). Memᴰ y (queued (queue_in n s.words l) q.head q.pending)) (line_at l q hl r.0 r.1 r.2 k hk ∙ at-k)
        (index-mem (queued (queue_in n s.words l) q.head q.pending) k (omega (arith, line_long l q hl r.0 r.1 r.2))) in
        let single : count h (ending.queued (at (view n c s) l).state) ≡ 1 =
        ap (count h) (lined l q hl e) ∙ once_count h (queued (queue_in n s.words l) q.head q.pending) (line_once l q hl r.0 r.1 r.2) here in
        let other : (j : ℕ) → j ≢ l → Memᴰ h (ending.queued (at (view n c s) j).state) → ⊥ =
        λ j d m. let y = queued_entry j h m in d (same_server n s.words j l y.0 (place_of n (q.head + k)) h y.1 mine).0 in
        both (is_pending (view n c s) h) (eqb (queued_in (view n c s) (length (view n c s).slots) h) 1) (entry_pending l (place_of n (q.head + k)) h mine)
        (eq-eqb _ 1 (one_slot (view n c s) h (length (view n c s).slots) l (omega (arith, size_view n c s)) single other))

    -- a server that waits
    pub waits_pending : (i : ℕ) (k : Connection) → i < n → k.waits ≢ 0 → tied_state n s.words i (Connected k) ≡ true → pending_well (view n c s) (handle_at (view n c s) i) ≡ true
    unfolding tied_state
    waits_pending i k hi nz e =
        let l : ℕ = k.waits - 1 in
        let me : ℕ = handle (cell_at s.words i).generation i in
        let t : leb k.waits n && stands_at n k.place me (queue_in n s.words l) (state_of (cell_at s.words l)) ≡ true = rw (ne_eqb k.waits 0 nz) at e in
        let hw : k.waits ≤ n = leb-true k.waits n (and_left (leb k.waits n) _ t) in
        let st = stands n k.place me (queue_in n s.words l) (state_of (cell_at s.words l)) (and_right (leb k.waits n) _ t) in
        let q : Listener = st.listener in
        let hl : l < n = omega arith in
        let r = ok l hl q st.listens in
        let back : get_or (queue_in n s.words l) (place_of n (q.head + ahead n q.head k.place)) 0 ≡ handle_at (view n c s) i =
        ap (λ (x : ℕ). get_or (queue_in n s.words l) x 0) (place_ahead n q.head k.place r.0 st.in_ring) ∙ st.is_there
        ∙ ap (λ (g : ℕ). handle g i) (sym (gen_at n c s i hi)) in
        counted l (handle_at (view n c s) i) q (ahead n q.head k.place) hl st.listens st.in_queue back
