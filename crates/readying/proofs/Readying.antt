-- readiness
use mathlib.Core.Path.{◌≡◌, refl, sym, ap, ◌∙◌}
use mathlib.Core.Logic.{◌⊎◌, inl, inr}
use mathlib.Core.Bool.{Bool, true, false, cond, not, ◌&&◌, ◌||◌}
use mathlib.Core.List.{[]}
use Prim.Native.Nat.{ℕ, ◌+◌, ◌<◌}
use native.Mathlib.Omega.{arith}
use lib.Dec.{ltb, eqb}
use lib.ListN.{length}
use borrow.Author.Tests.{eq-eqb, ne_eqb}
use Rattle.ring.specs.Ring.{queued}
use Rattle.inbox.specs.View as inbox
use Rattle.inbox.specs.View.{count}
use Rattle.inbox.proofs.Shows.{length-bytes}
use Rattle.inbox.proofs.Kept.{none_at_all}
use Rattle.rules.specs.Table as model
use Rattle.rules.specs.Table.{slot_of, is_open}
use Rattle.rules.specs.Inbox.{is_nil}
use Rattle.rules.specs.Outcome.{Call, answer}
use Rattle.rules.specs.Ending as ending
use Rattle.rules.specs.Run.{run}
use Rattle.storage.specs.Cells.{cell_at, state_of}
use Rattle.storage.specs.Rows.{Store, row_at}
use Rattle.storage.specs.View.{view, show_in}
use Rattle.storage.specs.Finding.{open_in, live_in}
use Rattle.storage.specs.declared.Slot.{Slot}
use Rattle.storage.specs.declared.State.{State}
use Rattle.storage.specs.declared.State.TheVariants.{Closed, Unbound, Bound, Listening, Connected}
use Rattle.storage.specs.declared.Listener.{Listener}
use Rattle.storage.specs.declared.Connection.{Connection}
use Rattle.storage.proofs.Coding.{loaded_state, loaded_at}
use Rattle.storage.proofs.Viewed.{open_view}
use Rattle.table.proofs.Links.{queue-length}
use Rattle.promise.specs.Answers.{refused_with, accepted_with}
use Rattle.promise.specs.Promise.{Lists, Done}
use Rattle.promise.specs.declared.Answer.{Answer}
use Rattle.promise.proofs.Known.{Known, refused_done, listener_at}
use Rattle.promise.proofs.Changed.{unchanged}
use Rattle.promise.proofs.Held.{ring_long, inbox-in}
use Rattle.promise.proofs.Live.{Live, live, opened, not_closed, state_seen, stale_run, live_run}
use Rattle.readying.specs.Parts.{readable_of, room_in, writable_in, ready_in}

-- the length of what is queued
pub bytes_long : (n c : ℕ) (s : Store) (i : ℕ) (k : Connection) → Known n c s → i < n → state_of (cell_at s.words i) ≡ Connected k → length (inbox.bytes_of (row_at n c s i).ring k.inbox) ≡ count k.inbox
bytes_long n c s i k kn hi e =
    let r = inbox-in kn hi e in
    let lr = ring_long n c s kn.roomy i hi in
    length-bytes (row_at n c s i).ring k.inbox (let x = r.head_in in omega arith) (let x = r.fits in omega arith)

-- "the peer inbox has room"
module _ (n c : ℕ) (s : Store) (kn : Known n c s) (j : ℕ) (hj : j < n) where
  room_same : (σ : State) → state_of (cell_at s.words j) ≡ σ → room_in c σ ≡ ending.has_room (view n c s) (show_in (row_at n c s j) (cell_at s.words j).generation σ).state
  unfolding ending.has_room show_in view
  room_same Closed e = refl
  room_same Unbound e = refl
  room_same (Bound m) e = refl
  room_same (Listening l) e = refl
  room_same (Connected k) e = ap (λ (x : ℕ). ltb x c) (sym (bytes_long n c s j k kn hj e))

module _ (n c : ℕ) (s : Store) (l : Lists) (h : ℕ) (b : Bool) (eb : b ≡ live_in n s.words h) (r : Answer) where
  pub stale : not b ≡ true → r ≡ refused_with 1 → Done (run (view n c s) (Call.Readiness h)) n c s s l l r
  unfolding run
  stale t er = refused_done _ 1 n c s l r (stale_run n c s h b _ eb t) (λ z. omega arith) er

  module _ (a : Known n c s) (t : not b ≡ false) (j : ℕ) (ej : j ≡ slot_of h) (sl : Slot) (es : sl ≡ loaded_at s.words j) where
    lv : Live n c s h
    lv = live n c s h b eb t

    is_state : (σ : State) → sl.state ≡ σ → state_of (cell_at s.words (slot_of h)) ≡ σ
    is_state σ e = sym (loaded_state s.words ej es) ∙ e

    state_is : (σ : State) → sl.state ≡ σ → model.state_of (view n c s) h ≡ (show_in (row_at n c s (slot_of h)) (cell_at s.words (slot_of h)).generation σ).state
    state_is σ e = state_seen n c s h σ lv.within (is_state σ e)

    with_value : (v : ℕ) → ending.ready (view n c s) (model.state_of (view n c s) h) ≡ v → r ≡ accepted_with v 0 → Done (run (view n c s) (Call.Readiness h)) n c s s l l r
    unfolding run
    with_value v e er =
        unchanged n c s (Call.Readiness h) v l r a (live_run n c s h (answer (view n c s) (ending.ready (view n c s) (model.state_of (view n c s) h)) [] []) lv ∙ ap (λ (x : ℕ). answer (view n c s) x [] []) e) er

    pub closed_never : sl.state ≡ Closed → r ≡ refused_with 19 → Done (run (view n c s) (Call.Readiness h)) n c s s l l r
    closed_never e er = not_closed n c s h lv (is_state Closed e)

    of_unbound : sl.state ≡ Unbound → r ≡ accepted_with 0 0 → Done (run (view n c s) (Call.Readiness h)) n c s s l l r
    unfolding ending.ready show_in
    of_unbound e er = with_value 0 (ap (ending.ready (view n c s)) (state_is Unbound e)) er

    of_bound : (m : ℕ) → sl.state ≡ Bound m → r ≡ accepted_with 0 0 → Done (run (view n c s) (Call.Readiness h)) n c s s l l r
    unfolding ending.ready show_in
    of_bound m e er = with_value 0 (ap (ending.ready (view n c s)) (state_is (Bound m) e)) er

    pub of_nothing : (sl.state ≡ Unbound) ⊎ ((m : ℕ) × (sl.state ≡ Bound m)) → r ≡ accepted_with 0 0 → Done (run (view n c s) (Call.Readiness h)) n c s s l l r
    of_nothing (inl e) er = of_unbound e er
    of_nothing (inr x) er = of_bound x.0 x.1 er

    module _ (q : Listener) (e : sl.state ≡ Listening q) where
      nil_is : is_nil (queued (row_at n c s (slot_of h)).queue q.head q.pending) ≡ eqb q.pending 0
      unfolding row_at
      nil_is =
          let z = listener_at a lv.within (is_state (Listening q) e) in
          none_at_all _ ∙ ap (λ (x : ℕ). eqb x 0) (queue-length n c s a.roomy (slot_of h) q lv.within z.2 z.3)

      pub of_empty : q.pending ≡ 0 → r ≡ accepted_with 0 0 → Done (run (view n c s) (Call.Readiness h)) n c s s l l r
      unfolding ending.ready show_in
      of_empty z er = with_value 0 (ap (ending.ready (view n c s)) (state_is (Listening q) e) ∙ rw (nil_is ∙ eq-eqb q.pending 0 z)) er

      pub of_waiting : (q.pending ≡ 0 → ⊥) → r ≡ accepted_with 1 0 → Done (run (view n c s) (Call.Readiness h)) n c s s l l r
      unfolding ending.ready show_in
      of_waiting z er = with_value 1 (ap (ending.ready (view n c s)) (state_is (Listening q) e) ∙ rw (nil_is ∙ ne_eqb q.pending 0 z)) er

    ready_is : (k : Connection) → state_of (cell_at s.words (slot_of h)) ≡ Connected k
        → ending.ready (view n c s) (show_in (row_at n c s (slot_of h)) (cell_at s.words (slot_of h)).generation (Connected k)).state ≡ ready_in n c s.words k
    unfolding ending.ready show_in ready_in readable_of writable_in
    ready_is k e = go (is_open (view n c s) k.peer.0) refl
      where
        nil : is_nil (inbox.bytes_of (row_at n c s (slot_of h)).ring k.inbox) ≡ eqb (count k.inbox) 0
        nil = none_at_all _ ∙ ap (λ (x : ℕ). eqb x 0) (bytes_long n c s (slot_of h) k a lv.within e)

        go : (o : Bool) → is_open (view n c s) k.peer.0 ≡ o
            → cond (is_open (view n c s) k.peer.0)
            (cond (not (is_nil (inbox.bytes_of (row_at n c s (slot_of h)).ring k.inbox)) || k.inbox_closed) 1 0 + cond (not k.outbox_closed && ending.has_room (view n c s) (model.state_of (view n c s) k.peer.0)) 2 0) 5
            ≡ cond (open_in n s.words k.peer.0) (cond (not (eqb (count k.inbox) 0) || k.inbox_closed) 1 0 + cond (not k.outbox_closed && room_in c (state_of (cell_at s.words (slot_of k.peer.0)))) 2 0) 5
        go true eo =
            let op = opened n c s k.peer.0 eo in
            let room : room_in c (state_of (cell_at s.words (slot_of k.peer.0))) ≡ ending.has_room (view n c s) (model.state_of (view n c s) k.peer.0) =
            room_same n c s a (slot_of k.peer.0) op.within (state_of (cell_at s.words (slot_of k.peer.0))) refl
            ∙ ap (ending.has_room (view n c s)) (sym (state_seen n c s k.peer.0 (state_of (cell_at s.words (slot_of k.peer.0))) op.within refl)) in
            rw (eo, open_view n c s k.peer.0 ∙ eo, nil, room)
        go false eo = rw (eo, open_view n c s k.peer.0 ∙ eo)

    pub of_connected : (k : Connection) (v : ℕ) → sl.state ≡ Connected k → v ≡ ready_in n c s.words k → r ≡ accepted_with v 0 → Done (run (view n c s) (Call.Readiness h)) n c s s l l r
    of_connected k v e ev er =
        with_value v (ap (ending.ready (view n c s)) (state_is (Connected k) e) ∙ ready_is k (is_state (Connected k) e) ∙ sym ev) er
