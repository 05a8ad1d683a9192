-- listen
use mathlib.Core.Path.{◌≡◌, refl, sym, ap, ◌∙◌, subst}
use mathlib.Core.Logic.{inl, inr}
use mathlib.Core.Bool.{Bool, true, false, cond, not}
use mathlib.Core.List.{List, [], ◌∷◌}
use Prim.Native.Nat.{ℕ, ◌≤◌, ◌<◌}
use native.Mathlib.Omega.{arith}
use lib.Dec.{ltb}
use lib.ListN.{take, set}
use borrow.Author.Tests.{le-leb, lt-ltb, le-ltb}
use Rattle.ring.specs.Ring.{queued}
use Rattle.rules.specs.Table as model
use Rattle.rules.specs.Table.{Table, put, slot_of, become}
use Rattle.rules.specs.Outcome.{Call, Outcome, answer, registry}
use Rattle.rules.specs.Connecting.{do_listen}
use Rattle.rules.specs.Run.{run}
use Rattle.storage.specs.Cells.{cell_at, state_of, store_at, cell_of}
use Rattle.storage.specs.Rows.{Store, Row, lent, row_at, with_cell}
use Rattle.storage.specs.View.{view, show, show_in}
use Rattle.storage.specs.Finding.{live_in}
use Rattle.storage.specs.declared.Slot.{Slot}
use Rattle.storage.specs.declared.State.{State}
use Rattle.storage.specs.declared.State.TheVariants.{Closed, Unbound, Bound, Listening, Connected}
use Rattle.storage.specs.declared.Listener.{Listener}
use Rattle.storage.specs.declared.Connection.{Connection}
use Rattle.storage.proofs.Coding.{back, listening_inj, loaded_at}
use Rattle.table.specs.Formed.{ranges_well}
use Rattle.promise.specs.Answers.{refused_with, accepted_with}
use Rattle.promise.specs.Hidden.{hidden_in, hidden_after, from_queue, room_after}
use Rattle.promise.specs.Promise.{Lists, Stored, Done}
use Rattle.promise.specs.declared.Answer.{Answer}
use Rattle.promise.proofs.Known.{Known, refused_done, listener_at, queue_stays, bound_range}
use Rattle.promise.proofs.Live.{stale_run, live_run, not_closed}
use Rattle.promise.proofs.Kept.{Keeps, other_state}
use Rattle.promise.proofs.Changed.{Fit, fields_listening, accepted_done, cell_stored}
use Rattle.promise.proofs.Called.{Called, called, become_is}

-- ── The row of a socket that listens ──

-- for the first time
abbrev first_listen : (m k : ℕ) → Listener
first_listen m k = record { name = m; backlog = k; head = 0; pending = 0 }

-- and again
abbrev listen_again : Listener → ℕ → Listener
listen_again q k = record { name = q.name; backlog = k; head = q.head; pending = q.pending }

pub range_is : (n c : ℕ) (q : Listener) → q.name ≤ 255 → q.backlog < 4294967296 → q.head < n → q.pending ≤ n → ranges_well n c (Listening q) ≡ true
unfolding ranges_well
range_is n c q a b d e = rw (le-leb q.name 255 a, lt-ltb q.backlog 4294967296 b, lt-ltb q.head n d, le-leb q.pending n e)

bound_fit : (n c g m k : ℕ) (r : Row) → state_of r.cell ≡ Bound m → ranges_well n c (Listening (first_listen m k)) ≡ true → Fit n c r (with_cell (cell_of g (Listening (first_listen m k))) r)
unfolding hidden_in hidden_after from_queue room_after show_in cell_of state_of
bound_fit n c g m k r e x =
    record { fields = fields_listening g (first_listen m k); ranges = x; numbers = rw e refl; room = refl }

again_fit : (n c g k : ℕ) (q : Listener) (r : Row) → state_of r.cell ≡ Listening q → q.head < n → ranges_well n c (Listening (listen_again q k)) ≡ true
    → Fit n c r (with_cell (cell_of g (Listening (listen_again q k))) r)
unfolding hidden_in hidden_after from_queue room_after show_in cell_of state_of
again_fit n c g k q r e h x =
    record { fields = fields_listening g (listen_again q k); ranges = x; numbers = rw e (sym (queue_stays n q _ _ h refl)); room = refl }

bound_keeps : (g m k : ℕ) (r : Row) → state_of r.cell ≡ Bound m → Keeps r (with_cell (cell_of g (Listening (first_listen m k))) r)
bound_keeps g m k r e =
    record {
      servers = λ b z nz. other_state (sym e ∙ z) (λ y. omega arith);
      listeners = λ q z. inl (ap (λ (x : Listener). x.pending) (sym (listening_inj (sym (back g (Listening (first_listen m k))) ∙ z))));
    }

again_keeps : (g k : ℕ) (q : Listener) (r : Row) → state_of r.cell ≡ Listening q → Keeps r (with_cell (cell_of g (Listening (listen_again q k))) r)
again_keeps g k q r e =
    record {
      servers = λ b z nz. other_state (sym e ∙ z) (λ y. omega arith);
      listeners = λ q' z.
          let same : q' ≡ listen_again q k = sym (listening_inj (sym (back g (Listening (listen_again q k))) ∙ z)) in
          inr (record { before = q; was_listener = e; head = ap (λ (x : Listener). x.head) same; pending = ap (λ (x : Listener). x.pending) same; ring = refl });
    }

-- ── The table that it shows ──

module _ (n c : ℕ) (s : Store) (h k i g : ℕ) where
  heard : (σ : State) → Called n c s h i g σ → run (view n c s) (Call.Listen h k) ≡ do_listen (view n c s) h k (show_in (row_at n c s i) g σ).state
  unfolding run
  heard σ d = live_run n c s h _ d.lives ∙ ap (do_listen (view n c s) h k) d.state_shown

  bound_next : (m : ℕ) → Called n c s h i g (Bound m)
      → run (view n c s) (Call.Listen h k) ≡ answer (put (view n c s) i (show (with_cell (cell_of g (Listening (first_listen m k))) (row_at n c s i)))) 0 [] []
  unfolding do_listen show_in cell_of state_of queued
  bound_next m d = heard (Bound m) d ∙ ap (λ (t : Table). answer t 0 [] []) (become_is (view n c s) h i _ _ d.is_slot d.shown)

  again_next : (q : Listener) (more : Bool) → Called n c s h i g (Listening q) → ltb q.backlog k ≡ more
      → run (view n c s) (Call.Listen h k) ≡ answer (put (view n c s) i (show (with_cell (cell_of g (Listening (listen_again q k))) (row_at n c s i)))) 0 (cond more (registry ∷ []) []) []
  unfolding do_listen show_in cell_of state_of
  again_next q more d e =
      let t' : Table = become (view n c s) h (model.State.Listening (take q.name (row_at n c s i).room) k (queued (row_at n c s i).queue q.head q.pending)) in
      heard (Listening q) d ∙ ap (λ (v : Bool). answer t' 0 (cond v (registry ∷ []) []) []) e
      ∙ ap (λ (t : Table). answer t 0 (cond more (registry ∷ []) []) []) (become_is (view n c s) h i _ _ d.is_slot d.shown)

-- ── Each return ──

module _ (n c : ℕ) (s : Store) (l : Lists) (h k : ℕ) (r : Answer) (b : Bool) (eb : b ≡ live_in n s.words h) where
  pub listen_stale : not b ≡ true → r ≡ refused_with 1 → Done (run (view n c s) (Call.Listen h k)) n c s s l l r
  unfolding run
  listen_stale d er = refused_done _ 1 n c s l r (stale_run n c s h b _ eb d) (λ z. omega arith) er

  module _ (lv : not b ≡ false) (i : ℕ) (ei : i ≡ slot_of h) (x : Slot) (ex : x ≡ loaded_at s.words i) where
    at_state : (σ : State) → x.state ≡ σ → Called n c s h i x.generation σ
    at_state σ es = called n c s h b i x σ eb lv ei ex es

    pub listen_closed : x.state ≡ Closed → Done (run (view n c s) (Call.Listen h k)) n c s s l l r
    listen_closed es = let d = at_state Closed es in not_closed n c s h d.lives (ap (λ (j : ℕ). state_of (cell_at s.words j)) (sym ei) ∙ d.state)

    pub listen_unbound : x.state ≡ Unbound → r ≡ refused_with 4 → Done (run (view n c s) (Call.Listen h k)) n c s s l l r
    unfolding do_listen show_in
    listen_unbound es er = refused_done _ 4 n c s l r (heard n c s h k i x.generation Unbound (at_state Unbound es)) (λ z. omega arith) er

    pub listen_connected : (q : Connection) → x.state ≡ Connected q → r ≡ refused_with 2 → Done (run (view n c s) (Call.Listen h k)) n c s s l l r
    unfolding do_listen show_in
    listen_connected q es er = refused_done _ 2 n c s l r (heard n c s h k i x.generation (Connected q) (at_state (Connected q) es)) (λ z. omega arith) er

    -- k' is the backlog as the slot has it
    module _ (kn : Known n c s) (hk : k < 4294967296) (w' : List ℕ) (k' : ℕ) (ek : k' ≡ k) where
      pub listen_bound : (m : ℕ) → x.state ≡ Bound m → w' ≡ store_at s.words i (cell_of x.generation (Listening (first_listen m k'))) → r ≡ accepted_with 0 0
          → Done (run (view n c s) (Call.Listen h k)) n c s (lent w' s.bytes s.tokens) l l r
      unfolding row_at
      listen_bound m es ew er =
          let d = at_state (Bound m) es in
          let next = bound_next n c s h k i x.generation m d in
          let low : m ≤ 255 = bound_range n c m (subst (λ (σ : State). ranges_well n c σ ≡ true) d.state (kn.ranges i d.within)) in
          let z = kn.some_slot in
          accepted_done _ _ 0 [] n c s _ l l r next
          (cell_stored n c s (Call.Listen h k) i (cell_of x.generation (Listening (first_listen m k))) w' kn d.within
          (ew ∙ ap (λ (y : ℕ). store_at s.words i (cell_of x.generation (Listening (first_listen m y)))) ek) (ap (λ (o : Outcome). o.next) next)
          (bound_fit n c x.generation m k (row_at n c s i) d.state (range_is n c (first_listen m k) low hk (omega arith) (omega arith)))
          (bound_keeps x.generation m k (row_at n c s i) d.state))
          refl refl er

      module _ (q : Listener) (es : x.state ≡ Listening q) (ew : w' ≡ store_at s.words i (cell_of x.generation (Listening (listen_again q k')))) where
        again_stored : Stored n c s (lent w' s.bytes s.tokens) (run (view n c s) (Call.Listen h k))
        unfolding row_at
        again_stored =
            let d = at_state (Listening q) es in
            let z = listener_at kn d.within d.state in
            cell_stored n c s (Call.Listen h k) i (cell_of x.generation (Listening (listen_again q k))) w' kn d.within
            (ew ∙ ap (λ (y : ℕ). store_at s.words i (cell_of x.generation (Listening (listen_again q y)))) ek)
            (ap (λ (o : Outcome). o.next) (again_next n c s h k i x.generation q _ d refl))
            (again_fit n c x.generation k q (row_at n c s i) d.state z.2 (range_is n c (listen_again q k) z.0 hk z.2 z.3))
            (again_keeps x.generation k q (row_at n c s i) d.state)

        pub listen_more : (l' : Lists) → q.backlog < k' → l'.wakes ≡ set l.wakes 0 0 → l'.releases ≡ l.releases → r ≡ accepted_with 0 1
            → Done (run (view n c s) (Call.Listen h k)) n c s (lent w' s.bytes s.tokens) l l' r
        listen_more l' lt el er ea =
            accepted_done _ _ 0 (registry ∷ []) n c s _ l l' r
            (again_next n c s h k i x.generation q true (at_state (Listening q) es) (lt-ltb q.backlog k (omega arith))) again_stored el er ea

        pub listen_less : k' ≤ q.backlog → r ≡ accepted_with 0 0 → Done (run (view n c s) (Call.Listen h k)) n c s (lent w' s.bytes s.tokens) l l r
        listen_less le ea =
            accepted_done _ _ 0 [] n c s _ l l r
            (again_next n c s h k i x.generation q false (at_state (Listening q) es) (le-ltb q.backlog k (omega arith))) again_stored refl refl ea
