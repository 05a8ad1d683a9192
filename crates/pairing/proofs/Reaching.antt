-- connect, at each return.
use mathlib.Core.Path.{◌≡◌, refl, sym, ap, ◌∙◌, subst}
use mathlib.Core.Bool.{Bool, true, false, not}
use mathlib.Core.List.{List, [], ◌∷◌}
use Prim.Native.Nat.{ℕ, ◌+◌, ◌*◌, ◌≤◌, ◌<◌}
use native.Mathlib.Omega.{arith}
use lib.ListN.{length, take}
use lib.Seq.{sets}
use borrow.Author.Tests.{le-leb, lt-leb, not-false}
use Rattle.std.specs.Prelude.{Option, Some, None, Result, Ok, Err}
use Rattle.ring.specs.Ring.{queued}
use Rattle.ring.proofs.Queued.{queued-length}
use Rattle.rules.specs.Table as model
use Rattle.rules.specs.Table.{Table, at, slot_of, handle, handle_at}
use Rattle.rules.specs.Outcome.{Call, Outcome, refuse, answer, refuse_if}
use Rattle.rules.specs.Connecting.{do_connect, reach, is_full, connected}
use Rattle.rules.specs.Run.{run, on_name}
use Rattle.storage.specs.Layout.{part, name_base}
use Rattle.storage.specs.Cells.{cell_at, state_of}
use Rattle.storage.specs.Rows.{Store, lent, row_at}
use Rattle.storage.specs.View.{view, show_in}
use Rattle.storage.specs.Finding.{least, lowest, live_in, free_cell, holds_cell}
use Rattle.storage.specs.declared.Slot.{Slot}
use Rattle.storage.specs.declared.Listener.{Listener}
use Rattle.storage.specs.declared.Connection.{Connection}
use Rattle.storage.specs.declared.State.{State}
use Rattle.storage.specs.declared.State.TheVariants.{Closed, Unbound, Bound, Listening, Connected}
use Rattle.storage.proofs.Coding.{loaded_state, loaded_at}
use Rattle.storage.proofs.Finds.{lowest-some, lowest-none}
use Rattle.storage.proofs.Viewed.{at_none, seen, gen_at, holder_view}
use Rattle.storage.specs.Naming.{name_refusal}
use Rattle.storage.proofs.Naming.{name_refused, name_accepted}
use Rattle.words.specs.Numbers.{number_of}
use Rattle.words.specs.declared.Errno.{Errno}
use Rattle.table.proofs.Links.{queue_long}
use Rattle.promise.specs.Answers.{refused_with, accepted_with}
use Rattle.promise.specs.Promise.{Lists, Stored, Done}
use Rattle.promise.specs.declared.Answer.{Answer}
use Rattle.promise.proofs.Known.{Known, refused_done, listener_at}
use Rattle.promise.proofs.Changed.{accepted_done}
use Rattle.promise.proofs.Free.{Free, none_free, free_found}
use Rattle.promise.proofs.Live.{Live, live, not_closed, state_seen, stale_name, no_name, long_name, named_run}
use Rattle.pairing.specs.Callers.{Caller}
use Rattle.pairing.specs.Pairs.{joined}
use Rattle.pairing.proofs.Joining.{joined_is, joined_stored}

-- ── The caller ──

module _ (n c : ℕ) (s : Store) (ls : Lists) (h : ℕ) (m : List ℕ) (r : Answer) (b : Bool) (eb : b ≡ live_in n s.words h) where
  pub connect_stale : not b ≡ true → r ≡ refused_with 1 → Done (run (view n c s) (Call.Connect h m)) n c s s ls ls r
  unfolding run
  connect_stale d er = refused_done _ 1 n c s ls r (stale_name n c s h b m _ eb d) (λ z. omega arith) er

  module _ (d : not b ≡ false) where
    pub connect_unnamed : (q : Result Unit Errno) (e : Errno) → q ≡ name_refusal m → q ≡ Err e → r ≡ refused_with (number_of e) → Done (run (view n c s) (Call.Connect h m)) n c s s ls ls r
    unfolding run
    connect_unnamed q e eq ee =
        name_refused (λ k. r ≡ refused_with k → Done (on_name (view n c s) h m (do_connect (view n c s) h m (model.state_of (view n c s) h))) n c s s ls ls r) m q e eq ee
        (λ z. refused_done _ 2 n c s ls r (no_name n c s h (live n c s h b eb d) _ m z) (λ y. omega arith))
        (λ some g. refused_done _ 17 n c s ls r (long_name n c s h (live n c s h b eb d) _ m some g) (λ y. omega arith))

    module _ (q : Result Unit Errno) (eq : q ≡ name_refusal m) (ok : q ≡ Ok tt) (i : ℕ) (slot : Slot) (ei : i ≡ slot_of h) (es : slot ≡ loaded_at s.words i) where
      own : (σ : State) → slot.state ≡ σ → state_of (cell_at s.words (slot_of h)) ≡ σ
      own σ e = sym (loaded_state s.words ei es) ∙ e

      by_state : (σ : State) → slot.state ≡ σ → run (view n c s) (Call.Connect h m)
          ≡ do_connect (view n c s) h m (show_in (row_at n c s (slot_of h)) (cell_at s.words (slot_of h)).generation σ).state
      unfolding run
      by_state σ e =
          let l = live n c s h b eb d in
          let z = name_accepted m q eq ok in named_run n c s h l _ m z.0 z.1 ∙ ap (do_connect (view n c s) h m) (state_seen n c s h σ l.within (own σ e))

      -- no live socket is closed
      pub connect_closed : slot.state ≡ Closed → Done (run (view n c s) (Call.Connect h m)) n c s s ls ls r
      connect_closed e = not_closed n c s h (live n c s h b eb d) (own Closed e)

      pub connect_bound : (k : ℕ) → slot.state ≡ Bound k → r ≡ refused_with 2 → Done (run (view n c s) (Call.Connect h m)) n c s s ls ls r
      unfolding do_connect show_in
      connect_bound k e er = refused_done _ 2 n c s ls r (by_state (Bound k) e) (λ z. omega arith) er

      pub connect_listening : (q : Listener) → slot.state ≡ Listening q → r ≡ refused_with 6 → Done (run (view n c s) (Call.Connect h m)) n c s s ls ls r
      unfolding do_connect show_in
      connect_listening q e er = refused_done _ 6 n c s ls r (by_state (Listening q) e) (λ z. omega arith) er

      pub connect_connected : (k : Connection) → slot.state ≡ Connected k → r ≡ refused_with 5 → Done (run (view n c s) (Call.Connect h m)) n c s s ls ls r
      unfolding do_connect show_in
      connect_connected k e er = refused_done _ 5 n c s ls r (by_state (Connected k) e) (λ z. omega arith) er

pub may_reach : (n : ℕ) (w : List ℕ) (h : ℕ) (m : List ℕ) (b : Bool) → b ≡ live_in n w h → not b ≡ false → (i : ℕ) (slot : Slot) → i ≡ slot_of h → slot ≡ loaded_at w i → slot.state ≡ Unbound
    → (q : Result Unit Errno) → q ≡ name_refusal m → q ≡ Ok tt → Caller n w h m
may_reach n w h m b eb d i slot ei es e q eq ok =
    let z = name_accepted m q eq ok in
    record { lives = sym eb ∙ not-false b d; unbound = sym (loaded_state w ei es) ∙ e; some_name = z.0; short_name = z.1 }

-- ── The socket of that name ──

module _ (n c : ℕ) (s : Store) (h : ℕ) (m : List ℕ) (k : Known n c s) (a : Caller n s.words h m) (o : Option ℕ)
    (eo : o ≡ lowest n (λ i. holds_cell (cell_at s.words i) (part (name_base n c i) 255 s.bytes) m)) where
  calls : Live n c s h
  calls = live n c s h true (sym a.lives) refl

  reaches : (l : ℕ) → l ≡ least n (λ i. holds_cell (cell_at s.words i) (part (name_base n c i) 255 s.bytes) m) → run (view n c s) (Call.Connect h m) ≡ reach (view n c s) h (handle_at (view n c s) l) (at (view n c s) l).state
  unfolding run do_connect show_in
  reaches l el =
      named_run n c s h calls _ m a.some_name a.short_name
      ∙ ap (do_connect (view n c s) h m) (state_seen n c s h Unbound calls.within a.unbound)
      ∙ ap (λ (y : ℕ). reach (view n c s) h (handle_at (view n c s) y) (at (view n c s) y).state) (sym (holder_view n c s m) ∙ sym el)

  pub reach_none : (ls : Lists) (r : Answer) → o ≡ None → r ≡ refused_with 7 → Done (run (view n c s) (Call.Connect h m)) n c s s ls ls r
  unfolding reach
  reach_none ls r e er =
      refused_done _ 7 n c s ls r
      (reaches n (sym (lowest-none n _ o eo e)) ∙ ap (λ (y : model.Slot). reach (view n c s) h (handle_at (view n c s) n) y.state) (at_none n c s n (omega arith))) (λ z. omega arith) er

  module _ (l : ℕ) (sl : o ≡ Some l) (f : Slot) (ef : f ≡ loaded_at s.words l) where
    hl : l < n
    hl = (lowest-some n _ o l eo sl).1

    in_state : (σ : State) → f.state ≡ σ
        → run (view n c s) (Call.Connect h m) ≡ reach (view n c s) h (handle_at (view n c s) l) (show_in (row_at n c s l) (cell_at s.words l).generation σ).state
    in_state σ e =
        reaches l (lowest-some n _ o l eo sl).0
        ∙ ap (λ (y : model.Slot). reach (view n c s) h (handle_at (view n c s) l) y.state) (seen n c s l σ hl (sym (ap (λ (y : Slot). y.state) ef) ∙ e))

    other_refused : (σ : State) → ((q : Listener) → σ ≡ Listening q → ⊥)
        → reach (view n c s) h (handle_at (view n c s) l) (show_in (row_at n c s l) (cell_at s.words l).generation σ).state ≡ refuse (view n c s) 7
    unfolding reach show_in
    other_refused Closed ne = refl
    other_refused Unbound ne = refl
    other_refused (Bound z) ne = refl
    other_refused (Listening q) ne = absurd (ne q refl)
    other_refused (Connected z) ne = refl

    -- its handle is a word
    pub found_handle : (f.generation ≤ 4294967295) × (l < 65536)
    found_handle =
        let y = (k.good.shape.good l).young in
        let z = gen_at n c s l hl in
        let v = ap (λ (y : Slot). y.generation) ef in
        let few = k.roomy.few in
        let within = hl in
        (omega arith, omega arith)

    pub reach_other : (ls : Lists) (r : Answer) → ((q : Listener) → f.state ≡ Listening q → ⊥) → r ≡ refused_with 7 → Done (run (view n c s) (Call.Connect h m)) n c s s ls ls r
    reach_other ls r ne er = refused_done _ 7 n c s ls r (in_state f.state refl ∙ other_refused f.state ne) (λ z. omega arith) er

    module _ (q : Listener) (eq : f.state ≡ Listening q) where
      listens : state_of (cell_at s.words l) ≡ Listening q
      listens = sym (ap (λ (y : Slot). y.state) ef) ∙ eq

      pub listener_in : (q.name ≤ 255) × (q.backlog < 4294967296) × (q.head < n) × (q.pending ≤ n)
      listener_in = listener_at k hl listens

      abbrev pending : List ℕ
      pending = queued (row_at n c s l).queue q.head q.pending

      pending_many : length pending ≡ q.pending
      unfolding row_at
      pending_many =
          let y = listener_in.2 in
          let z = listener_in.3 in
          let v = queue_long n c s k.roomy l hl in
          queued-length (row_at n c s l).queue q.head (omega arith) q.pending (omega arith)

      pub reach_full : (ls : Lists) (r : Answer) → q.backlog ≤ q.pending → r ≡ refused_with 8 → Done (run (view n c s) (Call.Connect h m)) n c s s ls ls r
      unfolding reach show_in is_full refuse_if
      reach_full ls r g er =
          refused_done _ 8 n c s ls r (in_state (Listening q) eq ∙ rw (le-leb q.backlog (length pending) (omega (arith, pending_many)))) (λ z. omega arith) er

      module _ (g : q.pending < q.backlog) (u : Option ℕ) (eu : u ≡ lowest n (λ i. free_cell (cell_at s.words i))) where
        pub reach_no_slot : (ls : Lists) (r : Answer) → u ≡ None → r ≡ refused_with 16 → Done (run (view n c s) (Call.Connect h m)) n c s s ls ls r
        unfolding reach show_in is_full refuse_if
        reach_no_slot ls r z er =
            refused_done _ 16 n c s ls r (in_state (Listening q) eq ∙ rw (lt-leb q.backlog (length pending) (omega (arith, pending_many)), none_free n c s _ refl (lowest-none n _ u eu z))) (λ z. omega arith) er

        -- what the stores ask
        free : (j : ℕ) → u ≡ Some j → Free n c s j
        free j su = let z = lowest-some n _ u j eu su in free_found n c s j z.0 (λ y. omega (arith, z.1))

        pub join_asks : (j : ℕ) → u ≡ Some j → ((slot_of h < n) × (l < n) × (j < n) × (n ≤ 1024) × (8 + 272 * n + n * n ≤ length s.words))
            × (((cell_at s.words j).generation < 4294967295) × (q.head < n) × (q.pending ≤ n))
        join_asks j su =
            let fr : Free n c s j = free j su in
            ((calls.within, hl, fr.within, k.roomy.few, k.roomy.words), (fr.young, listener_in.2, listener_in.3))

        pub reach_made : (ls : Lists) (r : Answer) (j : ℕ) (w' : List ℕ) (lh : ℕ) (ls' : Lists) → u ≡ Some j → w' ≡ joined n s.words h l f.generation q j → lh ≡ handle f.generation l
            → ls'.wakes ≡ sets ls.wakes 0 (lh ∷ h ∷ []) → ls'.releases ≡ ls.releases → r ≡ accepted_with 0 2
            → Done (run (view n c s) (Call.Connect h m)) n c s (lent w' s.bytes s.tokens) ls ls' r
        unfolding reach show_in is_full refuse_if row_at
        reach_made ls r j w' lh ls' su ew eh ewake ereleases er =
            let fr : Free n c s j = free j su in
            let t : Table = view n c s in
            let gf : f.generation ≡ (cell_at s.words l).generation = ap (λ (y : Slot). y.generation) ef in
            let o_is : run t (Call.Connect h m) ≡ answer (connected t h (handle_at t l) (take q.name (row_at n c s l).room) q.backlog pending) 0 (handle_at t l ∷ h ∷ []) [] =
            in_state (Listening q) eq ∙ rw (lt-leb q.backlog (length pending) (omega (arith, pending_many)), fr.is_some) refl in
            let after : lent w' s.bytes s.tokens ≡ _ =
            ap (λ (u : List ℕ). lent u s.bytes s.tokens) (ew ∙ ap (λ (y : ℕ). joined n s.words h l y q j) gf)
            ∙ joined_is n c s k h l j q calls.within hl fr.within a.unbound listens fr.is_closed in
            let wake : lh ≡ handle_at t l = eh ∙ ap (λ (y : ℕ). handle y l) (gf ∙ sym (gen_at n c s l hl)) in
            accepted_done (run t (Call.Connect h m)) _ 0 (handle_at t l ∷ h ∷ []) n c s (lent w' s.bytes s.tokens) ls ls' r o_is
            (subst (λ (y : Store). Stored n c s y (run t (Call.Connect h m))) (sym after)
            (joined_stored n c s k h l j q calls.within hl fr.within a.unbound listens fr.is_closed (Call.Connect h m) fr.is_first (ap (λ (y : Outcome). y.next) o_is)))
            (ewake ∙ ap (λ (y : ℕ). sets ls.wakes 0 (y ∷ h ∷ [])) wake) ereleases er
