-- read and recvmsg
use mathlib.Core.Path.{◌≡◌, refl, sym, ap, ap₂, ◌∙◌, subst}
use mathlib.Core.Logic.{◌≢◌}
use mathlib.Core.Bool.{Bool, true, false, cond, not, ◌||◌}
use mathlib.Core.List.{List, [], ◌∷◌}
use Prim.Native.Nat.{ℕ, suc, ◌≤◌, ◌<◌}
use native.Mathlib.Omega.{arith}
use lib.Dec.{eqb}
use lib.ListN.{length, take}
use lib.Seq.{sets}
use borrow.Author.Tests.{ne_eqb}
use Rattle.laws.proofs.Tests.{cond_both}
use Rattle.inbox.specs.View.{count}
use Rattle.inbox.specs.Well.{Well}
use Rattle.inbox.specs.Promise.{policy_of, move_on, Takes}
use Rattle.inbox.specs.declared.AttachedItems.TheVariants.{Take, Drop}
use Rattle.inbox.specs.declared.Inbox.{Inbox}
use Rattle.inbox.specs.declared.Taken.{Taken}
use Rattle.inbox.proofs.Shows.{taken_le, group_le}
use Rattle.inbox.proofs.Kept.{in-range, none_at_all, take-keeps}
use Rattle.rules.specs.Table as model
use Rattle.rules.specs.Table.{Table, slot_of, is_open, become}
use Rattle.rules.specs.Inbox.{group, rest}
use Rattle.rules.specs.Outcome.{Call, Outcome, refuse, answer, refuse_if, open_one}
use Rattle.rules.specs.Moving.{Policy, drained, drain}
use Rattle.rules.specs.Run.{run}
use Rattle.storage.specs.Layout.{part, places_base, ring_base, tokens_base}
use Rattle.storage.specs.Cells.{cell_at, state_of, store_at, cell_of, with_inbox}
use Rattle.storage.specs.Rows.{Store, Row, lent, row_at, with_cell, Roomy}
use Rattle.storage.specs.View.{view}
use Rattle.storage.specs.Finding.{open_in, live_in}
use Rattle.storage.specs.declared.Slot.{Slot}
use Rattle.storage.specs.declared.State.TheVariants.{Connected}
use Rattle.storage.specs.declared.Connection.{Connection}
use Rattle.storage.proofs.Coding.{loaded_generation, loaded_state, loaded_at}
use Rattle.storage.proofs.Viewed.{open_view}
use Rattle.table.specs.Admission.{Admitted}
use Rattle.promise.specs.Hidden.{hidden_in, inbox_on}
use Rattle.promise.specs.Answers.{refused_with, accepted_with}
use Rattle.promise.specs.Promise.{Lists, lists, Stored, Done, Filled}
use Rattle.promise.specs.declared.Answer.{Answer}
use Rattle.promise.proofs.Known.{Known, known, refused_done}
use Rattle.promise.proofs.Changed.{cell_stored, unchanged}
use Rattle.promise.proofs.Live.{Live, live, live_run, stale_run, state_seen}
use Rattle.promise.proofs.Called.{Unconnected, unconnected}
use Rattle.promise.proofs.Held.{ring_long, places_long, tokens_long, inbox_in, Sized, sized, Held, held, gone_hidden, placed_same, connected_fit, connected_keeps, connected_put}
use Rattle.draining.specs.Parts.{Drains, nothing_queued, Wakes}

-- ── The rule ──

module _ (t : Table) (h size : ℕ) (policy : Policy) (p : ℕ) (i : model.Inbox) (x y : Bool) (q : Inbox) (sz : Sized i q) where
  pub drain_empty : count q ≡ 0 → x || not (is_open t p) ≡ true → drain t h size policy (model.State.Connected p i x y) ≡ answer t 0 [] []
  unfolding drain
  drain_empty z e = rw (none_at_all i.bytes, sz.bytes, z, e) refl

  pub drain_waits : count q ≡ 0 → x || not (is_open t p) ≡ false → drain t h size policy (model.State.Connected p i x y) ≡ refuse t 8
  unfolding drain
  drain_waits z e = rw (none_at_all i.bytes, sz.bytes, z, e) refl

  pub drain_some : count q ≢ 0 → drain t h size policy (model.State.Connected p i x y) ≡ drained t h size policy p i x y
  unfolding drain
  drain_some z = rw (none_at_all i.bytes, sz.bytes, ne_eqb (count q) 0 z) refl

-- ── A call that leaves the storage ──

lists_kept : (o : Outcome) (buf items : List ℕ) → o.bytes ≡ [] → o.items ≡ [] → Filled o buf buf items items
lists_kept o buf items e f = record { buffer = rw e refl; item_list = rw f refl }

pub refused_drain : (n c : ℕ) (s : Store) (l : Lists) (r : Answer) (o : Outcome) (e : ℕ) (buf items : List ℕ) → o ≡ refuse (view n c s) e → e ≢ 0 → r ≡ refused_with e
    → Done o n c s s l l r × Filled o buf buf items items
refused_drain n c s l r o e buf items eo ne er =
    (refused_done o e n c s l r eo ne er, lists_kept o buf items (ap (λ (x : Outcome). x.bytes) eo) (ap (λ (x : Outcome). x.items) eo))

accepted_drain : (n c : ℕ) (s : Store) (l : Lists) (r : Answer) (call : Call) (buf items : List ℕ) → Known n c s → run (view n c s) call ≡ answer (view n c s) 0 [] [] → r ≡ accepted_with 0 0
    → Done (run (view n c s) call) n c s s l l r × Filled (run (view n c s) call) buf buf items items
accepted_drain n c s l r call buf items k eo er =
    (unchanged n c s call 0 l r k eo er, lists_kept _ buf items (ap (λ (x : Outcome). x.bytes) eo) (ap (λ (x : Outcome). x.items) eo))

-- ── What the code leaves ──

module _ (n c : ℕ) (w b t : List ℕ) (k : Known n c (lent w b t)) (h : ℕ) (con : Connection) (hd : Held n c (lent w b t) h (slot_of h) con) (policy : Policy)
    (buf buf' items items' rel rel' : List ℕ) (tk : Taken) (ne : count con.inbox ≢ 0)
    (x : Takes (row_at n c (lent w b t) (slot_of h)).ring (row_at n c (lent w b t) (slot_of h)).places (row_at n c (lent w b t) (slot_of h)).tokens buf buf' policy items items' rel rel' con.inbox tk) where
  abbrev s : Store
  s = lent w b t

  abbrev row : Row
  row = row_at n c (lent w b t) (slot_of h)

  abbrev old : model.Inbox
  old = inbox_in row con.inbox

  abbrev new : model.Inbox
  new = inbox_in row tk.inbox

  lr : length row.ring ≡ c
  lr = ring_long n c s k.roomy (slot_of h) hd.within

  lp : length row.places ≡ 256
  lp = places_long n c s k.roomy (slot_of h) hd.within

  lt : length row.tokens ≡ 256
  lt = tokens_long n c s k.roomy (slot_of h) hd.within

  well_before : Well (length row.ring) row.places con.inbox
  well_before = subst (λ (y : ℕ). Well y row.places con.inbox) (sym lr) hd.well

  well_after : Well (length row.ring) row.places tk.inbox
  well_after = take-keeps _ _ _ buf buf' policy items items' rel rel' con.inbox tk lp lt well_before x

  hidden : hidden_in (Connected (with_inbox con tk.inbox)) ≡ inbox_on c (hidden_in (Connected con)) old new
  hidden =
      let g = length (group old.groups) in
      let nu : tk.inbox ≡ move_on c con.inbox tk.moved g = x.numbers ∙ ap (λ (y : ℕ). move_on y con.inbox tk.moved g) lr in
      gone_hidden c con (with_inbox con tk.inbox) old new tk.moved g
      (taken_le row.ring row.places row.tokens con.inbox (length buf) tk.moved well_before lp lt x.moves)
      (group_le row.places row.tokens con.inbox well_before.first_in well_before.items-in lp lt) hd.sizes nu (sized _ _ _ tk.inbox lp lt (in-range well_after))

  is_con : state_of row.cell ≡ Connected con
  unfolding row_at
  is_con = hd.is_connected

  same_gen : (cell_at w (slot_of h)).generation ≡ row.cell.generation
  unfolding row_at
  same_gen = refl

  abbrev out : Outcome
  out = drained (view n c (lent w b t)) h (length buf) policy con.peer.0 old con.inbox_closed con.outbox_closed

  next_is : out.next ≡ become (view n c (lent w b t)) h (model.State.Connected con.peer.0 new con.inbox_closed con.outbox_closed)
  unfolding drained
  next_is =
      ap (λ (i : model.Inbox). become (view n c s) h (model.State.Connected con.peer.0 i con.inbox_closed con.outbox_closed))
      (ap (rest old) (sym x.moves) ∙ sym x.shows)

  drained_at : (w₂ wk wk' : List ℕ) (g : Bool) (z : ℕ) (r : Answer) → w₂ ≡ store_at w (slot_of h) (cell_of (cell_at w (slot_of h)).generation (Connected (with_inbox con tk.inbox)))
      → g ≡ is_open (view n c (lent w b t)) con.peer.0 → Wakes wk wk' con.peer.0 g z
      → r ≡ record { refusal = 0; flags = tk.flags; value = tk.moved; items = tk.items; wakes = z; releases = tk.released }
      → Drains n c (lent w b t) (lent w₂ b t) h policy buf buf' items items' (lists wk rel) (lists wk' rel') r
  unfolding drained open_one
  drained_at w₂ wk wk' g z r ew eg wake er =
      record {
        drains = λ call to.
            let tb : Table = view n c s in
            let o : Outcome = run tb call in
            let eo : o ≡ out =
            to ∙ ap (drain tb h (length buf) policy) hd.state_is
            ∙ drain_some tb h (length buf) policy con.peer.0 old con.inbox_closed con.outbox_closed con.inbox hd.sizes ne in
            let con' : Connection = with_inbox con tk.inbox in
            let gen : ℕ = (cell_at w (slot_of h)).generation in
            let q : Row = with_cell (cell_of gen (Connected con')) row in
            let st : Stored n c s (lent w₂ b t) o =
            cell_stored n c s call (slot_of h) (cell_of gen (Connected con')) w₂ k hd.within ew
            (ap (λ (y : Outcome). y.next) eo ∙ next_is ∙ connected_put row q gen con con' is_con refl refl tb h (slot_of h) refl hd.shown)
            (connected_fit row q gen con con' is_con refl n c (placed_same con con' refl refl hd.says) (in-range (subst (λ (y : ℕ). Well y row.places tk.inbox) lr well_after)) refl hidden)
            (connected_keeps row q gen con con' is_con refl refl same_gen refl) in
            let woken : cond g (con.peer.0 ∷ []) [] ≡ out.wakes = ap (λ (y : Bool). cond y (con.peer.0 ∷ []) []) eg in (
              record {
                refusal_is = rw (eo, er) refl;
                value_is = rw (eo, er) x.moves;
                flags_are = rw (eo, er) x.flags_are;
                item_count = rw (eo, er) x.items_are;
                wake_count = rw (eo, er) (wake.filled ∙ ap length woken);
                release_count = rw (eo, er) x.released_are;
                wake_list = rw eo (wake.list ∙ ap (sets wk 0) woken);
                release_list = rw eo x.releases_it;
                accepted = λ y. st;
                refused = λ y. absurd (y (ap (λ (u : Outcome). u.no) eo));
              },
              record {
                buffer = rw eo (x.fills ∙ ap (λ (y : ℕ). sets buf 0 (take y old.bytes)) x.moves);
                item_list = rw eo x.hands;
              },
            );
      }

-- ── As the code has it ──

module _ {n c : ℕ} {w b t : List ℕ} {u v : ℕ} (a : Admitted n c (lent w b t) u v) (h : ℕ) (e : live_in n w h ≡ true) (i : ℕ) (ei : i ≡ slot_of h) where
  lv : Live n c (lent w b t) h
  lv = live n c (lent w b t) h true (sym e) refl

  pub slot_within : i < n
  slot_within = let y = lv.within in omega arith

  pub all_roomy : Roomy n c (lent w b t)
  all_roomy = (known a).roomy

  pub releases_long : 256 ≤ v
  releases_long = let y = a.release_list in let z = a.some_slot in omega arith

  module _ (slot : Slot) (es : slot ≡ loaded_at w i) where
    pub drains_apart : (policy : Policy) (buf items : List ℕ) (l : Lists) (r : Answer) → Unconnected slot.state → r ≡ refused_with 9
        → Drains n c (lent w b t) (lent w b t) h policy buf buf items items l l r
    unfolding drain
    drains_apart policy buf items l r k er =
        let tb = view n c (lent w b t) in
        record {
          drains = λ call to.
              refused_drain n c (lent w b t) l r _ 9 buf items
              (to ∙ ap (drain tb h (length buf) policy) (state_seen n c (lent w b t) h slot.state lv.within (sym (loaded_state w ei es)))
              ∙ unconnected (λ σ. drain tb h (length buf) policy σ ≡ refuse tb 9) refl (λ m. refl) (λ m d q. refl) (row_at n c (lent w b t) (slot_of h)) (cell_at w (slot_of h)).generation slot.state k)
              (λ z. omega arith) er;
        }

    module _ (con : Connection) (ec : slot.state ≡ Connected con) where
      at_hand : Held n c (lent w b t) h (slot_of h) con
      at_hand = held n c (lent w b t) h (slot_of h) con (known a) refl lv.opened (sym (loaded_state w ei es) ∙ ec)

      pub take_well : Well c (part (places_base n i) 256 w) con.inbox
      unfolding row_at
      take_well = subst (λ (j : ℕ). Well c (part (places_base n j) 256 w) con.inbox) (sym ei) at_hand.well

      module _ (g : Bool) (eg : g ≡ open_in n w con.peer.0) (q : ℕ) (eq : q ≡ count con.inbox) (policy : Policy) (buf items : List ℕ) where
        gone : is_open (view n c (lent w b t)) con.peer.0 ≡ g
        gone = sym (open_view n c (lent w b t) con.peer.0) ∙ sym eg

        module _ (l : Lists) (r : Answer) (z : q ≡ 0) where
          none_left : con.inbox_closed || not g ≡ true → r ≡ accepted_with 0 0 → Drains n c (lent w b t) (lent w b t) h policy buf buf items items l l r
          none_left d er =
              record {
                drains = λ call to.
                    accepted_drain n c (lent w b t) l r call buf items (known a)
                    (to ∙ ap (drain (view n c (lent w b t)) h (length buf) policy) at_hand.state_is
                    ∙ drain_empty (view n c (lent w b t)) h (length buf) policy con.peer.0 _ con.inbox_closed con.outbox_closed con.inbox at_hand.sizes (sym eq ∙ z) (rw gone d))
                    er;
              }

          none_yet : con.inbox_closed || not g ≡ false → r ≡ refused_with 8 → Drains n c (lent w b t) (lent w b t) h policy buf buf items items l l r
          none_yet d er =
              record {
                drains = λ call to.
                    refused_drain n c (lent w b t) l r _ 8 buf items
                    (to ∙ ap (drain (view n c (lent w b t)) h (length buf) policy) at_hand.state_is
                    ∙ drain_waits (view n c (lent w b t)) h (length buf) policy con.peer.0 _ con.inbox_closed con.outbox_closed con.inbox at_hand.sizes (sym eq ∙ z) (rw gone d))
                    (λ y. omega arith) er;
              }

          pub drains_none : r ≡ nothing_queued con.inbox_closed g → Drains n c (lent w b t) (lent w b t) h policy buf buf items items l l r
          drains_none er =
              cond_both (λ (x : Answer). r ≡ x → Drains n c (lent w b t) (lent w b t) h policy buf buf items items l l r) (con.inbox_closed || not g) none_left none_yet er

        pub drains_taken : (q ≡ 0 → ⊥) → (buf' items' rel rel' : List ℕ) (tk : Taken)
            → Takes (part (ring_base c i) c b) (part (places_base n i) 256 w) (part (tokens_base i) 256 t) buf buf' policy items items' rel rel' con.inbox tk
            → (w₂ wk wk' : List ℕ) (z : ℕ) → w₂ ≡ store_at w i (cell_of slot.generation (Connected (with_inbox con tk.inbox))) → Wakes wk wk' con.peer.0 g z
            → Drains n c (lent w b t) (lent w₂ b t) h policy buf buf' items items' (lists wk rel) (lists wk' rel')
            (record { refusal = 0; flags = tk.flags; value = tk.moved; items = tk.items; wakes = z; releases = tk.released })
        unfolding row_at
        drains_taken ne buf' items' rel rel' tk x w₂ wk wk' z ew wake =
            drained_at n c w b t (known a) h con at_hand policy buf buf' items items' rel rel' tk (λ y. ne (eq ∙ y))
            (subst (λ (j : ℕ). Takes (part (ring_base c j) c b) (part (places_base n j) 256 w) (part (tokens_base j) 256 t) buf buf' policy items items' rel rel' con.inbox tk) ei x)
            w₂ wk wk' g z _
            (ew ∙ ap₂ (λ (j : ℕ) (d : ℕ). store_at w j (cell_of d (Connected (with_inbox con tk.inbox)))) ei (loaded_generation w ei es))
            (sym gone) wake refl

-- ── read and recvmsg ──

no_place : (xs : List ℕ) (i : ℕ) → [] ≡ sets [] i xs
no_place [] i = refl
no_place (x ∷ xs) i = no_place xs (suc i)

module _ {n c : ℕ} {w b t : List ℕ} {u v : ℕ} (a : Admitted n c (lent w b t) u v) (h : ℕ) (f : Bool) (ef : f ≡ live_in n w h) where
  abbrev reading : ℕ → Outcome
  reading size = run (view n c (lent w b t)) (Call.Read h size)

  abbrev receiving : ℕ → ℕ → Outcome
  receiving size most = run (view n c (lent w b t)) (Call.Recvmsg h size most)

  pub read_stale : (buf : List ℕ) (l : Lists) (r : Answer) → not f ≡ true → r ≡ refused_with 1
      → Done (reading (length buf)) n c (lent w b t) (lent w b t) l l r × Filled (reading (length buf)) buf buf [] []
  unfolding run
  read_stale buf l r z er = refused_drain n c (lent w b t) l r _ 1 buf [] (stale_run n c (lent w b t) h f _ ef z) (λ y. omega arith) er

  pub recvmsg_stale : (buf items : List ℕ) (l : Lists) (r : Answer) → not f ≡ true → r ≡ refused_with 1
      → Done (receiving (length buf) (length items)) n c (lent w b t) (lent w b t) l l r × Filled (receiving (length buf) (length items)) buf buf items items
  unfolding run
  recvmsg_stale buf items l r z er = refused_drain n c (lent w b t) l r _ 1 buf items (stale_run n c (lent w b t) h f _ ef z) (λ y. omega arith) er

  module _ (live' : not f ≡ false) where
    lives : Live n c (lent w b t) h
    lives = live n c (lent w b t) h f ef live'

    pub read_drains : (buf buf' items items' : List ℕ) (m : ℕ) (l l' : Lists) (r : Answer) (s' : Store) → Drains n c (lent w b t) s' h (policy_of Drop m) buf buf' items items' l l' r
        → Done (reading (length buf)) n c (lent w b t) s' l l' r × Filled (reading (length buf)) buf buf' [] []
    unfolding run policy_of
    read_drains buf buf' items items' m l l' r s' x =
        let y = x.drains (Call.Read h (length buf)) (live_run n c (lent w b t) h _ lives) in
        (y.0, record { buffer = y.1.buffer; item_list = no_place (reading (length buf)).items 0 })

    pub recvmsg_empty : (buf items : List ℕ) (l : Lists) (r : Answer) (z : Bool) → z ≡ eqb (length buf) 0 → z ≡ true → r ≡ refused_with 2
        → Done (receiving (length buf) (length items)) n c (lent w b t) (lent w b t) l l r × Filled (receiving (length buf) (length items)) buf buf items items
    unfolding run refuse_if
    recvmsg_empty buf items l r z ez empty er =
        refused_drain n c (lent w b t) l r _ 2 buf items (live_run n c (lent w b t) h _ lives ∙ rw (sym ez ∙ empty) refl) (λ y. omega arith) er

    pub recvmsg_drains : (buf buf' items items' : List ℕ) (l l' : Lists) (r : Answer) (s' : Store) (z : Bool) → z ≡ eqb (length buf) 0 → z ≡ false
        → Drains n c (lent w b t) s' h (policy_of Take (length items)) buf buf' items items' l l' r
        → Done (receiving (length buf) (length items)) n c (lent w b t) s' l l' r × Filled (receiving (length buf) (length items)) buf buf' items items'
    unfolding run refuse_if policy_of
    recvmsg_drains buf buf' items items' l l' r s' z ez some x =
        x.drains (Call.Recvmsg h (length buf) (length items)) (live_run n c (lent w b t) h _ lives ∙ rw (sym ez ∙ some) refl)
