-- accept
use mathlib.Core.Path.{◌≡◌, refl, sym, ap, ap₂, ◌∙◌, subst}
use mathlib.Core.Logic.{◌≢◌}
use mathlib.Core.Bool.{Bool, true, false, not}
use mathlib.Core.List.{List, [], ◌∷◌}
use Prim.Native.Nat.{ℕ, ◌+◌, ◌-◌, ◌*◌, ◌^◌, ◌≤◌, ◌<◌}
use native.Mathlib.Decide.{dec_lt, ℕ_discrete as dec_eq}
use native.Mathlib.Omega.{arith}
use lib.ListN.{length, take, drop, get_or, set}
use Rattle.ring.specs.Ring.{place_of, queued}
use Rattle.ring.proofs.Copying.{place_is, place_low}
use Rattle.ring.proofs.Queued.{Place, place_apart, place_further, queued-length, queued_at, queued-drop}
use Rattle.inbox.proofs.Kept.{InRange}
use Rattle.rules.specs.Table as model
use Rattle.rules.specs.Table.{Table, at, put, slot_of, handle, become, give}
use Rattle.rules.specs.Outcome.{Call, Outcome, refuse, answer, registry}
use Rattle.rules.specs.Connecting.{do_accept}
use Rattle.rules.specs.Run.{run}
use Rattle.rules.proofs.Frame.{at_put_other}
use Rattle.storage.specs.Layout.{queue_base}
use Rattle.storage.specs.Cells.{cell_at, state_of, store_at, cell_of}
use Rattle.storage.specs.Rows.{Store, Row, Around, lent, row_at, rows, with_cell}
use Rattle.storage.specs.View.{view, show, show_in}
use Rattle.storage.specs.Finding.{live_in}
use Rattle.storage.specs.declared.Cell.{Cell}
use Rattle.storage.specs.declared.Slot.{Slot}
use Rattle.storage.specs.declared.State.{State}
use Rattle.storage.specs.declared.State.TheVariants.{Closed, Unbound, Bound, Listening, Connected}
use Rattle.storage.specs.declared.Listener.{Listener}
use Rattle.storage.specs.declared.Connection.{Connection}
use Rattle.storage.proofs.Coding.{back, back_gen, listening_inj, connected_inj, loaded_at}
use Rattle.storage.proofs.Pasted.{part_at}
use Rattle.storage.proofs.Framing.{store_rows}
use Rattle.storage.proofs.Around.{store_around, around_then, roomy_around}
use Rattle.storage.proofs.Viewed.{seen, put_view}
use Rattle.table.specs.Admission.{Admitted}
use Rattle.table.specs.Formed.{queue_in, tied, tied_state}
use Rattle.table.proofs.Links.{Entry, Entries, entries_of, queue_long}
use Rattle.promise.specs.Answers.{refused_with, accepted_with}
use Rattle.promise.specs.Hidden.{hidden_in, hidden_after, from_queue, queue_on, room_after}
use Rattle.promise.specs.Promise.{Lists, Stored, Done}
use Rattle.promise.specs.declared.Answer.{Answer}
use Rattle.promise.proofs.Asked.{slot_in}
use Rattle.promise.proofs.Known.{Known, known, refused_done, listener_at, inbox_stays}
use Rattle.promise.proofs.Live.{stale_run, live_run, not_closed}
use Rattle.promise.proofs.Kept.{other_state, row_changed, row_other}
use Rattle.promise.proofs.Changed.{Fit, fit_same, placed, fields_listening, rows_stored, accepted_done}
use Rattle.promise.proofs.Called.{Called, called, become_is}
use Rattle.promise.proofs.Held.{inbox-in, connected_fit}
use Rattle.accepting.proofs.Listening.{range_is}

-- ── The oldest of the pending servers ──

pub record Front (n : ℕ) (w : List ℕ) (i : ℕ) (q : Listener) (v : ℕ) : Type 0 where
  pub head_in : q.head < n
  pub few : q.pending ≤ n
  pub name_low : q.name ≤ 255
  pub backlog_low : q.backlog < 4294967296
  pub entries : Entries n w i q
  pub entry : Entry n w i q.head v

pub front : (n c : ℕ) (s : Store) (i : ℕ) (q : Listener) (v : ℕ) → Known n c s → i < n → state_of (cell_at s.words i) ≡ Listening q → q.pending ≢ 0
    → v ≡ get_or s.words (queue_base n i + q.head) 0 → Front n s.words i q v
unfolding tied
front n c s i q v k hi e some ev =
    let z = listener_at k hi e in
    let es : Entries n s.words i q = entries_of n s.words i q (subst (λ (σ : State). tied_state n s.words i σ ≡ true) e (k.ties i hi)) in
    let none : q.head + 0 ≡ q.head = omega arith in
    let here : place_of n (q.head + 0) ≡ q.head = ap (place_of n) none ∙ sym (place_low n q.head z.2).0 in
    let is_v : get_or (queue_in n s.words i) q.head 0 ≡ v = part_at (queue_base n i) n s.words q.head z.2 ∙ sym ev in
    record {
      head_in = z.2;
      few = z.3;
      name_low = z.0;
      backlog_low = z.1;
      entries = es;
      entry =
          subst (λ (y : ℕ). Entry n s.words i q.head y) is_v
          (subst (λ (a : ℕ). Entry n s.words i a (get_or (queue_in n s.words i) a 0)) here (es.each 0 (omega arith)));
    }

cons_of : (l : List ℕ) → length l ≢ 0 → l ≡ get_or l 0 0 ∷ drop 1 l
cons_of [] ne = absurd (ne refl)
cons_of (x ∷ l) ne = refl

-- the queue is that server, and what is queued behind it
queue_front : (r : List ℕ) (h m p v : ℕ) → h < length r → m ≢ 0 → m ≤ length r → p ≡ place_of (length r) (h + 1) → get_or r h 0 ≡ v → queued r h m ≡ v ∷ queued r p (m - 1)
queue_front r h m p v hh ne hm ep ev =
    let l = queued-length r h hh m hm in
    let none : h + 0 ≡ h = omega arith in
    let pl : Place (length r) (h + 0) h = record { low = λ z. sym none; high = λ z. omega arith } in
    cons_of (queued r h m) (λ z. ne (omega arith))
    ∙ ap₂ ◌∷◌ (queued_at r h hh m 0 h (omega arith) hm pl ∙ ev) (queued-drop r h 1 m p hh (omega arith) hm (place_is (length r) (h + 1) p ep))

-- ── What the parts of the call ask ──

module _ {n c : ℕ} {w b t : List ℕ} {x y : ℕ} (a : Admitted n c (lent w b t) x y) (h : ℕ) (v : Bool) (ev : v ≡ live_in n w h) (lv : not v ≡ false) (i : ℕ) (ei : i ≡ slot_of h) (z : Slot)
    (ez : z ≡ loaded_at w i) (q : Listener) (eq : z.state ≡ Listening q) where
  is_called : Called n c (lent w b t) h i z.generation (Listening q)
  is_called = called n c (lent w b t) h v i z (Listening q) ev lv ei ez eq

  in-range : (q.name ≤ 255) × (q.backlog < 4294967296) × (q.head < n) × (q.pending ≤ n)
  in-range = listener_at (known a) is_called.within is_called.state

  pub entry_in : (i < n) × (q.head < n) × (8 + 272 * n + n * n ≤ length w)
  entry_in = (is_called.within, in-range.2, a.words)

  pub next_in : q.head + 1 < n + n
  next_in = let d = in-range.2 in omega arith

  pub next_fits : q.head + 1 < 2 ^ 64
  next_fits = let d = in-range.2 in let e = a.few in omega arith

  module _ (some : q.pending ≡ 0 → ⊥) (u : ℕ) (eu : u ≡ get_or w (queue_base n i + q.head) 0) (j : ℕ) (ej : j ≡ slot_of u) where
    pub server_in : 8 + 16 * j + 16 ≤ length w
    server_in = slot_in a j (let d = (front n c (lent w b t) i q u (known a) is_called.within is_called.state some eu).entry.within in omega arith)

    pub server_still_in : (w' : List ℕ) (k : Cell) → w' ≡ store_at w i k → 8 + 16 * j + 16 ≤ length w'
    server_still_in w' k e =
        let d = server_in in
        let f = ap length e ∙ (store_around n c w b t (known a).roomy i is_called.within k).words_long in
        omega arith

-- ── The two rows ──

abbrev fewer : Listener → ℕ → Listener
fewer q p = record { name = q.name; backlog = q.backlog; head = p; pending = q.pending - 1 }

abbrev handed : Connection → Connection
handed k = record { peer = k.peer; inbox = k.inbox; inbox_closed = k.inbox_closed; outbox_closed = k.outbox_closed; waits = 0; place = 0 }

fewer_fit : (n c g p : ℕ) (q : Listener) (r : Row) → state_of r.cell ≡ Listening q → length r.queue ≡ n → q.name ≤ 255 → q.backlog < 4294967296 → q.head < n → q.pending ≤ n → q.pending ≢ 0
    → p ≡ place_of n (q.head + 1) → p < n → Fit n c r (with_cell (cell_of g (Listening (fewer q p))) r)
unfolding hidden_in hidden_after from_queue queue_on room_after show_in cell_of state_of
fewer_fit n c g p q r e lq a b hh hp some ep lp =
    let one : length (queued r.queue q.head q.pending) - length (queued r.queue p (q.pending - 1)) ≡ 1 =
    let x = queued-length r.queue q.head (omega arith) q.pending (omega arith) in
    let y = queued-length r.queue p (omega arith) (q.pending - 1) (omega arith) in
    omega arith in
    record {
      fields = fields_listening g (fewer q p);
      ranges = range_is n c (fewer q p) a b lp (omega arith);
      numbers = rw (e, one, sym ep);
      room = refl;
    }

handed_fit : (n c g : ℕ) (k : Connection) (r : Row) → state_of r.cell ≡ Connected k → InRange c k.inbox → Fit n c r (with_cell (cell_of g (Connected (handed k))) r)
unfolding placed hidden_in
handed_fit n c g k r e z =
    connected_fit r (with_cell (cell_of g (Connected (handed k))) r) g k (handed k) e refl n c refl z refl (sym (inbox_stays c k _ z.head_in z.first_in))

shown_cell : (g : ℕ) (σ : State) (r : Row) → show (with_cell (cell_of g σ) r) ≡ show_in (with_cell (cell_of g σ) r) g σ
shown_cell g σ r = ap₂ (show_in (with_cell (cell_of g σ) r)) (back_gen g σ) (back g σ)

-- ── The table after it ──

give_is : (t : Table) (v j : ℕ) (x : model.Slot) → j ≡ slot_of v → at t j ≡ x → give t v ≡ put t j (record { gen = x.gen; in_use = x.in_use; given = true; state = x.state })
unfolding give
give_is t v j x ej ex =
    ap (λ (a : ℕ). put t a (record { gen = (at t a).gen; in_use = (at t a).in_use; given = true; state = (at t a).state })) (sym ej)
    ∙ ap (λ (y : model.Slot). put t j (record { gen = y.gen; in_use = y.in_use; given = true; state = y.state })) ex

-- the server in slot j, handed out
given_next : (n c : ℕ) (s : Store) (t : Table) (v j g : ℕ) (k : Connection) → j ≡ slot_of v → at t j ≡ show_in (row_at n c s j) g (Connected k)
    → give t v ≡ put t j (show (with_cell (cell_of g (Connected (handed k))) (row_at n c s j)))
unfolding show_in
given_next n c s t v j g k ej es = give_is t v j _ ej es ∙ ap (put t j) (sym (shown_cell g (Connected (handed k)) (row_at n c s j)))

accept_answer : (t : Table) (h : ℕ) (m : List ℕ) (b v : ℕ) (l rest : List ℕ) → l ≡ v ∷ rest
    → do_accept t h (model.State.Listening m b l) ≡ answer (give (become t h (model.State.Listening m b rest)) v) v (registry ∷ []) []
unfolding do_accept
accept_answer t h m b v l rest e = rw e

-- ── The entries after it ──

entry_moved : (n : ℕ) (w w' : List ℕ) (l a a' x x' : ℕ) → a' ≡ a → x' ≡ x → Entry n w l a x → cell_at w' (slot_of x) ≡ cell_at w (slot_of x) → Entry n w' l a' x'
entry_moved n w w' l a a' x x' ea ex en e =
    subst (λ (y : ℕ). Entry n w' l a' y) (sym ex)
    (subst (λ (y : ℕ). Entry n w' l y x) (sym ea)
    (record {
      within = en.within;
      whole = ap (λ (k : Cell). handle k.generation (slot_of x)) e ∙ en.whole;
      server = en.server;
      is_server = ap state_of e ∙ en.is_server;
      waits_there = en.waits_there;
      stands_there = en.stands_there;
    }))

-- two servers of one slot wait at one place
one_server : {n : ℕ} {w : List ℕ} {l l' a a' x y : ℕ} → Entry n w l a x → Entry n w l' a' y → slot_of x ≡ slot_of y → (l ≡ l') × (a ≡ a')
one_server {n} {w} {l} {l'} {a} {a'} {x} {y} p q e =
    let same : p.server ≡ q.server = connected_inj (sym p.is_server ∙ ap (λ (z : ℕ). state_of (cell_at w z)) e ∙ q.is_server) in
    let ew : p.server.waits ≡ q.server.waits = ap (λ (z : Connection). z.waits) same in
    let pw = p.waits_there in
    let qw = q.waits_there in
    (omega arith, sym p.stands_there ∙ ap (λ (z : Connection). z.place) same ∙ q.stands_there)

further : (n h p k : ℕ) → h < n → k + 1 < n → p ≡ place_of n (h + 1) → place_of n (p + k) ≡ place_of n (h + (1 + k))
further n h p k hh hk ep =
    let a : Place n (h + 1) p = place_is n (h + 1) p ep in
    let b : Place n (h + (1 + k)) (place_of n (h + (1 + k))) = place_is n (h + (1 + k)) (place_of n (h + (1 + k))) refl in
    let c : Place n (p + k) (place_of n (h + (1 + k))) = place_further n h 1 k hh (omega arith) a b in
    one_place n (p + k) _ _ (place_is n (p + k) (place_of n (p + k)) refl) c
  where
    one_place : (n k a b : ℕ) → Place n k a → Place n k b → a ≡ b
    one_place n k a b x y = elim (dec_lt k n) [ yes z ↦ x.low z ∙ sym (y.low z) | no z ↦ let u = x.high (omega arith) in let v = y.high (omega arith) in omega arith ]

-- ── Each return ──

accept_other : (t : Table) (h : ℕ) (r : Row) (g : ℕ) (σ : State) → ((q : Listener) → σ ≢ Listening q) → σ ≢ Closed → do_accept t h (show_in r g σ).state ≡ refuse t 2
unfolding do_accept show_in
accept_other t h r g Closed a b = absurd (b refl)
accept_other t h r g Unbound a b = refl
accept_other t h r g (Bound k) a b = refl
accept_other t h r g (Listening q) a b = absurd (a q refl)
accept_other t h r g (Connected k) a b = refl

accept_empty : (t : Table) (h : ℕ) (r : Row) (g : ℕ) (q : Listener) → q.pending ≡ 0 → do_accept t h (show_in r g (Listening q)).state ≡ refuse t 8
unfolding do_accept show_in queued
accept_empty t h r g q e = rw e

module _ (n c : ℕ) (s : Store) (l : Lists) (h : ℕ) (r : Answer) (b : Bool) (eb : b ≡ live_in n s.words h) where
  pub accept_stale : not b ≡ true → r ≡ refused_with 1 → Done (run (view n c s) (Call.Accept h)) n c s s l l r
  unfolding run
  accept_stale d er = refused_done _ 1 n c s l r (stale_run n c s h b _ eb d) (λ z. omega arith) er

  module _ (lv : not b ≡ false) (i : ℕ) (ei : i ≡ slot_of h) (x : Slot) (ex : x ≡ loaded_at s.words i) where
    at_state : (σ : State) → x.state ≡ σ → Called n c s h i x.generation σ
    at_state σ es = called n c s h b i x σ eb lv ei ex es

    asked : (σ : State) → x.state ≡ σ → run (view n c s) (Call.Accept h) ≡ do_accept (view n c s) h (show_in (row_at n c s i) x.generation σ).state
    unfolding run
    asked σ es = let d = at_state σ es in live_run n c s h _ d.lives ∙ ap (do_accept (view n c s) h) d.state_shown

    pub accept_not : ((q : Listener) → x.state ≢ Listening q) → r ≡ refused_with 2 → Done (run (view n c s) (Call.Accept h)) n c s s l l r
    accept_not ne er =
        refused_done _ 2 n c s l r
        (asked x.state refl ∙ accept_other (view n c s) h (row_at n c s i) x.generation x.state ne
        (λ z. let d = at_state Closed z in not_closed n c s h d.lives (ap (λ (j : ℕ). state_of (cell_at s.words j)) (sym ei) ∙ d.state)))
        (λ z. omega arith) er

    module _ (q : Listener) (es : x.state ≡ Listening q) where
      pub accept_none : q.pending ≡ 0 → r ≡ refused_with 8 → Done (run (view n c s) (Call.Accept h)) n c s s l l r
      accept_none z er =
          refused_done _ 8 n c s l r (asked (Listening q) es ∙ accept_empty (view n c s) h (row_at n c s i) x.generation q z) (λ y. omega arith) er

      module _ (kn : Known n c s) (some : q.pending ≢ 0) (v : ℕ) (ev : v ≡ get_or s.words (queue_base n i + q.head) 0) (j : ℕ) (ej : j ≡ slot_of v) (y : Slot)
          (ey : y ≡ loaded_at s.words j) where
        me : Called n c s h i x.generation (Listening q)
        me = at_state (Listening q) es

        oldest : Front n s.words i q v
        oldest = front n c s i q v kn me.within me.state some ev

        -- an entry of a queue is of a connected socket
        pub accept_damaged : ((k : Connection) → y.state ≢ Connected k) → Done (run (view n c s) (Call.Accept h)) n c s s l l r
        accept_damaged ne =
            absurd (ne oldest.entry.server (ap (λ (z : Slot). z.state) ey ∙ ap (λ (a : ℕ). state_of (cell_at s.words a)) ej ∙ oldest.entry.is_server))

        module _ (k : Connection) (ek : y.state ≡ Connected k) (p : ℕ) (ep : (p ≡ place_of n (q.head + 1)) × (p < n)) where
          hi : i < n
          hi = me.within

          hj : j < n
          hj = let z = oldest.entry.within in omega arith

          waits_here : state_of (cell_at s.words j) ≡ Connected k
          waits_here = sym (ap (λ (z : Slot). z.state) ey) ∙ ek

          apart : j ≢ i
          apart z = other_state (sym waits_here ∙ ap (λ (a : ℕ). state_of (cell_at s.words a)) z ∙ me.state) (λ u. omega arith)

          -- ── The storage after it ──

          abbrev cell₁ : Cell
          cell₁ = cell_of x.generation (Listening (fewer q p))

          abbrev cell₂ : Cell
          cell₂ = cell_of y.generation (Connected (handed k))

          abbrev s₁ : Store
          s₁ = lent (store_at s.words i cell₁) s.bytes s.tokens

          abbrev s₂ : Store
          s₂ = lent (store_at (store_at s.words i cell₁) j cell₂) s.bytes s.tokens

          abbrev row₁ : Row
          row₁ = with_cell cell₁ (row_at n c s i)

          abbrev row₂ : Row
          row₂ = with_cell cell₂ (row_at n c s j)

          around₁ : Around n c s s₁
          around₁ = store_around n c s.words s.bytes s.tokens kn.roomy i hi cell₁

          around₂ : Around n c s s₂
          around₂ = around_then around₁ (store_around n c (store_at s.words i cell₁) s.bytes s.tokens (roomy_around around₁ kn.roomy) j hj cell₂)

          rows₁ : rows n c s₁ ≡ set (rows n c s) i row₁
          rows₁ = store_rows n c s.words s.bytes s.tokens kn.roomy i hi cell₁

          rows₂ : rows n c s₂ ≡ set (rows n c s₁) j row₂
          rows₂ =
              store_rows n c (store_at s.words i cell₁) s.bytes s.tokens (roomy_around around₁ kn.roomy) j hj cell₂
              ∙ ap (λ (u : Row). set (rows n c s₁) j (with_cell cell₂ u)) (row_other n c s s₁ i row₁ hi rows₁ j hj apart)

          listener_row : row_at n c s₂ i ≡ row₁
          listener_row = row_other n c s₁ s₂ j row₂ hj rows₂ i hi (λ z. apart (sym z)) ∙ row_changed n c s s₁ i row₁ hi rows₁

          server_row : row_at n c s₂ j ≡ row₂
          server_row = row_changed n c s₁ s₂ j row₂ hj rows₂

          other_row : (z : ℕ) → z < n → z ≢ i → z ≢ j → row_at n c s₂ z ≡ row_at n c s z
          other_row z hz a d = row_other n c s₁ s₂ j row₂ hj rows₂ z hz d ∙ row_other n c s s₁ i row₁ hi rows₁ z hz a

          -- ── The table after it ──

          ring_long : length (row_at n c s i).queue ≡ n
          unfolding row_at
          ring_long = queue_long n c s kn.roomy i hi

          ring_front : get_or (row_at n c s i).queue q.head 0 ≡ v
          unfolding row_at
          ring_front = part_at (queue_base n i) n s.words q.head oldest.head_in ∙ sym ev

          queue_was : queued (row_at n c s i).queue q.head q.pending ≡ v ∷ queued (row_at n c s i).queue p (q.pending - 1)
          queue_was =
              let z = ring_long in
              let a = oldest.head_in in
              let d = oldest.few in
              queue_front (row_at n c s i).queue q.head q.pending p v (omega arith) some (omega arith) (ep.0 ∙ ap (λ (u : ℕ). place_of u (q.head + 1)) (sym z)) ring_front

          server_shown : at (put (view n c s) i (show row₁)) j ≡ show_in (row_at n c s j) y.generation (Connected k)
          server_shown =
              at_put_other (view n c s) i (show row₁) j apart ∙ seen n c s j (Connected k) hj waits_here
              ∙ ap (λ (g : ℕ). show_in (row_at n c s j) g (Connected k)) (sym (ap (λ (z : Slot). z.generation) ey))

          next : run (view n c s) (Call.Accept h) ≡ answer (put (put (view n c s) i (show row₁)) j (show row₂)) v (registry ∷ []) []
          unfolding show_in cell_of state_of
          next =
              asked (Listening q) es
              ∙ accept_answer (view n c s) h (take q.name (row_at n c s i).room) q.backlog v _ (queued (row_at n c s i).queue p (q.pending - 1)) queue_was
              ∙ ap (λ (t : Table). answer (give t v) v (registry ∷ []) []) (become_is (view n c s) h i _ _ ei me.shown)
              ∙ ap (λ (t : Table). answer t v (registry ∷ []) []) (given_next n c s (put (view n c s) i (show row₁)) v j y.generation k ej server_shown)

          shown : view n c s₂ ≡ (run (view n c s) (Call.Accept h)).next
          shown =
              put_view n c s₁ s₂ j row₂ rows₂ ∙ ap (λ (t : Table). put t j (show row₂)) (put_view n c s s₁ i row₁ rows₁)
              ∙ sym (ap (λ (o : Outcome). o.next) next)

          -- ── Row by row ──

          fit : (z : ℕ) → z < n → Fit n c (row_at n c s z) (row_at n c s₂ z)
          unfolding row_at
          fit z hz =
              elim (dec_eq z i) [
                | yes e ↦ subst (λ (u : ℕ). Fit n c (row_at n c s u) (row_at n c s₂ u)) (sym e)
                    (subst (Fit n c (row_at n c s i)) (sym listener_row)
                    (fewer_fit n c x.generation p q (row_at n c s i) me.state ring_long oldest.name_low oldest.backlog_low oldest.head_in oldest.few some ep.0 ep.1))
                | no a ↦ elim (dec_eq z j) [
                  | yes e ↦ subst (λ (u : ℕ). Fit n c (row_at n c s u) (row_at n c s₂ u)) (sym e)
                      (subst (Fit n c (row_at n c s j)) (sym server_row)
                      (handed_fit n c y.generation k (row_at n c s j) waits_here (inbox-in kn hj waits_here)))
                  | no d ↦ subst (Fit n c (row_at n c s z)) (sym (other_row z hz a d)) (fit_same n c (row_at n c s z) (kn.fields z hz) (kn.ranges z hz))
                ]
              ]

          -- another server stays as it is
          server_kept : (z a u : ℕ) → Entry n s.words z a u → slot_of u ≢ j → cell_at s₂.words (slot_of u) ≡ cell_at s.words (slot_of u)
          unfolding row_at
          server_kept z a u en d =
              ap (λ (t : Row). t.cell)
              (other_row (slot_of u) en.within
              (λ e. other_state (sym en.is_server ∙ ap (λ (b : ℕ). state_of (cell_at s.words b)) e ∙ me.state) (λ t. omega arith)) d)

          -- the queue without its oldest
          left : Entries n s₂.words i (fewer q p)
          unfolding row_at
          left =
              record {
                each = λ m hm.
                    let few = oldest.few in
                    let en = oldest.entries.each (1 + m) (omega arith) in
                    let a : ℕ = place_of n (q.head + (1 + m)) in
                    let ea : place_of n (p + m) ≡ a = further n q.head p m oldest.head_in (omega arith) ep.0 in
                    let ring : queue_in n s₂.words i ≡ queue_in n s.words i = ap (λ (t : Row). t.queue) listener_row in
                    let at_head : Place n q.head q.head = record { low = λ z. refl; high = λ z. let t = oldest.head_in in omega arith } in
                    entry_moved n s.words s₂.words i a (place_of n (p + m)) _ _ ea (ap₂ (λ (u : List ℕ) (b : ℕ). get_or u b 0) ring ea) en
                    (server_kept i a _ en
                    (λ e. place_apart at_head (place_is n (q.head + (1 + m)) a refl) (omega arith) (omega arith) (sym (one_server en oldest.entry (e ∙ ej)).1)));
              }

          others : (z : ℕ) → z < n → z ≢ i → z ≢ j → (q' : Listener) → state_of (cell_at s.words z) ≡ Listening q' → Entries n s₂.words z q'
          unfolding row_at tied
          others z hz a d q' e =
              let old : Entries n s.words z q' = entries_of n s.words z q' (subst (λ (σ : State). tied_state n s.words z σ ≡ true) e (kn.ties z hz)) in
              let ring : queue_in n s₂.words z ≡ queue_in n s.words z = ap (λ (t : Row). t.queue) (other_row z hz a d) in
              record {
                each = λ m hm.
                    let en = old.each m hm in
                    entry_moved n s.words s₂.words z (place_of n (q'.head + m)) _ _ _ refl (ap (λ (u : List ℕ). get_or u (place_of n (q'.head + m)) 0) ring) en
                    (server_kept z _ _ en (λ t. a (one_server en oldest.entry (t ∙ ej)).0));
              }

          entries : (z : ℕ) → z < n → (q' : Listener) → state_of (cell_at s₂.words z) ≡ Listening q' → Entries n s₂.words z q'
          unfolding row_at
          entries z hz q' e =
              elim (dec_eq z i) [
                | yes t ↦
                    let is : state_of (cell_at s₂.words z) ≡ Listening (fewer q p) =
                    ap (λ (u : ℕ). state_of (cell_at s₂.words u)) t ∙ ap (λ (u : Row). state_of u.cell) listener_row ∙ back x.generation (Listening (fewer q p)) in
                    subst (λ (u : ℕ). Entries n s₂.words u q') (sym t) (subst (Entries n s₂.words i) (listening_inj (sym is ∙ e)) left)
                | no a ↦ elim (dec_eq z j) [
                  | yes t ↦
                      other_state
                      (sym (ap (λ (u : ℕ). state_of (cell_at s₂.words u)) t ∙ ap (λ (u : Row). state_of u.cell) server_row ∙ back y.generation (Connected (handed k))) ∙ e)
                      (λ u. omega arith)
                  | no d ↦ others z hz a d q' (sym (ap (λ (u : Row). state_of u.cell) (other_row z hz a d)) ∙ e)
                ]
              ]

          pub accept_made : (w₁ w₂ : List ℕ) (l' : Lists) → w₁ ≡ store_at s.words i cell₁ → w₂ ≡ store_at w₁ j cell₂ → l'.wakes ≡ set l.wakes 0 0 → l'.releases ≡ l.releases
              → r ≡ accepted_with v 1 → Done (run (view n c s) (Call.Accept h)) n c s (lent w₂ s.bytes s.tokens) l l' r
          accept_made w₁ w₂ l' e₁ e₂ el er ea =
              accepted_done _ _ v (registry ∷ []) n c s _ l l' r next
              (subst (λ (u : List ℕ). Stored n c s (lent u s.bytes s.tokens) (run (view n c s) (Call.Accept h))) (sym (e₂ ∙ ap (λ (u : List ℕ). store_at u j cell₂) e₁))
              (rows_stored n c s s₂ (Call.Accept h) kn around₂ shown fit entries))
              el er ea
