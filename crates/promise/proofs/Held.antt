-- An open connected socket of an admitted table, and what its row shows with another inbox or other ends.
use mathlib.Core.Path.{◌≡◌, refl, sym, ap, ap₂, ◌∙◌, subst}
use mathlib.Core.Bool.{Bool, true, false, cond, ◌&&◌}
use mathlib.Core.List.{List}
use Prim.Native.Nat.{ℕ, ◌+◌, ◌-◌, ◌≤◌, ◌<◌}
use native.Mathlib.Omega.{arith}
use lib.Dec.{leb, eqb}
use lib.ListN.{length}
use borrow.Author.Tests.{lt-ltb, le-leb, eqb-true}
use Rattle.laws.proofs.Tests.{and_right}
use Rattle.ring.specs.Ring.{place_of}
use Rattle.inbox.specs.View as inbox
use Rattle.inbox.specs.View.{count}
use Rattle.inbox.specs.Well.{Well}
use Rattle.inbox.specs.Promise.{move_on}
use Rattle.inbox.specs.declared.Inbox.{Inbox}
use Rattle.inbox.proofs.Offsets.{dist_gone}
use Rattle.inbox.proofs.Shows.{length-bytes, length-items, items_are_all}
use Rattle.inbox.proofs.Kept.{InRange, ok_well}
use Rattle.rules.specs.Table as model
use Rattle.rules.specs.Table.{Table, at, put, slot_of, is_open, become}
use Rattle.rules.specs.Inbox.{all_items}
use Rattle.rules.proofs.InboxOk.{InboxOk}
use Rattle.rules.proofs.Ends.{StateOk}
use Rattle.storage.specs.Layout.{places_base, ring_base, tokens_base}
use Rattle.storage.specs.Cells.{cell_at, state_of, cell_of}
use Rattle.storage.specs.Rows.{Store, Row, row_at, Roomy}
use Rattle.storage.specs.View.{view, show, show_in}
use Rattle.storage.specs.declared.Cell.{Cell}
use Rattle.storage.specs.declared.State.{State}
use Rattle.storage.specs.declared.State.TheVariants.{Closed, Unbound, Bound, Listening, Connected}
use Rattle.storage.specs.declared.Connection.{Connection}
use Rattle.storage.specs.declared.Listener.{Listener}
use Rattle.storage.proofs.Pasted.{length_part}
use Rattle.storage.proofs.Strides.{row_before}
use Rattle.storage.proofs.Coding.{back, back_gen, connected_inj}
use Rattle.storage.proofs.Viewed.{seen}
use Rattle.table.specs.Formed.{fields_well, pair_fields, no_name, no_queue, ranges_well, inbox_range}
use Rattle.promise.specs.Hidden.{Hidden, hidden_in, hidden_after, from_inbox, inbox_on, room_after}
use Rattle.promise.proofs.Known.{Known, inbox-range}
use Rattle.promise.proofs.Kept.{Keeps, other_state}
use Rattle.promise.proofs.Changed.{Fit, placed, fields_connected}
use Rattle.promise.proofs.Called.{become_is}
use Rattle.promise.proofs.Live.{opened}

-- ── The rings of a row ──

module _ (n c : ℕ) (s : Store) (f : Roomy n c s) (i : ℕ) (hi : i < n) where
  pub ring_long : length (row_at n c s i).ring ≡ c
  unfolding row_at
  ring_long = let z = row_before c i n hi in let b = f.bytes in length_part (ring_base c i) c s.bytes (omega arith)

  pub places_long : length (row_at n c s i).places ≡ 256
  unfolding row_at
  places_long = let w = f.words in length_part (places_base n i) 256 s.words (omega arith)

  pub tokens_long : length (row_at n c s i).tokens ≡ 256
  unfolding row_at
  tokens_long = let t = f.tokens in length_part (tokens_base i) 256 s.tokens (omega arith)

-- ── The inbox of a row ──

abbrev pub inbox_in : Row → Inbox → model.Inbox
inbox_in r q = inbox.view r.ring r.places r.tokens q

-- what is queued in it
pub record Sized (i : model.Inbox) (q : Inbox) : Type 0 where
  pub bytes : length i.bytes ≡ count q
  pub items : length (all_items i.groups) ≡ q.items

pub sized : (ring places tokens : List ℕ) (q : Inbox) → length places ≡ 256 → length tokens ≡ 256 → InRange (length ring) q → Sized (inbox.view ring places tokens q) q
sized ring places tokens q lp lt w =
    record {
      bytes = length-bytes ring q w.head_in w.fits;
      items = ap length (items_are_all places tokens q lp lt w.first_in w.items-in) ∙ length-items tokens q lt w.first_in w.items-in;
    }

pub inbox-in : {n c : ℕ} {s : Store} → Known n c s → {i : ℕ} → i < n → {k : Connection} → state_of (cell_at s.words i) ≡ Connected k → InRange c k.inbox
inbox-in {n} {c} kn {i} hi {k} e =
    let g = inbox-range n c k (subst (λ (σ : State). ranges_well n c σ ≡ true) e (kn.ranges i hi)) in
    record { head_in = g.0; fits = g.1; first_in = g.2; items-in = g.3 }

in_ranges : (n c : ℕ) (k : Connection) → InRange c k.inbox → ranges_well n c (Connected k) ≡ true
unfolding ranges_well inbox_range
in_ranges n c k r = rw (lt-ltb _ _ r.head_in, le-leb _ _ r.fits, lt-ltb _ _ r.first_in, le-leb _ _ r.items-in)

-- ── An open connected socket ──

-- a well-formed connected cell says no place where it does not wait
told : (a b c d : Bool) (m : ℕ) (l : Listener) (con k : Connection)
    → cond a Unbound (cond b (Bound m) (cond c (Listening l) (cond d (Connected con) Closed))) ≡ Connected k → (d ≡ true) × (con ≡ k)
told true b c d m l con k e = other_state e (λ z. omega arith)
told false true c d m l con k e = other_state e (λ z. omega arith)
told false false true d m l con k e = other_state e (λ z. omega arith)
told false false false true m l con k e = (refl, connected_inj e)
told false false false false m l con k e = other_state e (λ z. omega arith)

places_said : (x : Cell) (k : Connection) → state_of x ≡ Connected k → fields_well x ≡ true → placed k ≡ true
unfolding state_of fields_well pair_fields no_name no_queue placed
places_said x k e f =
    let p = told (eqb x.tag 1) (eqb x.tag 2) (eqb x.tag 3) (eqb x.tag 4) _ _ _ k e in
    let t : x.tag ≡ 4 = eqb-true x.tag 4 p.0 in
    let w : no_name x && no_queue x && pair_fields x ≡ true = rw t at f in
    subst (λ (y : Connection). placed y ≡ true) p.1
    (and_right (leb x.inbox_closed 1 && leb x.outbox_closed 1) (cond (eqb x.waits 0) (eqb x.place 0) true) (and_right (no_name x && no_queue x) (pair_fields x) w))

-- i is the slot of the handle h
pub record Held (n c : ℕ) (s : Store) (h i : ℕ) (k : Connection) : Type 0 where
  pub is_slot : i ≡ slot_of h
  pub within : i < n
  pub opens : is_open (view n c s) h ≡ true
  pub is_connected : state_of (cell_at s.words i) ≡ Connected k
  pub shown : at (view n c s) i ≡ show_in (row_at n c s i) (cell_at s.words i).generation (Connected k)
  pub state_is : model.state_of (view n c s) h ≡ model.State.Connected k.peer.0 (inbox_in (row_at n c s i) k.inbox) k.inbox_closed k.outbox_closed
  pub says : placed k ≡ true
  pub range : InRange c k.inbox
  pub well : Well c (row_at n c s i).places k.inbox
  pub sizes : Sized (inbox_in (row_at n c s i) k.inbox) k.inbox

pub held : (n c : ℕ) (s : Store) (h i : ℕ) (k : Connection) → Known n c s → i ≡ slot_of h → is_open (view n c s) h ≡ true → state_of (cell_at s.words i) ≡ Connected k → Held n c s h i k
unfolding model.state_of show_in view
held n c s h i k kn ei o e =
    let hi : i < n = let z = (opened n c s h o).within in omega arith in
    let r = row_at n c s i in
    let sh : at (view n c s) i ≡ show_in r (cell_at s.words i).generation (Connected k) = seen n c s i (Connected k) hi e in
    let st : model.state_of (view n c s) h ≡ model.State.Connected k.peer.0 (inbox_in r k.inbox) k.inbox_closed k.outbox_closed =
    ap (λ (j : ℕ). (at (view n c s) j).state) (sym ei) ∙ ap (λ (x : model.Slot). x.state) sh in
    let ok : InboxOk c (inbox_in r k.inbox) = subst (StateOk c) st (kn.good.sound.inboxes.ok h o) in
    let g : InRange c k.inbox = inbox-in kn hi e in
    let lr = ring_long n c s kn.roomy i hi in
    let lp = places_long n c s kn.roomy i hi in
    let lt = tokens_long n c s kn.roomy i hi in
    let gr : InRange (length r.ring) k.inbox = subst (λ (x : ℕ). InRange x k.inbox) (sym lr) g in
    record {
      is_slot = ei;
      within = hi;
      opens = o;
      is_connected = e;
      shown = sh;
      state_is = st;
      says = places_said (cell_at s.words i) k e (kn.fields i hi);
      range = g;
      well =
          subst (λ (x : ℕ). Well x r.places k.inbox) lr
          (ok_well r.ring r.places r.tokens k.inbox lp lt gr (subst (λ (x : ℕ). InboxOk x (inbox_in r k.inbox)) (sym lr) ok));
      sizes = sized r.ring r.places r.tokens k.inbox lp lt gr;
    }

-- ── The numbers that the view forgets ──

pub hidden_of : {b b' w w' r r' f f' : ℕ} → b ≡ b' → w ≡ w' → r ≡ r' → f ≡ f'
    → ◌≡◌ {A = Hidden} (record { head = 0; byte = b; written = w; read = r; first = f }) (record { head = 0; byte = b'; written = w'; read = r'; first = f' })
hidden_of a b c d = rw (a, b, c, d)

-- d bytes and g items have gone
pub gone_hidden : (c : ℕ) (k k' : Connection) (i j : model.Inbox) (d g : ℕ) → d ≤ count k.inbox → g ≤ k.inbox.items → Sized i k.inbox → k'.inbox ≡ move_on c k.inbox d g
    → Sized j k'.inbox → hidden_in (Connected k') ≡ inbox_on c (hidden_in (Connected k)) i j
unfolding hidden_in inbox_on
gone_hidden c k k' i j d g hd hg si e sj =
    let q = k.inbox in
    let sj' : Sized j (move_on c q d g) = subst (Sized j) e sj in
    let gone : count (move_on c q d g) ≡ count q - d = dist_gone q.written_total q.read_total d hd in
    let bi : length i.bytes ≡ count q = si.bytes in
    let bj : length j.bytes ≡ count q - d = sj'.bytes ∙ gone in
    let ti : length (all_items i.groups) ≡ q.items = si.items in
    let tj : length (all_items j.groups) ≡ q.items - g = sj'.items in
    let eb : length i.bytes - length j.bytes ≡ d = omega arith in
    let et : length (all_items i.groups) - length (all_items j.groups) ≡ g = omega arith in
    let ez : length j.bytes - length i.bytes ≡ 0 = omega arith in
    ap (λ (x : Inbox). hidden_in (Connected (record { peer = k'.peer; inbox = x; inbox_closed = k'.inbox_closed; outbox_closed = k'.outbox_closed; waits = k'.waits; place = k'.place }))) e
    ∙ hidden_of (ap (λ (x : ℕ). place_of c (q.head + x)) (sym eb)) (rw ez (omega arith)) (rw eb (omega arith)) (ap (λ (x : ℕ). place_of 256 (q.first + x)) (sym et))

-- ── A connected row that is connected still ──

pub placed_same : (k k' : Connection) → k'.waits ≡ k.waits → k'.place ≡ k.place → placed k ≡ true → placed k' ≡ true
unfolding placed
placed_same k k' ew ep p = rw (ew, ep) p

module _ (r r' : Row) (g : ℕ) (k k' : Connection) (e : state_of r.cell ≡ Connected k) (e' : r'.cell ≡ cell_of g (Connected k')) where
  after : state_of r'.cell ≡ Connected k'
  after = ap state_of e' ∙ back g (Connected k')

  pub connected_fit : (n c : ℕ) → placed k' ≡ true → InRange c k'.inbox → r'.room ≡ r.room
      → hidden_in (Connected k') ≡ inbox_on c (hidden_in (Connected k)) (inbox_in r k.inbox) (inbox_in r' k'.inbox) → Fit n c r r'
  unfolding show_in hidden_after from_inbox room_after
  connected_fit n c p i er f =
      record {
        fields = ap fields_well e' ∙ fields_connected g k' p;
        ranges = ap (ranges_well n c) after ∙ in_ranges n c k' i;
        numbers =
            ap hidden_in after ∙ f
            ∙ sym (ap₂ (λ (σ τ : State). hidden_after n c (hidden_in σ) (show_in r r.cell.generation σ).state (show_in r' r'.cell.generation τ).state) e after);
        room = er ∙ sym (ap₂ (λ (σ τ : State). room_after r.room (show_in r r.cell.generation σ).state (show_in r' r'.cell.generation τ).state) e after);
      }

  module _ (ew : k'.waits ≡ k.waits) where
    pub connected_keeps : g ≡ r.cell.generation → k'.place ≡ k.place → Keeps r r'
    connected_keeps eg ep =
        record {
          servers = λ b f nz.
              let same : k ≡ b = connected_inj (sym e ∙ f) in
              record {
                generation = ap (λ (x : Cell). x.generation) e' ∙ back_gen g (Connected k') ∙ eg;
                server = k';
                is_server = after;
                waits = ew ∙ ap (λ (z : Connection). z.waits) same;
                place = ep ∙ ap (λ (z : Connection). z.place) same;
              };
          listeners = λ l f. other_state (sym after ∙ f) (λ z. omega arith);
        }

    pub connected_put : (t : Table) (h i : ℕ) → i ≡ slot_of h → at t i ≡ show_in r g (Connected k)
        → become t h (model.State.Connected k'.peer.0 (inbox_in r' k'.inbox) k'.inbox_closed k'.outbox_closed) ≡ put t i (show r')
    unfolding show_in
    connected_put t h i ei es =
        become_is t h i _ _ ei es
        ∙ ap (put t i)
        (ap (λ (x : ℕ). record { gen = g; in_use = true; given = eqb x 0; state = model.State.Connected k'.peer.0 (inbox_in r' k'.inbox) k'.inbox_closed k'.outbox_closed }) (sym ew)
        ∙ sym (ap₂ (show_in r') (ap (λ (x : Cell). x.generation) e' ∙ back_gen g (Connected k')) after))
