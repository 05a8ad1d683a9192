-- The storage that connect leaves: three rows change, and every queue's entries are of servers that say so.
use mathlib.Core.Path.{◌≡◌, refl, sym, ap, ap₂, ◌∙◌, subst}
use mathlib.Core.Logic.{◌≢◌}
use mathlib.Core.Bool.{Bool, true, false}
use mathlib.Core.List.{List, [], ◌∷◌, ◌++◌}
use Prim.Native.Nat.{ℕ, suc, ◌+◌, ◌-◌, ◌≤◌, ◌<◌}
use native.Mathlib.Decide.{ℕ_discrete as dec_eq}
use native.Mathlib.Omega.{arith}
use lib.Dec.{eqb}
use lib.ListN.{length, take, get_or, set, length-set}
use lib.Seq.{set-set, get_or-set_same, get_or-set_other}
use borrow.Author.Tests.{ne_eqb, eq-eqb, eqb-true, le-leb, lt-ltb}
use Rattle.laws.proofs.Tests.{cond_both}
use Rattle.ring.specs.Ring.{place_of, queued}
use Rattle.ring.proofs.Queued.{place_apart, queued-length, whole_set, pasted}
use Rattle.ring.proofs.Copying.{place_is, place_low}
use Rattle.inbox.specs.View.{dist, bytes_of, items_in, distances, groups_of}
use Rattle.rules.specs.Table as model
use Rattle.rules.specs.Table.{Table, at, put, slot_of, handle, handle_at, become, enter, free_slot, new_handle}
use Rattle.rules.specs.Inbox.{nothing}
use Rattle.rules.specs.Outcome.{Call}
use Rattle.rules.specs.Connecting.{connected}
use Rattle.rules.specs.Run.{run}
use Rattle.rules.proofs.Frame.{slot_handle}
use Rattle.storage.specs.Layout.{queue_base}
use Rattle.storage.specs.Cells.{cell_at, state_of, store_at, cell_of}
use Rattle.storage.specs.Rows.{Store, Row, Roomy, Around, lent, row_at, rows, with_cell, with_queue}
use Rattle.storage.specs.View.{view, show, show_in, open'}
use Rattle.storage.specs.declared.Cell.{Cell}
use Rattle.storage.specs.declared.State.{State}
use Rattle.storage.specs.declared.State.TheVariants.{Closed, Unbound, Listening, Connected}
use Rattle.storage.specs.declared.Listener.{Listener}
use Rattle.storage.specs.declared.Connection.{Connection}
use Rattle.storage.proofs.Coding.{back, back_gen, connected_inj, listening_inj}
use Rattle.storage.proofs.Pasted.{set-paste}
use Rattle.storage.proofs.Framing.{store_rows, entry_rows}
use Rattle.storage.proofs.Around.{store_around, entry_around, around_then, roomy_around}
use Rattle.storage.proofs.Viewed.{put_view, seen, gen_at}
use Rattle.table.specs.Formed.{queue_in, ahead, inbox_range, ranges_well, tied, tied_state}
use Rattle.table.proofs.Links.{Entry, Entries, entries_of, place_ring, ahead_place, queue_long}
use Rattle.promise.specs.Hidden.{hidden_in, hidden_after, from_queue, queue_on, from_inbox, room_after}
use Rattle.promise.specs.Promise.{Stored}
use Rattle.promise.proofs.Known.{Known, listener_range, listener_at}
use Rattle.promise.proofs.Kept.{row_changed, row_other, other_state}
use Rattle.promise.proofs.Changed.{Fit, fit_same, fields_listening, rows_stored, placed, fields_connected}
use Rattle.pairing.specs.Pairs.{new_end, one_more, pair_in, queue_up, joined}
use Rattle.pairing.proofs.Pigeons.{Different, missed}

-- ── A ring with one more ──

queue_more : (u : List ℕ) (head pending x v : ℕ) → head < length u → pending < length u → x ≡ place_of (length u) (head + pending)
    → queued (set u x v) head (pending + 1) ≡ queued u head pending ++ (v ∷ [])
queue_more u a k x v ha hk ex =
    let p = place_is (length u) (a + k) x ex in
    let lu : length (set u x v) ≡ length u = length-set u x v in
    pasted u (set u x v) (v ∷ []) a k 1 lu ha (omega arith) (omega arith)
    (ap (queued (set u x v) a) lu ∙ whole_set u a k x v ha hk p ∙ set-paste (queued u a (length u)) k v (omega (arith, queued-length u a ha (length u) (omega arith))))

-- ── What the new rows show ──

end_shown : (r : Row) (g p l x : ℕ) → show (with_cell (cell_of g (Connected (new_end p l x))) r)
    ≡ record { gen = g; in_use = true; given = eqb l 0; state = model.State.Connected p nothing false false }
unfolding show_in cell_of state_of dist bytes_of items_in distances groups_of queued
end_shown r g p l x = refl

listener_shown : (r : Row) (g : ℕ) (q : Listener) (u : List ℕ) → show (with_cell (cell_of g (Listening q)) (with_queue u r))
    ≡ open' g (model.State.Listening (take q.name r.room) q.backlog (queued u q.head q.pending))
unfolding show_in cell_of state_of
listener_shown r g q u = refl

-- a row in place of another is the socket in another state
becomes : (n c : ℕ) (s s' : Store) (h i : ℕ) (r : Row) (σ : model.State) → slot_of h ≡ i → rows n c s' ≡ set (rows n c s) i r
    → show r ≡ record { gen = (at (view n c s) i).gen; in_use = (at (view n c s) i).in_use; given = (at (view n c s) i).given; state = σ } → view n c s' ≡ become (view n c s) h σ
unfolding become
becomes n c s s' h i r σ ei er es =
    put_view n c s s' i r er
    ∙ ap (put (view n c s) i) es
    ∙ ap (λ (y : ℕ). put (view n c s) y (record { gen = (at (view n c s) y).gen; in_use = (at (view n c s) y).in_use; given = (at (view n c s) y).given; state = σ })) (sym ei)

-- ── How the new rows fit ──

end_placed : (p l x : ℕ) → (l ≡ 0 → x ≡ 0) → placed (new_end p l x) ≡ true
unfolding placed
end_placed p l x f = cond_both (λ (b : Bool). b ≡ true) (eqb l 0) (λ e. eq-eqb x 0 (f (eqb-true l 0 e))) (λ e. refl)

end_fit : (n c : ℕ) (r : Row) (g p l x : ℕ) → 0 < c → (show r).state ≡ model.State.Unbound → (l ≡ 0 → x ≡ 0) → Fit n c r (with_cell (cell_of g (Connected (new_end p l x))) r)
unfolding ranges_well inbox_range hidden_in hidden_after from_inbox room_after show_in cell_of state_of dist
end_fit n c r g p l x hc un pl =
    record {
      fields = fields_connected g (new_end p l x) (end_placed p l x pl);
      ranges = rw (lt-ltb 0 c hc, le-leb 0 c (omega arith));
      numbers = rw un refl;
      room = refl;
    }

-- the queue is longer at its end, so it starts where it did
listener_fit : (n c : ℕ) (r : Row) (g v x : ℕ) (q : Listener) → state_of r.cell ≡ Listening q → ranges_well n c (Listening q) ≡ true → q.pending < n → length r.queue ≡ n
    → Fit n c r (with_cell (cell_of g (Listening (one_more q))) (with_queue (set r.queue x v) r))
unfolding ranges_well hidden_in hidden_after from_queue queue_on room_after show_in cell_of state_of
listener_fit n c r g v x q e ok hp hq =
    let z = listener_range n c q ok in
    let l₁ : length (queued r.queue q.head q.pending) ≡ q.pending = let y = z.2 in queued-length r.queue q.head (omega arith) q.pending (omega arith) in
    let l₂ : length (queued (set r.queue x v) q.head (q.pending + 1)) ≡ q.pending + 1 =
    let y = z.2 in let w = length-set r.queue x v in queued-length (set r.queue x v) q.head (omega arith) (q.pending + 1) (omega arith) in
    let stay : q.head + (length (queued r.queue q.head q.pending) - length (queued (set r.queue x v) q.head (q.pending + 1))) ≡ q.head = omega arith in
    record {
      fields = fields_listening g (one_more q);
      ranges = rw (le-leb q.name 255 z.0, lt-ltb q.backlog 4294967296 z.1, lt-ltb q.head n z.2, le-leb (q.pending + 1) n (omega arith));
      numbers = rw e (ap (λ (y : ℕ). record { head = y; byte = 0; written = 0; read = 0; first = 0 }) ((place_low n q.head z.2).0 ∙ ap (place_of n) (sym stay)));
      room = refl;
    }

-- ── The storage after connect ──

module _ (n c : ℕ) (s : Store) (k : Known n c s) (h l j : ℕ) (q : Listener) (hi : slot_of h < n) (hl : l < n) (hj : j < n) (unbound : state_of (cell_at s.words (slot_of h)) ≡ Unbound)
    (listens : state_of (cell_at s.words l) ≡ Listening q) (free : state_of (cell_at s.words j) ≡ Closed) where
  abbrev i : ℕ
  i = slot_of h

  -- the new server's generation, its handle and its place
  abbrev g : ℕ
  g = (cell_at s.words j).generation + 1

  abbrev server : ℕ
  server = handle g j

  abbrev x : ℕ
  x = place_of n (q.head + q.pending)

  abbrev cell_j : Cell
  cell_j = cell_of g (Connected (new_end h (l + 1) x))

  abbrev cell_i : Cell
  cell_i = cell_of (cell_at s.words i).generation (Connected (new_end server 0 0))

  abbrev cell_l : Cell
  cell_l = cell_of (cell_at s.words l).generation (Listening (one_more q))

  -- the four stores
  abbrev s₁ : Store
  s₁ = lent (store_at s.words j cell_j) s.bytes s.tokens

  abbrev s₂ : Store
  s₂ = lent (store_at s₁.words i cell_i) s.bytes s.tokens

  abbrev s₃ : Store
  s₃ = lent (set s₂.words (queue_base n l + x) server) s.bytes s.tokens

  abbrev s₄ : Store
  s₄ = lent (store_at s₃.words l cell_l) s.bytes s.tokens

  pub joined_is : lent (joined n s.words h l (cell_at s.words l).generation q j) s.bytes s.tokens ≡ s₄
  unfolding joined pair_in queue_up
  joined_is = refl

  -- ── Numbers ──

  range : (q.name ≤ 255) × (q.backlog < 4294967296) × (q.head < n) × (q.pending ≤ n)
  range = listener_at k hl listens

  entries : Entries n s.words l q
  unfolding tied
  entries = entries_of n s.words l q (subst (λ (σ : State). tied_state n s.words l σ ≡ true) listens (k.ties l hl))

  -- the handle at each place, and its slot
  abbrev entry_at : ℕ → ℕ
  entry_at m = get_or (queue_in n s.words l) (place_of n (q.head + m)) 0

  different : Different q.pending n (λ m. slot_of (entry_at m))
  different =
      record {
        below = λ m hm. (entries.each m hm).within;
        apart = λ a b ha hb e.
            let y = range.2 in
            let z = range.3 in
            let ea = entries.each a ha in
            let eb = entries.each b hb in
            let same : ea.server ≡ eb.server = connected_inj (sym ea.is_server ∙ ap (λ (y : ℕ). state_of (cell_at s.words y)) e ∙ eb.is_server) in
            let places : place_of n (q.head + a) ≡ place_of n (q.head + b) = sym ea.stands_there ∙ ap (λ (y : Connection). y.place) same ∙ eb.stands_there in
            sym (ahead_place n q.head a range.2 (omega arith)) ∙ ap (ahead n q.head) places ∙ ahead_place n q.head b range.2 (omega arith);
      }

  -- a free slot is no server's: there is room for one more
  pub room_left : q.pending < n
  room_left = missed n q.pending (λ m. slot_of (entry_at m)) j hj different (λ m hm e. other_state (sym (entries.each m hm).is_server ∙ ap (λ (y : ℕ). state_of (cell_at s.words y)) e ∙ free) (λ z. omega arith))

  x_in : x < n
  x_in = place_ring n q.head q.pending range.2 room_left

  -- ── Different slots ──

  i_not_j : i ≢ j
  i_not_j e = other_state (sym unbound ∙ ap (λ (y : ℕ). state_of (cell_at s.words y)) e ∙ free) (λ z. omega arith)

  i_not_l : i ≢ l
  i_not_l e = other_state (sym unbound ∙ ap (λ (y : ℕ). state_of (cell_at s.words y)) e ∙ listens) (λ z. omega arith)

  j_not_l : j ≢ l
  j_not_l e = other_state (sym free ∙ ap (λ (y : ℕ). state_of (cell_at s.words y)) e ∙ listens) (λ z. omega arith)

  -- ── Rows ──

  around₁ : Around n c s s₁
  around₁ = store_around n c s.words s.bytes s.tokens k.roomy j hj cell_j

  roomy₁ : Roomy n c s₁
  roomy₁ = roomy_around around₁ k.roomy

  around₂ : Around n c s₁ s₂
  around₂ = store_around n c s₁.words s.bytes s.tokens roomy₁ i hi cell_i

  roomy₂ : Roomy n c s₂
  roomy₂ = roomy_around around₂ roomy₁

  around₃ : Around n c s₂ s₃
  around₃ = entry_around n c s₂.words s.bytes s.tokens roomy₂ l hl x server x_in

  roomy₃ : Roomy n c s₃
  roomy₃ = roomy_around around₃ roomy₂

  around₄ : Around n c s₃ s₄
  around₄ = store_around n c s₃.words s.bytes s.tokens roomy₃ l hl cell_l

  pub around_all : Around n c s s₄
  around_all = around_then around₁ (around_then around₂ (around_then around₃ around₄))

  rows₁ : rows n c s₁ ≡ set (rows n c s) j (with_cell cell_j (row_at n c s j))
  rows₁ = store_rows n c s.words s.bytes s.tokens k.roomy j hj cell_j

  rows₂ : rows n c s₂ ≡ set (rows n c s₁) i (with_cell cell_i (row_at n c s₁ i))
  rows₂ = store_rows n c s₁.words s.bytes s.tokens roomy₁ i hi cell_i

  rows₃ : rows n c s₃ ≡ set (rows n c s₂) l (with_queue (set (row_at n c s₂ l).queue x server) (row_at n c s₂ l))
  rows₃ = entry_rows n c s₂.words s.bytes s.tokens roomy₂ l hl x server x_in

  rows₄ : rows n c s₄ ≡ set (rows n c s₃) l (with_cell cell_l (row_at n c s₃ l))
  rows₄ = store_rows n c s₃.words s.bytes s.tokens roomy₃ l hl cell_l

  row₁ : (y : ℕ) → y < n → y ≢ j → row_at n c s₁ y ≡ row_at n c s y
  row₁ y hy d = row_other n c s s₁ j (with_cell cell_j (row_at n c s j)) hj rows₁ y hy d

  row₂ : (y : ℕ) → y < n → y ≢ i → row_at n c s₂ y ≡ row_at n c s₁ y
  row₂ y hy d = row_other n c s₁ s₂ i (with_cell cell_i (row_at n c s₁ i)) hi rows₂ y hy d

  row₄ : (y : ℕ) → y < n → y ≢ l → row_at n c s₄ y ≡ row_at n c s₂ y
  row₄ y hy d =
      row_other n c s₃ s₄ l (with_cell cell_l (row_at n c s₃ l)) hl rows₄ y hy d
      ∙ row_other n c s₂ s₃ l (with_queue (set (row_at n c s₂ l).queue x server) (row_at n c s₂ l)) hl rows₃ y hy d

  row_j : row_at n c s₄ j ≡ with_cell cell_j (row_at n c s j)
  row_j = row₄ j hj j_not_l ∙ row₂ j hj (λ e. i_not_j (sym e)) ∙ row_changed n c s s₁ j (with_cell cell_j (row_at n c s j)) hj rows₁

  row_i : row_at n c s₄ i ≡ with_cell cell_i (row_at n c s i)
  row_i = row₄ i hi i_not_l ∙ row_changed n c s₁ s₂ i (with_cell cell_i (row_at n c s₁ i)) hi rows₂ ∙ ap (with_cell cell_i) (row₁ i hi i_not_j)

  was_l : row_at n c s₂ l ≡ row_at n c s l
  was_l = row₂ l hl (λ e. i_not_l (sym e)) ∙ row₁ l hl (λ e. j_not_l (sym e))

  abbrev new_l : Row
  new_l = with_cell cell_l (with_queue (set (row_at n c s l).queue x server) (row_at n c s l))

  row₃_l : row_at n c s₃ l ≡ with_queue (set (row_at n c s l).queue x server) (row_at n c s l)
  row₃_l = row_changed n c s₂ s₃ l (with_queue (set (row_at n c s₂ l).queue x server) (row_at n c s₂ l)) hl rows₃ ∙ ap (λ (r : Row). with_queue (set r.queue x server) r) was_l

  row_l : row_at n c s₄ l ≡ new_l
  row_l = row_changed n c s₃ s₄ l (with_cell cell_l (row_at n c s₃ l)) hl rows₄ ∙ ap (with_cell cell_l) row₃_l

  row_same : (y : ℕ) → y < n → y ≢ i → y ≢ j → y ≢ l → row_at n c s₄ y ≡ row_at n c s y
  row_same y hy di dj dl = row₄ y hy dl ∙ row₂ y hy di ∙ row₁ y hy dj

  -- the listener's row from where both ends were stored
  rows_l : rows n c s₄ ≡ set (rows n c s₂) l new_l
  rows_l =
      rows₄ ∙ ap₂ (λ (u : List Row) (r : Row). set u l (with_cell cell_l r)) rows₃ row₃_l ∙ set-set (rows n c s₂) l (with_queue (set (row_at n c s₂ l).queue x server) (row_at n c s₂ l)) new_l

  -- ── The table that it shows ──

  abbrev name_l : List ℕ
  name_l = take q.name (row_at n c s l).room

  abbrev queue_l : List ℕ
  queue_l = queued (row_at n c s l).queue q.head q.pending

  gen_j : g ≡ suc (at (view n c s) j).gen
  gen_j = let z = gen_at n c s j hj in omega arith

  view₁ : view n c s₁ ≡ enter (view n c s) j false (model.State.Connected h nothing false false)
  unfolding enter
  view₁ =
      put_view n c s s₁ j (with_cell cell_j (row_at n c s j)) rows₁
      ∙ ap (put (view n c s) j)
      (end_shown (row_at n c s j) g h (l + 1) x
      ∙ ap₂ (λ (y : ℕ) (b : Bool). record { gen = y; in_use = true; given = b; state = model.State.Connected h nothing false false }) gen_j (ne_eqb (l + 1) 0 (λ e. omega arith)))

  at_i : at (view n c s₁) i ≡ open' (cell_at s.words i).generation model.State.Unbound
  unfolding row_at show_in
  at_i =
      let e = row₁ i hi i_not_j in
      seen n c s₁ i Unbound hi (ap (λ (r : Row). state_of r.cell) e ∙ unbound) ∙ ap (λ (r : Row). open' r.cell.generation model.State.Unbound) e

  view₂ : view n c s₂ ≡ become (view n c s₁) h (model.State.Connected server nothing false false)
  view₂ =
      becomes n c s₁ s₂ h i (with_cell cell_i (row_at n c s₁ i)) (model.State.Connected server nothing false false) refl rows₂
      (end_shown (row_at n c s₁ i) (cell_at s.words i).generation server 0 0
      ∙ sym (ap (λ (y : model.Slot). record { gen = y.gen; in_use = y.in_use; given = y.given; state = model.State.Connected server nothing false false }) at_i))

  at_l : at (view n c s₂) l ≡ open' (cell_at s.words l).generation (model.State.Listening name_l q.backlog queue_l)
  unfolding row_at show_in
  at_l = seen n c s₂ l (Listening q) hl (ap (λ (r : Row). state_of r.cell) was_l ∙ listens) ∙ ap (λ (r : Row). show_in r r.cell.generation (Listening q)) was_l

  long_l : length (row_at n c s l).queue ≡ n
  unfolding row_at
  long_l = queue_long n c s k.roomy l hl

  view₄ : view n c s₄ ≡ become (view n c s₂) (handle_at (view n c s) l) (model.State.Listening name_l q.backlog (queue_l ++ (server ∷ [])))
  view₄ =
      let few = k.roomy.few in
      let y = range.2 in
      let p = room_left in
      let z = long_l in
      becomes n c s₂ s₄ (handle_at (view n c s) l) l new_l (model.State.Listening name_l q.backlog (queue_l ++ (server ∷ []))) (slot_handle (at (view n c s) l).gen l (omega arith)) rows_l
      (listener_shown (row_at n c s l) (cell_at s.words l).generation (one_more q) (set (row_at n c s l).queue x server)
      ∙ ap (λ (u : List ℕ). open' (cell_at s.words l).generation (model.State.Listening name_l q.backlog u))
      (queue_more (row_at n c s l).queue q.head q.pending x server (omega arith) (omega arith) (ap (λ (m : ℕ). place_of m (q.head + q.pending)) (sym long_l)))
      ∙ sym (ap (λ (y : model.Slot). record { gen = y.gen; in_use = y.in_use; given = y.given; state = model.State.Listening name_l q.backlog (queue_l ++ (server ∷ [])) }) at_l))

  view_joined : j ≡ free_slot (view n c s) → view n c s₄ ≡ connected (view n c s) h (handle_at (view n c s) l) name_l q.backlog queue_l
  unfolding connected new_handle
  view_joined ej =
      view₄
      ∙ ap (λ (u : Table). become u (handle_at (view n c s) l) (model.State.Listening name_l q.backlog (queue_l ++ (server ∷ []))))
      (view₂ ∙ ap (λ (u : Table). become u h (model.State.Connected server nothing false false)) view₁)
      ∙ ap₂ (λ (f v : ℕ).
      become (become (enter (view n c s) f false (model.State.Connected h nothing false false)) h (model.State.Connected v nothing false false)) (handle_at (view n c s) l)
      (model.State.Listening name_l q.backlog (queue_l ++ (v ∷ []))))
      ej (ap (λ (y : ℕ). handle y j) gen_j ∙ ap (λ (y : ℕ). handle (suc (at (view n c s) y).gen) y) ej)

  -- ── Each row fits ──

  fit_j : Fit n c (row_at n c s j) (with_cell cell_j (row_at n c s j))
  unfolding row_at show_in
  fit_j =
      end_fit n c (row_at n c s j) g h (l + 1) x k.some_byte (ap (λ (σ : State). (show_in (row_at n c s j) (cell_at s.words j).generation σ).state) free)
      (λ e. absurd (let z : l + 1 ≡ 0 = e in omega arith))

  fit_i : Fit n c (row_at n c s i) (with_cell cell_i (row_at n c s i))
  unfolding row_at show_in
  fit_i =
      end_fit n c (row_at n c s i) (cell_at s.words i).generation server 0 0 k.some_byte (ap (λ (σ : State). (show_in (row_at n c s i) (cell_at s.words i).generation σ).state) unbound)
      (λ e. refl)

  fit_l : Fit n c (row_at n c s l) new_l
  unfolding row_at
  fit_l =
      listener_fit n c (row_at n c s l) (cell_at s.words l).generation server x q listens (subst (λ (σ : State). ranges_well n c σ ≡ true) listens (k.ranges l hl)) room_left long_l

  fits : (y : ℕ) → y < n → Fit n c (row_at n c s y) (row_at n c s₄ y)
  unfolding row_at
  fits y hy = elim (dec_eq y i) [
    | yes e ↦ subst (λ (z : ℕ). Fit n c (row_at n c s z) (row_at n c s₄ z)) (sym e) (subst (Fit n c (row_at n c s i)) (sym row_i) fit_i)
    | no di ↦ elim (dec_eq y j) [
      | yes e ↦ subst (λ (z : ℕ). Fit n c (row_at n c s z) (row_at n c s₄ z)) (sym e) (subst (Fit n c (row_at n c s j)) (sym row_j) fit_j)
      | no dj ↦ elim (dec_eq y l) [
        | yes e ↦ subst (λ (z : ℕ). Fit n c (row_at n c s z) (row_at n c s₄ z)) (sym e) (subst (Fit n c (row_at n c s l)) (sym row_l) fit_l)
        | no dl ↦ subst (Fit n c (row_at n c s y)) (sym (row_same y hy di dj dl)) (fit_same n c (row_at n c s y) (k.fields y hy) (k.ranges y hy))
      ]
    ]
  ]

  -- ── The entries of every queue ──

  -- a waiting server is in none of the three slots
  server_stays : (y : ℕ) (b : Connection) → y < n → state_of (cell_at s.words y) ≡ Connected b → cell_at s₄.words y ≡ cell_at s.words y
  unfolding row_at
  server_stays y b hy e =
      ap (λ (r : Row). r.cell)
      (row_same y hy
      (λ z. other_state (sym e ∙ ap (λ (v : ℕ). state_of (cell_at s.words v)) z ∙ unbound) (λ u. omega arith))
      (λ z. other_state (sym e ∙ ap (λ (v : ℕ). state_of (cell_at s.words v)) z ∙ free) (λ u. omega arith))
      (λ z. other_state (sym e ∙ ap (λ (v : ℕ). state_of (cell_at s.words v)) z ∙ listens) (λ u. omega arith)))

  entry_stays : (y a v : ℕ) → Entry n s.words y a v → Entry n s₄.words y a v
  entry_stays y a v e =
      let z = server_stays (slot_of v) e.server e.within e.is_server in
      record {
        within = e.within;
        whole = ap (λ (u : Cell). handle u.generation (slot_of v)) z ∙ e.whole;
        server = e.server;
        is_server = ap state_of z ∙ e.is_server;
        waits_there = e.waits_there;
        stands_there = e.stands_there;
      }

  entry_new : Entry n s₄.words l x server
  unfolding row_at
  entry_new =
      let few = k.roomy.few in
      let ej : slot_of server ≡ j = slot_handle g j (omega arith) in
      let ec : cell_at s₄.words (slot_of server) ≡ cell_j = ap (cell_at s₄.words) ej ∙ ap (λ (r : Row). r.cell) row_j in
      record {
        within = omega arith;
        whole = ap₂ handle (ap (λ (u : Cell). u.generation) ec ∙ back_gen g (Connected (new_end h (l + 1) x))) ej;
        server = new_end h (l + 1) x;
        is_server = ap state_of ec ∙ back g (Connected (new_end h (l + 1) x));
        waits_there = refl;
        stands_there = refl;
      }

  ring_l : queue_in n s₄.words l ≡ set (queue_in n s.words l) x server
  unfolding row_at
  ring_l = ap (λ (r : Row). r.queue) row_l

  old_place : (m : ℕ) → m < q.pending → place_of n (q.head + m) ≢ x
  old_place m hm =
      let p = room_left in
      place_apart (place_is n (q.head + m) (place_of n (q.head + m)) refl) (place_is n (q.head + q.pending) x refl) (omega arith) (omega arith)

  entries_l : Entries n s₄.words l (one_more q)
  entries_l =
      record {
        each = λ m hm. elim (dec_eq m q.pending) [
          | yes e ↦
              subst (λ (y : ℕ). Entry n s₄.words l (place_of n (q.head + y)) (get_or (queue_in n s₄.words l) (place_of n (q.head + y)) 0)) (sym e)
              (subst (Entry n s₄.words l x)
              (sym (ap (λ (u : List ℕ). get_or u x 0) ring_l ∙ get_or-set_same (queue_in n s.words l) x server 0 (let z = queue_long n c s k.roomy l hl in let y = x_in in omega arith)))
              entry_new)
          | no d ↦
              let hp : m < q.pending = omega arith in
              subst (Entry n s₄.words l (place_of n (q.head + m)))
              (sym (ap (λ (u : List ℕ). get_or u (place_of n (q.head + m)) 0) ring_l ∙ get_or-set_other (queue_in n s.words l) x (place_of n (q.head + m)) server 0 (old_place m hp)))
              (entry_stays l (place_of n (q.head + m)) (entry_at m) (entries.each m hp))
        ];
      }

  state_l : state_of (cell_at s₄.words l) ≡ Listening (one_more q)
  unfolding row_at
  state_l = ap (λ (r : Row). state_of r.cell) row_l ∙ back (cell_at s.words l).generation (Listening (one_more q))

  state_i : state_of (cell_at s₄.words i) ≡ Connected (new_end server 0 0)
  unfolding row_at
  state_i = ap (λ (r : Row). state_of r.cell) row_i ∙ back (cell_at s.words i).generation (Connected (new_end server 0 0))

  state_j : state_of (cell_at s₄.words j) ≡ Connected (new_end h (l + 1) x)
  unfolding row_at
  state_j = ap (λ (r : Row). state_of r.cell) row_j ∙ back g (Connected (new_end h (l + 1) x))

  -- another listener
  entries_other : (y : ℕ) (q' : Listener) → y < n → y ≢ l → state_of (cell_at s₄.words y) ≡ Listening q' → Entries n s₄.words y q'
  unfolding row_at tied
  entries_other y q' hy dl e =
      let di : y ≢ i = λ z. other_state (sym e ∙ ap (λ (v : ℕ). state_of (cell_at s₄.words v)) z ∙ state_i) (λ u. omega arith) in
      let dj : y ≢ j = λ z. other_state (sym e ∙ ap (λ (v : ℕ). state_of (cell_at s₄.words v)) z ∙ state_j) (λ u. omega arith) in
      let r = row_same y hy di dj dl in
      let was : state_of (cell_at s.words y) ≡ Listening q' = sym (ap (λ (u : Row). state_of u.cell) r) ∙ e in
      let old : Entries n s.words y q' = entries_of n s.words y q' (subst (λ (σ : State). tied_state n s.words y σ ≡ true) was (k.ties y hy)) in
      record {
        each = λ m hm.
            subst (Entry n s₄.words y (place_of n (q'.head + m))) (sym (ap (λ (u : Row). get_or u.queue (place_of n (q'.head + m)) 0) r))
            (entry_stays y (place_of n (q'.head + m)) (get_or (queue_in n s.words y) (place_of n (q'.head + m)) 0) (old.each m hm));
      }

  entries_after : (y : ℕ) → y < n → (q' : Listener) → state_of (cell_at s₄.words y) ≡ Listening q' → Entries n s₄.words y q'
  entries_after y hy q' e = elim (dec_eq y l) [
    | yes z ↦
        let same : one_more q ≡ q' = listening_inj (sym state_l ∙ ap (λ (v : ℕ). state_of (cell_at s₄.words v)) (sym z) ∙ e) in
        subst (λ (v : ℕ). Entries n s₄.words v q') (sym z) (subst (Entries n s₄.words l) same entries_l)
    | no dl ↦ entries_other y q' hy dl e
  ]

  pub joined_stored : (call : Call) → j ≡ free_slot (view n c s) → (run (view n c s) call).next ≡ connected (view n c s) h (handle_at (view n c s) l) name_l q.backlog queue_l
      → Stored n c s s₄ (run (view n c s) call)
  joined_stored call ej e = rows_stored n c s s₄ call k around_all (view_joined ej ∙ sym e) fits entries_after
