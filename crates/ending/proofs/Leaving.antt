-- close: one socket after the other.
use mathlib.Core.Path.{◌≡◌, refl, sym, ap, ap₂, ◌∙◌, subst}
use mathlib.Core.Logic.{◌≢◌, inl, inr}
use mathlib.Core.Bool.{Bool, true, false, cond, false≢true}
use mathlib.Core.List.{List, [], ◌∷◌, ◌++◌, append-nil, append_assoc, Memᴰ}
use Prim.Native.Nat.{ℕ, suc, ◌+◌, ◌≤◌, ◌<◌}
use native.Mathlib.Decide.{ℕ_discrete as dec_eq}
use native.Mathlib.Omega.{arith}
use lib.ListN.{length, get_or, set, length-append}
use lib.Seq.{sets}
use Rattle.inbox.specs.View as inbox
use Rattle.inbox.specs.View.{items_in}
use Rattle.inbox.proofs.Shows.{length-items, items_are_all}
use Rattle.rules.specs.Table as model
use Rattle.rules.specs.Table.{Table, at, put, closed, slot_of, handle, handle_at, is_open, leave}
use Rattle.rules.specs.Inbox.{all_items}
use Rattle.rules.specs.Outcome.{Call, Outcome, answer, open_one}
use Rattle.rules.specs.Ending as ending
use Rattle.rules.specs.Ending.{close_all, close_wakes, kept, do_close}
use Rattle.rules.specs.Run.{run}
use Rattle.rules.specs.WellFormed.{well_formed}
use Rattle.rules.proofs.YesNo.{agree}
use Rattle.rules.proofs.YesNo as yesno
use Rattle.rules.proofs.Formed.{Formed}
use Rattle.rules.proofs.Frame.{open_at}
use Rattle.ring.specs.Ring.{place_of, queued}
use Rattle.storage.specs.Layout.{part, tokens_base, places_base}
use Rattle.storage.specs.Cells.{cell_at, state_of, store_at, cell_of}
use Rattle.storage.specs.Rows.{Store, Row, row_at, rows, lent, with_cell, Roomy, Around}
use Rattle.storage.specs.View.{view, show_in}
use Rattle.storage.specs.Finding.{open_in, occupied}
use Rattle.storage.specs.declared.Cell.{Cell}
use Rattle.storage.specs.declared.State.{State}
use Rattle.storage.specs.declared.State.TheVariants.{Closed, Listening, Connected}
use Rattle.storage.specs.declared.Listener.{Listener}
use Rattle.storage.specs.declared.Connection.{Connection}
use Rattle.storage.proofs.Coding.{back, back_gen}
use Rattle.storage.proofs.Framing.{store_rows}
use Rattle.storage.proofs.Around.{around_same, around_then, roomy_around, store_around}
use Rattle.storage.proofs.Pasted.{length_part}
use Rattle.storage.proofs.Viewed.{put_view, gen_at, open_view, seen}
use Rattle.table.specs.Formed.{queue_in, ranges_well, tied, tied_state}
use Rattle.table.proofs.Links.{Entry, Entries, entries_of, queue_at, index-mem, queue-length}
use Rattle.promise.specs.Answers.{released_with}
use Rattle.promise.specs.Hidden.{hidden_in, hidden_after, room_after}
use Rattle.promise.specs.Promise.{lists, Stored, Done}
use Rattle.promise.specs.declared.Answer.{Answer}
use Rattle.promise.proofs.Known.{Known, listener_at}
use Rattle.promise.proofs.Kept.{row_changed, row_other, other_state}
use Rattle.promise.proofs.Changed.{Fit, fit_same, fields_closed, rows_stored, released_done}
use Rattle.promise.proofs.Live.{Live, opened, live_run, state_seen}
use Rattle.ending.specs.declared.Closing.{Closing}
use Rattle.ending.specs.Leaving.{peer_in, Ends, Fits, Shut, SoFar}

-- ── Lists ──

-- stores, one run after the other
pub sets_then : (l : List ℕ) (i : ℕ) (a b : List ℕ) → sets l i (a ++ b) ≡ sets (sets l i a) (i + length a) b
sets_then l i [] b = let e : i + 0 ≡ i = omega arith in ap (λ (k : ℕ). sets l k b) (sym e)
sets_then l i (x ∷ a) b = let e : suc i + length a ≡ i + suc (length a) = omega arith in sets_then (set l i x) (suc i) a b ∙ ap (λ (k : ℕ). sets (sets (set l i x) (suc i) a) k b) e

sets_more : (l a b : List ℕ) → sets l 0 (a ++ b) ≡ sets (sets l 0 a) (length a) b
sets_more l a b = let e : 0 + length a ≡ length a = omega arith in sets_then l 0 a b ∙ ap (λ (k : ℕ). sets (sets l 0 a) k b) e

-- one more socket closes
close_more : (t : Table) (hs : List ℕ) (x : ℕ) → close_all t (hs ++ x ∷ [])
    ≡ record {
      wakes = (close_all t hs).wakes ++ close_wakes (close_all t hs).next (model.state_of (close_all t hs).next x);
      releases = (close_all t hs).releases ++ kept (model.state_of (close_all t hs).next x);
      next = leave (close_all t hs).next x;
    }
unfolding close_all
close_more t [] x = rw (append-nil (close_wakes t (model.state_of t x)), append-nil (kept (model.state_of t x)))
close_more t (h ∷ hs) x =
    ap (λ (c : ending.Closing). record { wakes = close_wakes t (model.state_of t h) ++ c.wakes; releases = kept (model.state_of t h) ++ c.releases; next = c.next }) (close_more (leave t h) hs x)
    ∙ rw (append_assoc (close_wakes t (model.state_of t h)) (close_all (leave t h) hs).wakes (close_wakes (close_all (leave t h) hs).next (model.state_of (close_all (leave t h) hs).next x)), append_assoc (kept (model.state_of t h)) (close_all (leave t h) hs).releases (kept (model.state_of (close_all (leave t h) hs).next x)))

-- ── A slot closes ──

module _ (n c : ℕ) (s : Store) (f : Roomy n c s) (x g : ℕ) (hx : slot_of x < n) (eg : g ≡ (cell_at s.words (slot_of x)).generation) where
  abbrev left : Store
  left = lent (store_at s.words (slot_of x) (cell_of g Closed)) s.bytes s.tokens

  left_rows : rows n c left ≡ set (rows n c s) (slot_of x) (with_cell (cell_of g Closed) (row_at n c s (slot_of x)))
  left_rows = store_rows n c s.words s.bytes s.tokens f (slot_of x) hx (cell_of g Closed)

  pub left_view : view n c left ≡ leave (view n c s) x
  unfolding leave show_in row_at
  left_view =
      put_view n c s left (slot_of x) (with_cell (cell_of g Closed) (row_at n c s (slot_of x))) left_rows
      ∙ ap (λ (y : model.Slot). put (view n c s) (slot_of x) y)
      (ap (λ (σ : State). show_in (with_cell (cell_of g Closed) (row_at n c s (slot_of x))) (cell_of g Closed).generation σ) (back g Closed) ∙ ap closed (back_gen g Closed ∙ eg ∙ sym (gen_at n c s (slot_of x) hx)))

  pub left_row : row_at n c left (slot_of x) ≡ with_cell (cell_of (row_at n c s (slot_of x)).cell.generation Closed) (row_at n c s (slot_of x))
  unfolding row_at
  left_row = row_changed n c s left (slot_of x) (with_cell (cell_of g Closed) (row_at n c s (slot_of x))) hx left_rows ∙ ap (λ (y : ℕ). with_cell (cell_of y Closed) (row_at n c s (slot_of x))) eg

  pub left_other : (j : ℕ) → j < n → j ≢ slot_of x → row_at n c left j ≡ row_at n c s j
  left_other j hj d = row_other n c s left (slot_of x) (with_cell (cell_of g Closed) (row_at n c s (slot_of x))) hx left_rows j hj d

  pub left_around : Around n c s left
  left_around = store_around n c s.words s.bytes s.tokens f (slot_of x) hx (cell_of g Closed)

-- ── When all have closed ──

closed_fit : (n c g : ℕ) (r : Row) → Fit n c r (with_cell (cell_of g Closed) r)
unfolding ranges_well hidden_in hidden_after room_after show_in cell_of state_of
closed_fit n c g r = record { fields = fields_closed g; ranges = refl; numbers = refl; room = refl }

shut_fit : (n c : ℕ) (s : Store) (hs : List ℕ) (j : ℕ) (r' : Row) → Known n c s → j < n → Shut hs j (row_at n c s j) r' → Fit n c (row_at n c s j) r'
unfolding row_at
shut_fit n c s hs j r' k h (inl e) = subst (Fit n c (row_at n c s j)) (sym e) (fit_same n c (row_at n c s j) (k.fields j h) (k.ranges j h))
shut_fit n c s hs j r' k h (inr z) = subst (Fit n c (row_at n c s j)) (sym z.3) (closed_fit n c (row_at n c s j).cell.generation (row_at n c s j))

-- a row that is not closed is the one that was there
shut_same : (hs : List ℕ) (j : ℕ) (r r' : Row) → Shut hs j r r' → state_of r'.cell ≢ Closed → r' ≡ r
shut_same hs j r r' (inl e) d = e
shut_same hs j r r' (inr z) d = absurd (d (ap (λ (y : Row). state_of y.cell) z.3 ∙ back r.cell.generation Closed))

module _ (n c : ℕ) (s s' : Store) (call : Call) (k : Known n c s) (a : Around n c s s') (v : view n c s' ≡ (run (view n c s) call).next) (hs : List ℕ)
    (shut : (j : ℕ) → j < n → Shut hs j (row_at n c s j) (row_at n c s' j)) where
  good_after : Formed (view n c s')
  good_after = (agree (view n c s')).0 (ap well_formed v ∙ yesno.kept (view n c s) call k.well)

  -- the entries of a listener that is left are of servers that are left
  entries_left : (l : ℕ) → l < n → (q : Listener) → state_of (cell_at s'.words l) ≡ Listening q → Entries n s'.words l q
  unfolding row_at show_in ending.queued model.state_of tied
  entries_left l hl q e =
      let same_l : row_at n c s' l ≡ row_at n c s l = shut_same hs l (row_at n c s l) (row_at n c s' l) (shut l hl) (λ z. other_state (sym e ∙ z) (λ y. omega arith)) in
      let was : state_of (cell_at s.words l) ≡ Listening q = ap (λ (r : Row). state_of r.cell) (sym same_l) ∙ e in
      let old : Entries n s.words l q = entries_of n s.words l q (subst (λ (σ : State). tied_state n s.words l σ ≡ true) was (k.ties l hl)) in
      let rg = listener_at k hl was in
      record {
        each = λ i hi.
            let p : ℕ = place_of n (q.head + i) in
            let x : ℕ = get_or (queue_in n s.words l) p 0 in
            let en : Entry n s.words l p x = old.each i hi in
            let ring_same : queue_in n s'.words l ≡ queue_in n s.words l = ap (λ (r : Row). r.queue) same_l in
            let f' : Roomy n c s' = roomy_around a k.roomy in
            let long : i < length (queued (queue_in n s'.words l) q.head q.pending) = rw (queue-length n c s' f' l q hl rg.2 rg.3) hi in
            let first_in : Memᴰ (get_or (queued (queue_in n s'.words l) q.head q.pending) i 0) (queued (queue_in n s'.words l) q.head q.pending) = index-mem _ i long in
            let is_x : get_or (queued (queue_in n s'.words l) q.head q.pending) i 0 ≡ x = queue_at n c s' f' l q i hl rg.2 rg.3 hi ∙ ap (λ (r : List ℕ). get_or r p 0) ring_same in
            let mine = seen n c s' l (Listening q) hl e in
            let o = open_at (view n c s') l good_after.sound.wf.sized (ap (λ (y : model.Slot). y.in_use) mine) in
            let pend = good_after.sound.queues.entries (handle_at (view n c s') l) x o.1
            (subst (λ (y : ℕ). Memᴰ x (ending.queued (at (view n c s') y).state)) (sym o.0) (subst (λ (y : model.Slot). Memᴰ x (ending.queued y.state)) (sym mine) (subst (λ (y : ℕ). Memᴰ y (queued (queue_in n s'.words l) q.head q.pending)) is_x first_in))) in
            let op = opened n c s' x pend.here in
            let same_x : row_at n c s' (slot_of x) ≡ row_at n c s (slot_of x) =
            shut_same hs (slot_of x) (row_at n c s (slot_of x)) (row_at n c s' (slot_of x)) (shut (slot_of x) en.within) (λ z. absurd (false≢true (sym (ap occupied z) ∙ op.used))) in
            let cell_x : cell_at s'.words (slot_of x) ≡ cell_at s.words (slot_of x) = ap (λ (r : Row). r.cell) same_x in
            subst (λ (y : ℕ). Entry n s'.words l p y) (sym (ap (λ (r : List ℕ). get_or r p 0) ring_same))
            (record {
              within = en.within;
              whole = ap (λ (r : Cell). handle r.generation (slot_of x)) cell_x ∙ en.whole;
              server = en.server;
              is_server = ap state_of cell_x ∙ en.is_server;
              waits_there = en.waits_there;
              stands_there = en.stands_there;
            });
      }

  pub shut_stored : Stored n c s s' (run (view n c s) call)
  shut_stored = rows_stored n c s s' call k a v (λ j h. shut_fit n c s hs j (row_at n c s' j) k h (shut j h)) entries_left

-- ── How far it has come ──

pub none_yet : (n c : ℕ) (s : Store) (wk rl : List ℕ) → SoFar n c s [] 0 0 s.words wk wk rl rl (record { wakes = 0; releases = 0 })
unfolding close_all
none_yet n c s wk rl =
    record {
      shows = refl;
      around = around_same n c s;
      rows_are = λ j h. inl refl;
      wakes_are = refl;
      releases_are = refl;
      wake_count = refl;
      release_count = refl;
      wakes_few = omega arith;
      releases_few = omega arith;
    }

peer_one : (b : Bool) (p : ℕ) → length (cond b (p ∷ []) []) ≤ 1
peer_one true p = omega arith
peer_one false p = omega arith

-- the items of a socket that closes, in inbox order
items_kept : (n c : ℕ) (s : Store) (j : ℕ) (b : Connection) (f : Roomy n c s) → j < n → Fits c b
    → all_items (inbox.view (row_at n c s j).ring (row_at n c s j).places (row_at n c s j).tokens b.inbox).groups ≡ items_in (part (tokens_base j) 256 s.tokens) b.inbox
unfolding row_at
items_kept n c s j b f hj r =
    let y = f.words in
    let z = f.tokens in
    let lp : length (part (places_base n j) 256 s.words) ≡ 256 = length_part (places_base n j) 256 s.words (omega arith) in
    let lt : length (part (tokens_base j) 256 s.tokens) ≡ 256 = length_part (tokens_base j) 256 s.tokens (omega arith) in
    items_are_all (part (places_base n j) 256 s.words) (part (tokens_base j) 256 s.tokens) b.inbox lp lt r.first_in r.items-in

module _ (n c : ℕ) (s : Store) (kn : Known n c s) (hs : List ℕ) (e f : ℕ) (w wk₀ wk rl₀ rl : List ℕ) (d : Closing) (so : SoFar n c s hs e f w wk₀ wk rl₀ rl d) (x : ℕ) (b : Connection) (g : ℕ)
    (hx : slot_of x < n) (is : state_of (cell_at w (slot_of x)) ≡ Connected b) (eg : g ≡ (cell_at w (slot_of x)).generation) (fits : Fits c b)
    (was : row_at n c (lent w s.bytes s.tokens) (slot_of x) ≡ row_at n c s (slot_of x)) (w' wk' rl' : List ℕ) (r : Closing)
    (ends : Ends n (slot_of x) g b w w' s.tokens wk wk' rl rl' d r) where
  abbrev now' : Store
  now' = lent w s.bytes s.tokens

  fk : Roomy n c now'
  fk = roomy_around so.around kn.roomy

  abbrev t : Table
  t = (close_all (view n c s) hs).next

  state_now : model.state_of t x ≡ (show_in (row_at n c now' (slot_of x)) (cell_at w (slot_of x)).generation (Connected b)).state
  state_now = ap (λ (y : Table). model.state_of y x) (sym so.shows) ∙ state_seen n c now' x (Connected b) hx is

  wakes_now : close_wakes t (model.state_of t x) ≡ peer_in n w b
  unfolding close_wakes show_in peer_in open_one
  wakes_now = ap (close_wakes t) state_now ∙ ap (λ (y : Bool). cond y (b.peer.0 ∷ []) []) (ap (λ (y : Table). is_open y b.peer.0) (sym so.shows) ∙ sym (open_view n c now' b.peer.0))

  kept_now : kept (model.state_of t x) ≡ items_in (part (tokens_base (slot_of x)) 256 s.tokens) b.inbox
  unfolding kept show_in
  kept_now = ap kept state_now ∙ items_kept n c now' (slot_of x) b fk hx fits

  items_long : length (items_in (part (tokens_base (slot_of x)) 256 s.tokens) b.inbox) ≡ b.inbox.items
  items_long =
      let z = kn.roomy.tokens in
      length-items (part (tokens_base (slot_of x)) 256 s.tokens) b.inbox (length_part (tokens_base (slot_of x)) 256 s.tokens (omega arith)) fits.first_in fits.items-in

  rows_now : (j : ℕ) → j < n → Shut (hs ++ x ∷ []) j (row_at n c s j) (row_at n c (lent w' s.bytes s.tokens) j)
  rows_now j hj =
      elim (dec_eq j (slot_of x)) [
        | yes z ↦
            inr (
              x,
              mathlib.Core.List.Memᴰ.append_right hs (mathlib.Core.List.Memᴰ.head refl),
              z,
              ap (λ (y : List ℕ). row_at n c (lent y s.bytes s.tokens) j) ends.words ∙ ap (λ (y : ℕ). row_at n c (left n c now' fk x g hx eg) y) z ∙ left_row n c now' fk x g hx eg
                  ∙ ap (λ (y : Row). with_cell (cell_of y.cell.generation Closed) y) (was ∙ ap (row_at n c s) (sym z)),
            )
        | no d ↦
            more j (ap (λ (y : List ℕ). row_at n c (lent y s.bytes s.tokens) j) ends.words ∙ left_other n c now' fk x g hx eg j hj d) (so.rows_are j hj)
      ]
    where
      more : (j : ℕ) {r₀ r₁ r₂ : Row} → r₂ ≡ r₁ → Shut hs j r₀ r₁ → Shut (hs ++ x ∷ []) j r₀ r₂
      more j e (inl y) = inl (e ∙ y)
      more j e (inr y) = inr (y.0, mathlib.Core.List.Memᴰ.append_left (x ∷ []) y.1, y.2, e ∙ y.3)

  pub one_more : SoFar n c s (hs ++ x ∷ []) (e + 1) (f + 1) w' wk₀ wk' rl₀ rl' r
  unfolding peer_in
  one_more =
      let cm = close_more (view n c s) hs x in
      let pl = peer_one (open_in n w b.peer.0) b.peer.0 in
      let il = items_long in
      let ic = fits.items-in in
      let wf = so.wakes_few in
      let rf = so.releases_few in
      let wc = ends.wake_count in
      let rc = ends.release_count in
      record {
        shows =
            ap (λ (y : List ℕ). view n c (lent y s.bytes s.tokens)) ends.words ∙ left_view n c now' fk x g hx eg ∙ ap (λ (y : Table). leave y x) so.shows ∙ sym (ap (λ (y : ending.Closing). y.next) cm);
        around =
            around_then so.around (subst (λ (y : List ℕ). Around n c now' (lent y s.bytes s.tokens)) (sym ends.words) (left_around n c now' fk x g hx eg));
        rows_are = rows_now;
        wakes_are =
            ends.wakes ∙ ap₂ (λ (y : List ℕ) (z : ℕ). sets y z (peer_in n w b)) so.wakes_are so.wake_count ∙ sym (sets_more wk₀ (close_all (view n c s) hs).wakes (peer_in n w b))
            ∙ ap (λ (y : List ℕ). sets wk₀ 0 ((close_all (view n c s) hs).wakes ++ y)) (sym wakes_now) ∙ sym (ap (λ (y : ending.Closing). sets wk₀ 0 y.wakes) cm);
        releases_are =
            ends.releases ∙ ap₂ (λ (y : List ℕ) (z : ℕ). sets y z (items_in (part (tokens_base (slot_of x)) 256 s.tokens) b.inbox)) so.releases_are so.release_count
            ∙ sym (sets_more rl₀ (close_all (view n c s) hs).releases (items_in (part (tokens_base (slot_of x)) 256 s.tokens) b.inbox))
            ∙ ap (λ (y : List ℕ). sets rl₀ 0 ((close_all (view n c s) hs).releases ++ y)) (sym kept_now) ∙ sym (ap (λ (y : ending.Closing). sets rl₀ 0 y.releases) cm);
        wake_count =
            ends.wake_count ∙ ap (λ (y : ℕ). y + length (peer_in n w b)) so.wake_count ∙ sym (length-append (close_all (view n c s) hs).wakes (peer_in n w b))
            ∙ ap (λ (y : List ℕ). length ((close_all (view n c s) hs).wakes ++ y)) (sym wakes_now) ∙ sym (ap (λ (y : ending.Closing). length y.wakes) cm);
        release_count =
            ends.release_count ∙ ap₂ ◌+◌ so.release_count (sym items_long) ∙ sym (length-append (close_all (view n c s) hs).releases (items_in (part (tokens_base (slot_of x)) 256 s.tokens) b.inbox))
            ∙ ap (λ (y : List ℕ). length ((close_all (view n c s) hs).releases ++ y)) (sym kept_now) ∙ sym (ap (λ (y : ending.Closing). length y.releases) cm);
        wakes_few = omega arith;
        releases_few = omega arith;
      }

-- ── A socket with no inbox closes ──

module _ (n c : ℕ) (s : Store) (kn : Known n c s) (h g : ℕ) (hh : slot_of h < n) (eg : g ≡ (cell_at s.words (slot_of h)).generation) (w' wk wk' rl : List ℕ) (d : Closing) where
  pub first_left : w' ≡ store_at s.words (slot_of h) (cell_of g Closed) → wk' ≡ sets wk 0 (close_wakes (view n c s) (model.state_of (view n c s) h)) → kept (model.state_of (view n c s) h) ≡ []
      → d.wakes ≡ length (close_wakes (view n c s) (model.state_of (view n c s) h)) → d.releases ≡ 0 → d.wakes ≤ 1 → SoFar n c s (h ∷ []) 1 0 w' wk wk' rl rl d
  unfolding close_all
  first_left ew ek no_items ed er few =
      let ws : (close_all (view n c s) (h ∷ [])).wakes ≡ close_wakes (view n c s) (model.state_of (view n c s) h) = append-nil (close_wakes (view n c s) (model.state_of (view n c s) h)) in
      let rs : (close_all (view n c s) (h ∷ [])).releases ≡ [] = append-nil (kept (model.state_of (view n c s) h)) ∙ no_items in
      record {
        shows = ap (λ (y : List ℕ). view n c (lent y s.bytes s.tokens)) ew ∙ left_view n c s kn.roomy h g hh eg;
        around = subst (λ (y : List ℕ). Around n c s (lent y s.bytes s.tokens)) (sym ew) (left_around n c s kn.roomy h g hh eg);
        rows_are = λ j hj. elim (dec_eq j (slot_of h)) [
          | yes z ↦
              inr (
                h,
                mathlib.Core.List.Memᴰ.head refl,
                z,
                ap (λ (y : List ℕ). row_at n c (lent y s.bytes s.tokens) j) ew ∙ ap (λ (y : ℕ). row_at n c (left n c s kn.roomy h g hh eg) y) z ∙ left_row n c s kn.roomy h g hh eg
                    ∙ ap (λ (y : ℕ). with_cell (cell_of (row_at n c s y).cell.generation Closed) (row_at n c s y)) (sym z),
              )
          | no ne ↦ inl (ap (λ (y : List ℕ). row_at n c (lent y s.bytes s.tokens) j) ew ∙ left_other n c s kn.roomy h g hh eg j hj ne)
        ];
        wakes_are = ek ∙ ap (sets wk 0) (sym ws);
        releases_are = ap (sets rl 0) (sym rs);
        wake_count = ed ∙ ap length (sym ws);
        release_count = er ∙ ap length (sym rs);
        wakes_few = few;
        releases_few = omega arith;
      }

-- ── All have closed ──

pub all_done : (n c : ℕ) (s : Store) (kn : Known n c s) (h : ℕ) (e f : ℕ) (w' wk wk' rl rl' : List ℕ) (d : Closing) (r : Answer) → Live n c s h
    → SoFar n c s (h ∷ ending.queued (model.state_of (view n c s) h)) e f w' wk wk' rl rl' d
    → r ≡ released_with d.wakes d.releases
    → Done (run (view n c s) (Call.Close h)) n c s (lent w' s.bytes s.tokens) (lists wk rl) (lists wk' rl') r
unfolding run do_close
all_done n c s kn h e f w' wk wk' rl rl' d r lv so er =
    let t : Table = view n c s in
    let cl : ending.Closing = close_all t (h ∷ ending.queued (model.state_of t h)) in
    let o_is : run t (Call.Close h) ≡ answer cl.next 0 cl.wakes cl.releases = live_run n c s h (do_close t h) lv in
    let st : Stored n c s (lent w' s.bytes s.tokens) (run t (Call.Close h)) =
    shut_stored n c s (lent w' s.bytes s.tokens) (Call.Close h) kn so.around (so.shows ∙ sym (ap (λ (o : Outcome). o.next) o_is)) (h ∷ ending.queued (model.state_of t h)) so.rows_are in
    released_done (run t (Call.Close h)) cl.next 0 cl.wakes cl.releases n c s (lent w' s.bytes s.tokens) (lists wk rl) (lists wk' rl') d.wakes d.releases r o_is st so.wakes_are so.releases_are so.wake_count so.release_count er
