-- close of a listener: its pending servers, oldest first.
use mathlib.Core.Path.{◌≡◌, refl, sym, ap, ap₂, ◌∙◌, subst}
use mathlib.Core.Logic.{inl, inr, ⊎_elim}
use mathlib.Core.Bool.{true}
use mathlib.Core.List.{List, [], ◌∷◌, ◌++◌, Memᴰ}
use Prim.Native.Nat.{ℕ, zero, suc, ◌+◌, ◌≤◌, ◌<◌}
use native.Mathlib.Nat.{not-suc-le-zero}
use native.Mathlib.Omega.{arith}
use lib.ListN.{length, get_or, take, drop}
use lib.Seq.{take-suc, take_all, get_or-take, get_or-drop}
use Rattle.rules.specs.Table as model
use Rattle.rules.specs.Table.{slot_of, is_open}
use Rattle.rules.specs.Outcome.{Call}
use Rattle.rules.specs.Ending as ending
use Rattle.rules.specs.Run.{run}
use Rattle.rules.proofs.Frame.{open_same}
use Rattle.rules.proofs.Queues.{Once}
use Rattle.ring.specs.Ring.{place_of, queued}
use Rattle.storage.specs.Layout.{part, queue_base}
use Rattle.storage.specs.Cells.{cell_at, state_of}
use Rattle.storage.specs.Rows.{Store, Row, row_at, lent}
use Rattle.storage.specs.View.{view, show_in}
use Rattle.storage.specs.declared.State.{State}
use Rattle.storage.specs.declared.State.TheVariants.{Listening, Connected}
use Rattle.storage.specs.declared.Listener.{Listener}
use Rattle.storage.specs.declared.Connection.{Connection}
use Rattle.table.specs.Formed.{queue_in, tied, tied_state}
use Rattle.table.proofs.Links.{Entry, entries_of, queue_at, index-mem, place_ring, queue-length}
use Rattle.promise.specs.Answers.{released_with}
use Rattle.promise.specs.Promise.{lists, Done}
use Rattle.promise.specs.declared.Answer.{Answer}
use Rattle.promise.proofs.Known.{Known, listener_at}
use Rattle.promise.proofs.Kept.{other_state}
use Rattle.promise.proofs.Held.{inbox-in}
use Rattle.promise.proofs.Live.{Live, state_seen}
use Rattle.ending.specs.declared.Closing.{Closing}
use Rattle.ending.specs.Leaving.{Ends, Fits, Serves, Shut, SoFar, connection_in}
use Rattle.ending.proofs.Leaving.{one_more, all_done}

-- ── Lists ──

mem-take : (k : ℕ) (q : List ℕ) {y : ℕ} → Memᴰ y (take k q) → Memᴰ y q
mem-take zero q m = absurd (mathlib.Core.List.Memᴰ.not-nil m)
mem-take (suc k) [] m = absurd (mathlib.Core.List.Memᴰ.not-nil m)
mem-take (suc k) (x ∷ q) {y} m =
    let rec : Memᴰ y (take k q) → Memᴰ y q = mem-take k q in
    ⊎_elim (λ e. mathlib.Core.List.Memᴰ.head e) (λ m'. mathlib.Core.List.Memᴰ.tail (rec m')) (mathlib.Core.List.Memᴰ.cases_cons m)

-- none stands before itself
once_before : (q : List ℕ) (k : ℕ) → Once q → k < length q → Memᴰ (get_or q k 0) (take k q) → ⊥
once_before [] k o h m = not-suc-le-zero h
once_before (x ∷ q) zero o h m = mathlib.Core.List.Memᴰ.not-nil m
once_before (x ∷ q) (suc k) o h m =
    let rec : Memᴰ (get_or q k 0) (take k q) → ⊥ = once_before q k o.1 (omega arith) in
    ⊎_elim (λ e. o.0 (mathlib.Core.List.Memᴰ.cast (sym e) (index-mem q k (omega arith)))) rec (mathlib.Core.List.Memᴰ.cases_cons m)

entry_part : (w : List ℕ) (a m p : ℕ) → p < m → get_or (part a m w) p 0 ≡ get_or w (a + p) 0
entry_part w a m p h = get_or-take m (drop a w) p 0 h ∙ get_or-drop a w p 0

shut_queue : (hs : List ℕ) (j : ℕ) (r r' : Row) → Shut hs j r r' → r'.queue ≡ r.queue
shut_queue hs j r r' (inl e) = ap (λ (y : Row). y.queue) e
shut_queue hs j r r' (inr z) = ap (λ (y : Row). y.queue) z.3

-- ── The next server ──

module _ (n c : ℕ) (s : Store) (kn : Known n c s) (h : ℕ) (lv : Live n c s h) (q : Listener) (is : state_of (cell_at s.words (slot_of h)) ≡ Listening q) where
  abbrev pub line : List ℕ
  line = queued (queue_in n s.words (slot_of h)) q.head q.pending

  ranged : (q.name ≤ 255) × (q.backlog < 4294967296) × (q.head < n) × (q.pending ≤ n)
  ranged = listener_at kn lv.within is

  long : length line ≡ q.pending
  long = queue-length n c s kn.roomy (slot_of h) q lv.within ranged.2 ranged.3

  queue_is : ending.queued (model.state_of (view n c s) h) ≡ line
  unfolding ending.queued show_in row_at
  queue_is = ap ending.queued (state_seen n c s h (Listening q) lv.within is)

  entry : (k : ℕ) → k < q.pending → Entry n s.words (slot_of h) (place_of n (q.head + k)) (get_or (queue_in n s.words (slot_of h)) (place_of n (q.head + k)) 0)
  unfolding tied
  entry k hk = (entries_of n s.words (slot_of h) q (subst (λ (σ : State). tied_state n s.words (slot_of h) σ ≡ true) is (kn.ties (slot_of h) lv.within))).each k hk

  line_at : (k : ℕ) → k < q.pending → get_or line k 0 ≡ get_or (queue_in n s.words (slot_of h)) (place_of n (q.head + k)) 0
  line_at k hk = queue_at n c s kn.roomy (slot_of h) q k lv.within ranged.2 ranged.3 hk

  waiting_open : (y : ℕ) → Memᴰ y line → is_open (view n c s) y ≡ true
  waiting_open y m = (kn.good.sound.queues.entries h y lv.opened (subst (Memᴰ y) (sym queue_is) m)).here

  line_once : Once line
  line_once = subst Once queue_is (kn.good.sound.queues.once h lv.opened)

  module _ (k e f : ℕ) (w wk₀ wk rl₀ rl : List ℕ) (d : Closing) (so : SoFar n c s (h ∷ take k line) e f w wk₀ wk rl₀ rl d) (hk : k < q.pending) (p x : ℕ) (ep : p ≡ place_of n (q.head + k))
      (ex : x ≡ get_or w (queue_base n (slot_of h) + p) 0) where
    place_in_ring : p < n
    place_in_ring = let z = place_ring n q.head k ranged.2 (let y = ranged.3 in omega arith) in omega arith

    is_entry : x ≡ get_or (queue_in n s.words (slot_of h)) (place_of n (q.head + k)) 0
    unfolding row_at
    is_entry =
        ex ∙ sym (entry_part w (queue_base n (slot_of h)) n p place_in_ring)
        ∙ ap₂ (λ (r : List ℕ) (y : ℕ). get_or r y 0) (shut_queue (h ∷ take k line) (slot_of h) (row_at n c s (slot_of h)) (row_at n c (lent w s.bytes s.tokens) (slot_of h)) (so.rows_are (slot_of h) lv.within)) ep

    is_next : x ≡ get_or line k 0
    is_next = is_entry ∙ sym (line_at k hk)

    en : Entry n s.words (slot_of h) (place_of n (q.head + k)) x
    en = subst (Entry n s.words (slot_of h) (place_of n (q.head + k))) (sym is_entry) (entry k hk)

    in_line : Memᴰ x line
    in_line = mathlib.Core.List.Memᴰ.cast is_next (index-mem line k (let z = long in omega arith))

    pub next_same : row_at n c (lent w s.bytes s.tokens) (slot_of x) ≡ row_at n c s (slot_of x)
    next_same = go (so.rows_are (slot_of x) en.within)
      where
        among : (y : ℕ) → Memᴰ y (h ∷ take k line) → slot_of x ≡ slot_of y → ⊥
        among y m e =
            ⊎_elim
            (λ z. other_state (sym en.is_server ∙ ap (λ (v : ℕ). state_of (cell_at s.words v)) (e ∙ ap slot_of z) ∙ is) (λ v. omega arith))
            (λ m'. let same = open_same (view n c s) x y (waiting_open x in_line) (waiting_open y (mem-take k line m')) e in
            once_before line k line_once (let z = long in omega arith) (mathlib.Core.List.Memᴰ.cast (sym is_next ∙ same) m'))
            (mathlib.Core.List.Memᴰ.cases_cons m)

        go : Shut (h ∷ take k line) (slot_of x) (row_at n c s (slot_of x)) (row_at n c (lent w s.bytes s.tokens) (slot_of x)) → row_at n c (lent w s.bytes s.tokens) (slot_of x) ≡ row_at n c s (slot_of x)
        go (inl e) = e
        go (inr z) = absurd (among z.0 z.1 z.2)

    same_cell : cell_at w (slot_of x) ≡ cell_at s.words (slot_of x)
    unfolding row_at
    same_cell = ap (λ (r : Row). r.cell) next_same

    pub next_serves : Serves n c w x
    next_serves =
        let z = inbox-in kn en.within en.is_server in
        record {
          within = en.within;
          server = en.server;
          is_server = ap state_of same_cell ∙ en.is_server;
          fits = record { head_in = z.head_in; bytes_in = z.fits; first_in = z.first_in; items-in = z.items-in };
        }

    pub next_closed : (w' wk' rl' : List ℕ) (r : Closing) → Ends n (slot_of x) (cell_at w (slot_of x)).generation (connection_in (state_of (cell_at w (slot_of x)))) w w' s.tokens wk wk' rl rl' d r
        → SoFar n c s (h ∷ take (k + 1) line) (e + 1) (f + 1) w' wk₀ wk' rl₀ rl' r
    next_closed w' wk' rl' r ends =
        let sv = next_serves in
        let b : Connection = connection_in (state_of (cell_at w (slot_of x))) in
        let eb : b ≡ sv.server = ap connection_in sv.is_server in
        let more : take (k + 1) line ≡ take k line ++ x ∷ [] =
        (let z : k + 1 ≡ suc k = omega arith in ap (λ (y : ℕ). take y line) z) ∙ take-suc line k 0 (let z = long in omega arith) ∙ ap (λ (y : ℕ). take k line ++ y ∷ []) (sym is_next) in
        subst (λ (y : List ℕ). SoFar n c s (h ∷ y) (e + 1) (f + 1) w' wk₀ wk' rl₀ rl' r) (sym more)
        (one_more n c s kn (h ∷ take k line) e f w wk₀ wk rl₀ rl d so x b (cell_at w (slot_of x)).generation sv.within (sv.is_server ∙ ap Connected (sym eb)) refl
        (subst (Fits c) (sym eb) sv.fits) next_same w' wk' rl' r ends)

  -- all have closed
  pub line_done : (k e f : ℕ) (w wk₀ wk rl₀ rl : List ℕ) (d : Closing) → SoFar n c s (h ∷ take k line) e f w wk₀ wk rl₀ rl d → k ≤ q.pending → q.pending ≤ k → (r : Answer)
      → r ≡ released_with d.wakes d.releases
      → Done (run (view n c s) (Call.Close h)) n c s (lent w s.bytes s.tokens) (lists wk₀ rl₀) (lists wk rl) r
  line_done k e f w wk₀ wk rl₀ rl d so h₁ h₂ r er =
      let whole : take k line ≡ ending.queued (model.state_of (view n c s) h) = take_all k line (let z = long in omega arith) ∙ sym queue_is in
      all_done n c s kn h e f w wk₀ wk rl₀ rl d r lv (subst (λ (y : List ℕ). SoFar n c s (h ∷ y) e f w wk₀ wk rl₀ rl d) whole so) er
