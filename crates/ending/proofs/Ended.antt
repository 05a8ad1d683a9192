-- The parts of close, return by return.
use mathlib.Core.Path.{◌≡◌, refl, sym, ap, ap₂, ◌∙◌, subst}
use mathlib.Core.Bool.{Bool, true, false, cond, not}
use mathlib.Core.List.{List, [], ◌∷◌}
use Prim.Native.Nat.{ℕ, ◌+◌, ◌*◌, ◌≤◌, ◌<◌}
use native.Mathlib.Omega.{arith}
use borrow.Author.Tests.{not-true, not-false}
use lib.ListN.{length, get_or, set, take}
use lib.Seq.{sets, length-sets}
use Rattle.inbox.specs.Promise.{Discards}
use Rattle.inbox.specs.declared.Discarded.{Discarded}
use Rattle.rules.specs.Table as model
use Rattle.rules.specs.Table.{slot_of}
use Rattle.rules.specs.Outcome.{Call}
use Rattle.rules.specs.Ending as ending
use Rattle.rules.specs.Ending.{close_all, close_wakes, kept}
use Rattle.rules.specs.Run.{run}
use Rattle.ring.specs.Ring.{place_of, queued}
use Rattle.storage.specs.Layout.{part, tokens_base, queue_base}
use Rattle.storage.specs.Cells.{cell_at, state_of, store_at, cell_of}
use Rattle.storage.specs.Rows.{Store, lent, row_at}
use Rattle.storage.specs.View.{view, show_in}
use Rattle.storage.specs.Finding.{open_in, live_in}
use Rattle.storage.specs.declared.Slot.{Slot}
use Rattle.storage.specs.declared.State.{State}
use Rattle.storage.specs.declared.State.TheVariants.{Closed, Unbound, Bound, Listening, Connected}
use Rattle.storage.specs.declared.Listener.{Listener}
use Rattle.storage.specs.declared.Connection.{Connection}
use Rattle.storage.proofs.Coding.{loaded_generation, loaded_state, loaded_at}
use Rattle.table.specs.Formed.{queue_in}
use Rattle.table.specs.Admission.{Admitted}
use Rattle.promise.specs.Answers.{refused_with, accepted_with, released_with}
use Rattle.promise.specs.Promise.{Lists, lists, Done}
use Rattle.promise.specs.declared.Answer.{Answer}
use Rattle.promise.proofs.Known.{Known, known, refused_done, listener_at}
use Rattle.promise.proofs.Called.{Unconnected}
use Rattle.promise.proofs.Held.{inbox-in}
use Rattle.promise.proofs.Live.{Live, live, not_closed, state_seen, stale_run}
use Rattle.ending.specs.declared.Closing.{Closing}
use Rattle.ending.specs.Leaving.{peer_in, Ends, Fits, Serves, SoFar, connection_in}
use Rattle.ending.proofs.Leaving.{none_yet, one_more, first_left, all_done}
use Rattle.ending.proofs.Listeners.{line, next_serves, next_closed, line_done}

-- ── end ──

module _ (n c i g : ℕ) (k : Connection) (w w' t wk rl rl' : List ℕ) (d : Closing) (z : Discarded) (o : Bool) (eo : o ≡ open_in n w k.peer.0)
    (ds : Discards c (part (tokens_base i) 256 t) rl rl' d.releases k.inbox z) (ew : w' ≡ store_at w i (cell_of g Closed)) where
  released_is : d.releases + z.released ≡ d.releases + k.inbox.items
  released_is = ap (λ (y : ℕ). d.releases + y) ds.released_are

  pub ends_woken : not o ≡ false → Ends n i g k w w' t wk (set wk d.wakes k.peer.0) rl rl' d (record { wakes = d.wakes + 1; releases = d.releases + z.released })
  unfolding peer_in
  ends_woken e =
      let p : peer_in n w k ≡ k.peer.0 ∷ [] = ap (λ (b : Bool). cond b (k.peer.0 ∷ []) []) (sym eo ∙ not-false o e) in
      record {
        words = ew;
        wakes = ap (sets wk d.wakes) (sym p);
        releases = ds.releases_it;
        wake_count = ap (λ (y : List ℕ). d.wakes + length y) (sym p);
        release_count = released_is;
      }

  pub ends_silent : not o ≡ true → Ends n i g k w w' t wk wk rl rl' d (record { wakes = d.wakes; releases = d.releases + z.released })
  unfolding peer_in
  ends_silent e =
      let p : peer_in n w k ≡ [] = ap (λ (b : Bool). cond b (k.peer.0 ∷ []) []) (sym eo ∙ not-true o e) in
      record {
        words = ew;
        wakes = ap (sets wk d.wakes) (sym p);
        releases = ds.releases_it;
        wake_count = (let z : d.wakes ≡ d.wakes + 0 = omega arith in z) ∙ ap (λ (y : List ℕ). d.wakes + length y) (sym p);
        release_count = released_is;
      }

-- ── end_server ──

module _ (n c : ℕ) (w : List ℕ) (x i : ℕ) (sv : Serves n c w x) (ei : i ≡ slot_of x) (sl : Slot) (es : sl ≡ loaded_at w i) where
  state_at : sl.state ≡ state_of (cell_at w (slot_of x))
  state_at = loaded_state w ei es

  pub serves_always : Unconnected sl.state → ⊥
  serves_always d = d sv.server (state_at ∙ sv.is_server)

  module _ (k : Connection) (ek : sl.state ≡ Connected k) where
    is_k : connection_in (state_of (cell_at w (slot_of x))) ≡ k
    is_k = ap connection_in (sym state_at ∙ ek)

    pub server_fits : Fits c k
    server_fits = subst (Fits c) (sym (ap connection_in sv.is_server) ∙ is_k) sv.fits

    pub server_within : i < n
    server_within = let z = sv.within in omega arith

    pub server_ended : (w' t wk wk' rl rl' : List ℕ) (d r : Closing) → Ends n i sl.generation k w w' t wk wk' rl rl' d r
        → Ends n (slot_of x) (cell_at w (slot_of x)).generation (connection_in (state_of (cell_at w (slot_of x)))) w w' t wk wk' rl rl' d r
    server_ended w' t wk wk' rl rl' d r e =
        subst (λ (y : Connection). Ends n (slot_of x) (cell_at w (slot_of x)).generation y w w' t wk wk' rl rl' d r) (sym is_k)
        (subst (λ (y : ℕ). Ends n (slot_of x) y k w w' t wk wk' rl rl' d r) (loaded_generation w ei es) (subst (λ (y : ℕ). Ends n y sl.generation k w w' t wk wk' rl rl' d r) ei e))

-- ── end_listener ──

module _ (n c : ℕ) (s : Store) (kn : Known n c s) (h : ℕ) (lv : Live n c s h) (q : Listener) (is : state_of (cell_at s.words (slot_of h)) ≡ Listening q) where
  pub listener_left : (i g : ℕ) (w' wk wk' rl : List ℕ) (d : Closing) → i ≡ slot_of h → g ≡ (cell_at s.words (slot_of h)).generation → w' ≡ store_at s.words i (cell_of g Closed) → wk' ≡ set wk 0 0
      → d ≡ record { wakes = 1; releases = 0 } → SoFar n c s (h ∷ take 0 (line n c s kn h lv q is)) 1 0 w' wk wk' rl rl d
  unfolding close_wakes kept show_in
  listener_left i g w' wk wk' rl d ei eg ew ek ed =
      let st = state_seen n c s h (Listening q) lv.within is in
      let cw : close_wakes (view n c s) (model.state_of (view n c s) h) ≡ 0 ∷ [] = ap (close_wakes (view n c s)) st in
      first_left n c s kn h g lv.within eg w' wk wk' rl d (ew ∙ ap (λ (y : ℕ). store_at s.words y (cell_of g Closed)) ei) (ek ∙ ap (sets wk 0) (sym cw)) (ap kept st)
      (ap (λ (y : Closing). y.wakes) ed ∙ ap length (sym cw)) (ap (λ (y : Closing). y.releases) ed) (let z = ap (λ (y : Closing). y.wakes) ed in omega arith)

  pub ring_range : (q.head < n) × (q.pending ≤ n)
  ring_range = let z = listener_at kn lv.within is in (z.2, z.3)

-- ── close ──

module _ (n c : ℕ) (s : Store) (l : Lists) (h : ℕ) (b : Bool) (eb : b ≡ live_in n s.words h) (r : Answer) where
  pub stale : not b ≡ true → r ≡ refused_with 1 → Done (run (view n c s) (Call.Close h)) n c s s l l r
  unfolding run
  stale t er = refused_done _ 1 n c s l r (stale_run n c s h b _ eb t) (λ z. omega arith) er

module _ (w : List ℕ) (h i : ℕ) (ei : i ≡ slot_of h) (sl : Slot) (es : sl ≡ loaded_at w i) where
  pub is_state : (σ : State) → sl.state ≡ σ → state_of (cell_at w (slot_of h)) ≡ σ
  is_state σ e = sym (loaded_state w ei es) ∙ e

  pub generation_is : sl.generation ≡ (cell_at w (slot_of h)).generation
  generation_is = loaded_generation w ei es

module _ (n c : ℕ) (s : Store) (h : ℕ) (b : Bool) (eb : b ≡ live_in n s.words h) (kn : Known n c s) (t : not b ≡ false) (i : ℕ) (ei : i ≡ slot_of h) (sl : Slot) (es : sl ≡ loaded_at s.words i) where
  lv : Live n c s h
  lv = live n c s h b eb t

  seen_as : (σ : State) → sl.state ≡ σ → model.state_of (view n c s) h ≡ (show_in (row_at n c s (slot_of h)) (cell_at s.words (slot_of h)).generation σ).state
  seen_as σ e = state_seen n c s h σ lv.within (is_state s.words h i ei sl es σ e)

  module _ (wk rl : List ℕ) (r : Answer) where
    pub closed_never : sl.state ≡ Closed → r ≡ refused_with 19 → Done (run (view n c s) (Call.Close h)) n c s s (lists wk rl) (lists wk rl) r
    closed_never e er = not_closed n c s h lv (is_state s.words h i ei sl es Closed e)

    pub unbound_closed : (w' : List ℕ) → sl.state ≡ Unbound → w' ≡ store_at s.words i (cell_of sl.generation Closed) → r ≡ accepted_with 0 0
        → Done (run (view n c s) (Call.Close h)) n c s (lent w' s.bytes s.tokens) (lists wk rl) (lists wk rl) r
    unfolding close_wakes kept ending.queued show_in
    unbound_closed w' e ew er =
        let st = seen_as Unbound e in
        let d : Closing = record { wakes = 0; releases = 0 } in
        all_done n c s kn h 1 0 w' wk wk rl rl d r lv
        (subst (λ (y : List ℕ). SoFar n c s (h ∷ y) 1 0 w' wk wk rl rl d) (sym (ap ending.queued st))
        (first_left n c s kn h sl.generation lv.within (generation_is s.words h i ei sl es) w' wk wk rl d (ew ∙ ap (λ (y : ℕ). store_at s.words y (cell_of sl.generation Closed)) ei)
        (ap (λ (y : model.State). sets wk 0 (close_wakes (view n c s) y)) (sym st)) (ap kept st) (ap (λ (y : model.State). length (close_wakes (view n c s) y)) (sym st)) refl (omega arith)))
        er

    pub bound_closed : (m : ℕ) (w' : List ℕ) → sl.state ≡ Bound m → w' ≡ store_at s.words i (cell_of sl.generation Closed) → r ≡ accepted_with 0 1
        → Done (run (view n c s) (Call.Close h)) n c s (lent w' s.bytes s.tokens) (lists wk rl) (lists (set wk 0 0) rl) r
    unfolding close_wakes kept ending.queued show_in
    bound_closed m w' e ew er =
        let st = seen_as (Bound m) e in
        let d : Closing = record { wakes = 1; releases = 0 } in
        all_done n c s kn h 1 0 w' wk (set wk 0 0) rl rl d r lv
        (subst (λ (y : List ℕ). SoFar n c s (h ∷ y) 1 0 w' wk (set wk 0 0) rl rl d) (sym (ap ending.queued st))
        (first_left n c s kn h sl.generation lv.within (generation_is s.words h i ei sl es) w' wk (set wk 0 0) rl d (ew ∙ ap (λ (y : ℕ). store_at s.words y (cell_of sl.generation Closed)) ei)
        (ap (λ (y : model.State). sets wk 0 (close_wakes (view n c s) y)) (sym st)) (ap kept st) (ap (λ (y : model.State). length (close_wakes (view n c s) y)) (sym st)) refl (omega arith)))
        er

  module _ (k : Connection) (ek : sl.state ≡ Connected k) where
    pub socket_fits : Fits c k
    socket_fits =
        let z = inbox-in kn lv.within (is_state s.words h i ei sl es (Connected k) ek) in
        record { head_in = z.head_in; bytes_in = z.fits; first_in = z.first_in; items-in = z.items-in }

    pub socket_within : i < n
    socket_within = let z = lv.within in omega arith

    pub connected_closed : (wk rl : List ℕ) (r : Answer) (w' wk' rl' : List ℕ) (none d : Closing) → none.wakes ≡ 0 → none.releases ≡ 0 → Ends n i sl.generation k s.words w' s.tokens wk wk' rl rl' none d
        → r ≡ released_with d.wakes d.releases → Done (run (view n c s) (Call.Close h)) n c s (lent w' s.bytes s.tokens) (lists wk rl) (lists wk' rl') r
    unfolding ending.queued show_in
    connected_closed wk rl r w' wk' rl' none d ew ef e er =
        let en : none ≡ record { wakes = 0; releases = 0 } = ap₂ (λ (x : ℕ) (y : ℕ). record { wakes = x; releases = y }) ew ef in
        let st = seen_as (Connected k) ek in
        all_done n c s kn h 1 1 w' wk wk' rl rl' d r lv
        (subst (λ (y : List ℕ). SoFar n c s (h ∷ y) 1 1 w' wk wk' rl rl' d) (sym (ap ending.queued st))
        (one_more n c s kn [] 0 0 s.words wk wk rl rl (record { wakes = 0; releases = 0 }) (none_yet n c s wk rl) h k sl.generation lv.within (is_state s.words h i ei sl es (Connected k) ek) (generation_is s.words h i ei sl es) socket_fits refl w' wk' rl' d
        (subst (λ (y : Closing). Ends n (slot_of h) sl.generation k s.words w' s.tokens wk wk' rl rl' y d) en (subst (λ (y : ℕ). Ends n y sl.generation k s.words w' s.tokens wk wk' rl rl' none d) ei e))))
        er

-- ── The loop of end_listener ──

-- the listener q in slot i, with handle h: before it closed, in w₀, and after, in w₁ and its lists
pub record Begun (n c i : ℕ) (q : Listener) (h : ℕ) (b t w₀ wk₀ rl₀ w₁ wk₁ rl₁ : List ℕ) (d₁ : Closing) : Type 0 where
  pub knows : Known n c (lent w₀ b t)
  pub lives : Live n c (lent w₀ b t) h
  pub listens : state_of (cell_at w₀ (slot_of h)) ≡ Listening q
  pub slot : i ≡ slot_of h
  pub left : SoFar n c (lent w₀ b t) (h ∷ []) 1 0 w₁ wk₀ wk₁ rl₀ rl₁ d₁

live_true : (n c : ℕ) (w b t : List ℕ) (h : ℕ) → live_in n w h ≡ true → Live n c (lent w b t) h
live_true n c w b t h l = live n c (lent w b t) h true (sym l) refl

pub begun : {n c : ℕ} {w b t : List ℕ} {x y : ℕ} → Admitted n c (lent w b t) x y → (i h gen : ℕ) (q : Listener) → live_in n w h ≡ true → state_of (cell_at w (slot_of h)) ≡ Listening q → i ≡ slot_of h
    → gen ≡ (cell_at w (slot_of h)).generation → (w₁ wk rl : List ℕ) → w₁ ≡ store_at w i (cell_of gen Closed) → Begun n c i q h b t w wk rl w₁ (set wk 0 0) rl (record { wakes = 1; releases = 0 })
begun {n} {c} {w} {b} {t} a i h gen q l e ei eg w₁ wk rl ew =
    let lv = live_true n c w b t h l in
    record {
      knows = known a;
      lives = lv;
      listens = e;
      slot = ei;
      left = listener_left n c (lent w b t) (known a) h lv q e i gen w₁ wk (set wk 0 0) rl (record { wakes = 1; releases = 0 }) ei eg ew refl refl;
    }

-- from when the listener had closed to when k servers have
pub record Going (n c i : ℕ) (q : Listener) (b t w₁ wk₁ rl₁ : List ℕ) (d₁ : Closing) (k : ℕ) (w wk rl : List ℕ) (d : Closing) : Type 0 where
  pub goes : (h : ℕ) (w₀ wk₀ rl₀ : List ℕ) → Begun n c i q h b t w₀ wk₀ rl₀ w₁ wk₁ rl₁ d₁
      → SoFar n c (lent w₀ b t) (h ∷ take k (queued (queue_in n w₀ (slot_of h)) q.head q.pending)) (k + 1) k w wk₀ wk rl₀ rl d

long_as : (l' l xs : List ℕ) → l' ≡ sets l 0 xs → length l' ≡ length l
long_as l' l xs e = ap length e ∙ length-sets l 0 xs

pub going_first : (n c i : ℕ) (q : Listener) (b t w wk rl : List ℕ) (d : Closing) → Going n c i q b t w wk rl d 0 w wk rl d
going_first n c i q b t w wk rl d = record { goes = λ h w₀ wk₀ rl₀ g. g.left }

module _ {n c i : ℕ} {q : Listener} {b t w₁ wk₁ rl₁ : List ℕ} {d₁ : Closing} {k : ℕ} {w wk rl : List ℕ} {d : Closing} (go : Going n c i q b t w₁ wk₁ rl₁ d₁ k w wk rl d) where
  module _ (hk : k < q.pending) (p x : ℕ) (ep : p ≡ place_of n (q.head + k)) (ex : x ≡ get_or w (queue_base n i + p) 0) where
    pub going_on : (w' wk' rl' : List ℕ) (r : Closing) → Ends n (slot_of x) (cell_at w (slot_of x)).generation (connection_in (state_of (cell_at w (slot_of x)))) w w' t wk wk' rl rl' d r
        → Going n c i q b t w₁ wk₁ rl₁ d₁ (k + 1) w' wk' rl' r
    going_on w' wk' rl' r e =
        record {
          goes = λ h w₀ wk₀ rl₀ g.
              next_closed n c (lent w₀ b t) g.knows h g.lives q g.listens k (k + 1) k w wk₀ wk rl₀ rl d (go.goes h w₀ wk₀ rl₀ g) hk p x ep
              (ex ∙ ap (λ (y : ℕ). get_or w (queue_base n y + p) 0) g.slot) w' wk' rl' r e;
        }

    pub serves_next : (h : ℕ) (w₀ wk₀ rl₀ : List ℕ) → Begun n c i q h b t w₀ wk₀ rl₀ w₁ wk₁ rl₁ d₁ → Serves n c w x
    serves_next h w₀ wk₀ rl₀ g =
        next_serves n c (lent w₀ b t) g.knows h g.lives q g.listens k (k + 1) k w wk₀ wk rl₀ rl d (go.goes h w₀ wk₀ rl₀ g) hk p x ep (ex ∙ ap (λ (y : ℕ). get_or w (queue_base n y + p) 0) g.slot)

  module _ (h : ℕ) (w₀ wk₀ rl₀ : List ℕ) (g : Begun n c i q h b t w₀ wk₀ rl₀ w₁ wk₁ rl₁ d₁) where
    abbrev closes : ending.Closing
    closes = close_all (view n c (lent w₀ b t)) (h ∷ take k (queued (queue_in n w₀ (slot_of h)) q.head q.pending))

    few : q.pending ≤ n
    few = (ring_range n c (lent w₀ b t) g.knows h g.lives q g.listens).1

    pub wakes_next : k < q.pending → n + 1 ≤ length wk₀ → d.wakes < length wk
    wakes_next hk lw =
        let f = go.goes h w₀ wk₀ rl₀ g in
        let z = few in
        let a = f.wakes_few in
        let lk : length wk ≡ length wk₀ = long_as wk wk₀ closes.wakes f.wakes_are in
        omega arith

    pub releases_next : k < q.pending → 256 * n ≤ length rl₀ → d.releases + 256 ≤ length rl
    releases_next hk lr =
        let f = go.goes h w₀ wk₀ rl₀ g in
        let z = few in
        let e = f.releases_few in
        let lx : length rl ≡ length rl₀ = long_as rl rl₀ closes.releases f.releases_are in
        omega arith

    pub rows_next : 8 + 272 * n + n * n ≤ length w
    rows_next =
        let f = go.goes h w₀ wk₀ rl₀ g in
        let a = g.knows.roomy.words in
        let e = f.around.words_long in
        omega arith

    pub slots_next : 8 + 16 * n ≤ length w
    slots_next = let r = rows_next in omega arith

    pub going_done : k ≤ q.pending → q.pending ≤ k → (r : Answer) → r ≡ released_with d.wakes d.releases
        → Done (run (view n c (lent w₀ b t)) (Call.Close h)) n c (lent w₀ b t) (lent w b t) (lists wk₀ rl₀) (lists wk rl) r
    going_done h₁ h₂ r er = line_done n c (lent w₀ b t) g.knows h g.lives q g.listens k (k + 1) k w wk₀ wk rl₀ rl d (go.goes h w₀ wk₀ rl₀ g) h₁ h₂ r er

-- what its parts ask
pub heads : {n c : ℕ} {w b t : List ℕ} {x y : ℕ} → Admitted n c (lent w b t) x y → (h : ℕ) (q : Listener) → live_in n w h ≡ true → state_of (cell_at w (slot_of h)) ≡ Listening q → (q.head < n) × (q.pending ≤ n) × (n ≤ 1024)
heads {n} {c} {w} {b} {t} a h q l e =
    let z = ring_range n c (lent w b t) (known a) h (live_true n c w b t h l) q e in (z.0, z.1, a.few)

pub own_within : {n c : ℕ} {w b t : List ℕ} {x y : ℕ} → Admitted n c (lent w b t) x y → (h : ℕ) → live_in n w h ≡ true → (i : ℕ) → i ≡ slot_of h → i < n
own_within {n} {c} {w} {b} {t} a h l i ei = let z = (live_true n c w b t h l).within in omega arith

pub wakes_room : {n c : ℕ} {s : Store} {x y : ℕ} → Admitted n c s x y → (z : ℕ) → z ≡ 0 → z < x
wakes_room a z e = let w = a.wake_list in omega arith

pub releases_room : {n c : ℕ} {s : Store} {x y : ℕ} → Admitted n c s x y → (z : ℕ) → z ≡ 0 → z + 256 ≤ y
releases_room a z e = let r = a.release_list in let o = a.some_slot in omega arith
