-- shutdown
use mathlib.Core.Path.{◌≡◌, refl, sym, ap, ap₂, ◌∙◌, subst}
use mathlib.Core.Logic.{◌≢◌}
use mathlib.Core.Option.{some}
use mathlib.Core.Bool.{Bool, true, false, cond, not, ◌||◌, true≢false, false≢true}
use mathlib.Core.List.{List, [], ◌∷◌}
use Prim.Native.Nat.{ℕ, ◌+◌, ◌*◌, ◌≤◌, ◌<◌}
use native.Mathlib.Decide.{ℕ_discrete as dec_eq}
use native.Mathlib.Omega.{arith}
use lib.IntN.{ℤ, pos, negsuc}
use lib.ListN.{length, set}
use lib.Seq.{sets}
use borrow.Author.Tests.{not-true, not-false, ne_eqb, eqb-true}
use Rattle.std.specs.Prelude.{Result, Ok, Err}
use Rattle.words.specs.Integers.{equals}
use Rattle.words.specs.Numbers.{number_of}
use Rattle.words.specs.declared.Errno.{Errno}
use Rattle.abi.specs.Shutdown.{how_of}
use Rattle.abi.specs.declared.ShutdownHow.{ShutdownHow}
use Rattle.inbox.specs.View as inbox
use Rattle.inbox.specs.Well.{AllFit}
use Rattle.inbox.specs.declared.Inbox.{Inbox}
use Rattle.inbox.specs.declared.Discarded.{Discarded}
use Rattle.rules.specs.Table as model
use Rattle.rules.specs.Table.{Table, at, put, slot_of, is_open, become}
use Rattle.rules.specs.Inbox.{nothing, all_items}
use Rattle.rules.specs.Outcome.{Call, Outcome, refuse, answer, refuse_if, open_one}
use Rattle.rules.specs.Ending.{close_ends, do_shutdown}
use Rattle.rules.specs.Run.{run, shuts_read, shuts_write}
use Rattle.rules.proofs.Frame.{at_put_other, slots_apart, none_some}
use Rattle.rules.proofs.Wf.{peer_of}
use Rattle.storage.specs.Layout.{part, tokens_base}
use Rattle.storage.specs.Cells.{cell_at, state_of, store_at, cell_of}
use Rattle.storage.specs.Rows.{Store, Row, Around, lent, row_at, rows, with_cell}
use Rattle.storage.specs.View.{view, show, show_in}
use Rattle.storage.specs.Finding.{open_in, live_in}
use Rattle.storage.specs.declared.Cell.{Cell}
use Rattle.storage.specs.declared.Slot.{Slot}
use Rattle.storage.specs.declared.State.{State}
use Rattle.storage.specs.declared.State.TheVariants.{Closed, Unbound, Bound, Listening, Connected}
use Rattle.storage.specs.declared.Connection.{Connection}
use Rattle.storage.proofs.Coding.{loaded_state, loaded_at}
use Rattle.storage.proofs.Framing.{store_rows}
use Rattle.storage.proofs.Around.{store_around, around_then, roomy_around}
use Rattle.storage.proofs.Viewed.{open_view, put_view}
use Rattle.table.specs.Admission.{Admitted}
use Rattle.promise.specs.Answers.{refused_with, released_with}
use Rattle.promise.specs.Promise.{Lists, lists, Stored, Done}
use Rattle.promise.specs.declared.Answer.{Answer}
use Rattle.promise.proofs.Known.{Known, known, refused_done}
use Rattle.promise.proofs.Asked.{slot_in}
use Rattle.promise.proofs.Kept.{Keeps, keeps_same, row_changed, row_other}
use Rattle.promise.proofs.Changed.{Fit, fit_same, row_stored, rows_kept, released_done}
use Rattle.promise.proofs.Called.{Unconnected, unconnected}
use Rattle.promise.proofs.Held.{ring_long, places_long, tokens_long, Held, held, placed_same, connected_fit, connected_keeps, connected_put}
use Rattle.promise.proofs.Live.{Live, live, opened, live_run, stale_run, state_seen}
use Rattle.shutting.specs.declared.Ends.{Ends}
use Rattle.shutting.specs.Parts.{reads_of, writes_of, ended_with, left_of, dropped_of, Drops, Follows, Shuts}
use Rattle.shutting.proofs.Ended.{left_range, left_shows, dropped_all, dropped_long, left_hidden, stays_hidden}

-- ── The parts ──

-- the own socket k in slot i, of generation g: m items are released
record OwnEnds (c i g : ℕ) (k : Connection) (rd wr : Bool) (w w' tokens releases releases' : List ℕ) (m : ℕ) : Type 0 where
  words : w' ≡ store_at w i (cell_of g (Connected (ended_with k (left_of c rd k.inbox) rd wr)))
  releases_it : releases' ≡ sets releases 0 (dropped_of rd (part (tokens_base i) 256 tokens) k.inbox)
  released_are : m ≡ cond rd k.inbox.items 0

own_ended : (c i g : ℕ) (k : Connection) (rd wr : Bool) (w w' t rl rl' : List ℕ) (d : Discarded) → Drops c (part (tokens_base i) 256 t) rl rl' rd k.inbox d
    → w' ≡ store_at w i (cell_of g (Connected (ended_with k d.inbox rd wr))) → OwnEnds c i g k rd wr w w' t rl rl' d.released
own_ended c i g k rd wr w w' t rl rl' d x e =
    record {
      words = e ∙ ap (λ (q : Inbox). store_at w i (cell_of g (Connected (ended_with k q rd wr)))) x.inbox_is;
      releases_it = x.releases_it;
      released_are = x.released_are;
    }

-- ── The rule ──

module _ (t : Table) (h : ℕ) (rd wr : Bool) (p : ℕ) (i : model.Inbox) (x y : Bool) (t₁ : Table) (e₁ : become t h (model.State.Connected p (cond rd nothing i) (x || rd) (y || wr)) ≡ t₁) where
  alone_is : is_open t p ≡ false → do_shutdown t h rd wr (model.State.Connected p i x y) ≡ answer t₁ 0 (h ∷ []) (cond rd (all_items i.groups) [])
  unfolding do_shutdown open_one
  alone_is o = rw (o, e₁) refl

  both_is : (t₂ : Table) → is_open t p ≡ true → become t₁ p (close_ends wr rd (model.state_of t₁ p)) ≡ t₂
      → do_shutdown t h rd wr (model.State.Connected p i x y) ≡ answer t₂ 0 (h ∷ p ∷ []) (cond rd (all_items i.groups) [])
  unfolding do_shutdown open_one
  both_is t₂ o e₂ = rw (o, e₁, e₂) refl

-- ── What the code leaves ──

module _ (n c : ℕ) (w b t : List ℕ) (kn : Known n c (lent w b t)) (h i : ℕ) (k : Connection) (hd : Held n c (lent w b t) h i k) (rd wr : Bool) where
  abbrev s : Store
  s = lent w b t

  abbrev row : Row
  row = row_at n c (lent w b t) i

  abbrev k₁ : Connection
  k₁ = ended_with k (left_of c rd k.inbox) rd wr

  abbrev cell₁ : Cell
  cell₁ = cell_of (cell_at w i).generation (Connected k₁)

  abbrev row₁ : Row
  row₁ = with_cell cell₁ (row_at n c (lent w b t) i)

  abbrev s₁ : Store
  s₁ = lent (store_at w i cell₁) b t

  abbrev old : model.Inbox
  old = inbox.view (row_at n c (lent w b t) i).ring (row_at n c (lent w b t) i).places (row_at n c (lent w b t) i).tokens k.inbox

  abbrev t₁ : Table
  t₁ = put (view n c (lent w b t)) i (show row₁)

  says : state_of (row_at n c (lent w b t) i).cell ≡ Connected k
  unfolding row_at
  says = hd.is_connected

  lp : length (row_at n c (lent w b t) i).places ≡ 256
  lp = places_long n c s kn.roomy i hd.within

  lt : length (row_at n c (lent w b t) i).tokens ≡ 256
  lt = tokens_long n c s kn.roomy i hd.within

  fit₁ : Fit n c (row_at n c (lent w b t) i) row₁
  fit₁ =
      connected_fit row row₁ (cell_at w i).generation k k₁ says refl n c (placed_same k k₁ refl refl hd.says) (left_range c rd k.inbox hd.range) refl
      (left_hidden c k rd rd wr row.ring row.places row.tokens (ring_long n c s kn.roomy i hd.within) lp lt hd.range)

  keep₁ : Keeps (row_at n c (lent w b t) i) row₁
  unfolding row_at
  keep₁ = connected_keeps (row_at n c s i) row₁ (cell_at w i).generation k k₁ hd.is_connected refl refl refl refl

  around₁ : Around n c (lent w b t) s₁
  around₁ = store_around n c w b t kn.roomy i hd.within cell₁

  rows₁ : rows n c s₁ ≡ set (rows n c (lent w b t)) i row₁
  rows₁ = store_rows n c w b t kn.roomy i hd.within cell₁

  next₁ : become (view n c (lent w b t)) h (model.State.Connected k.peer.0 (cond rd nothing old) (k.inbox_closed || rd) (k.outbox_closed || wr)) ≡ t₁
  next₁ =
      ap (λ (q : model.Inbox). become (view n c s) h (model.State.Connected k.peer.0 q (k.inbox_closed || rd) (k.outbox_closed || wr)))
      (sym (left_shows c rd row.ring row.places row.tokens k.inbox))
      ∙ connected_put row row₁ (cell_at w i).generation k k₁ says refl refl (view n c s) h i hd.is_slot hd.shown

  items_are : dropped_of rd (part (tokens_base i) 256 t) k.inbox ≡ cond rd (all_items old.groups) []
  unfolding row_at
  items_are = dropped_all row.places row.tokens k.inbox lp lt hd.range.first_in hd.range.items-in rd

  module _ (w₁ rl rl' : List ℕ) (m : ℕ) (en : OwnEnds c i (cell_at w i).generation k rd wr w w₁ t rl rl' m) where
    released_is : m ≡ length (cond rd (all_items old.groups) [])
    unfolding row_at
    released_is = en.released_are ∙ dropped_long row.places row.tokens k.inbox lp lt hd.range.first_in hd.range.items-in rd ∙ ap length items_are

    shut_alone : (wk : List ℕ) (r : Answer) → is_open (view n c (lent w b t)) k.peer.0 ≡ false → r ≡ released_with 1 m
        → Shuts n c (lent w b t) (lent w₁ b t) h rd wr (lists wk rl) (lists (set wk 0 h) rl') r
    shut_alone wk r o er =
        record {
          shuts = λ call to.
              let eo : run (view n c s) call ≡ answer t₁ 0 (h ∷ []) (cond rd (all_items old.groups) []) =
              to ∙ ap (do_shutdown (view n c s) h rd wr) hd.state_is ∙ alone_is (view n c s) h rd wr k.peer.0 old k.inbox_closed k.outbox_closed t₁ next₁ o in
              released_done _ t₁ 0 (h ∷ []) _ n c s (lent w₁ b t) (lists wk rl) (lists (set wk 0 h) rl') _ m r eo
              (subst (λ (y : List ℕ). Stored n c s (lent y b t) (run (view n c s) call)) (sym en.words)
              (row_stored n c s s₁ call i row₁ kn hd.within rows₁ around₁ (ap (λ (x : Outcome). x.next) eo) fit₁ keep₁))
              refl (en.releases_it ∙ ap (sets rl 0) items_are) refl released_is er;
        }

    module _ (j : ℕ) (k₂ : Connection) (hp : Held n c (lent w b t) k.peer.0 j k₂) (apart : j ≢ i) where
      abbrev k₃ : Connection
      k₃ = ended_with k₂ k₂.inbox wr rd

      abbrev cell₂ : Cell
      cell₂ = cell_of (cell_at w j).generation (Connected k₃)

      abbrev row₂ : Row
      row₂ = with_cell cell₂ (row_at n c (lent w b t) j)

      abbrev s₂ : Store
      s₂ = lent (store_at (store_at w i cell₁) j cell₂) b t

      abbrev t₂ : Table
      t₂ = put t₁ j (show row₂)

      peer_says : state_of (row_at n c (lent w b t) j).cell ≡ Connected k₂
      unfolding row_at
      peer_says = hp.is_connected

      fit₂ : Fit n c (row_at n c (lent w b t) j) row₂
      fit₂ =
          connected_fit (row_at n c s j) row₂ (cell_at w j).generation k₂ k₃ peer_says refl n c (placed_same k₂ k₃ refl refl hp.says) hp.range refl
          (stays_hidden c k₂ (inbox.view (row_at n c s j).ring (row_at n c s j).places (row_at n c s j).tokens k₂.inbox) wr rd hp.range)

      keep₂ : Keeps (row_at n c (lent w b t) j) row₂
      unfolding row_at
      keep₂ = connected_keeps (row_at n c s j) row₂ (cell_at w j).generation k₂ k₃ hp.is_connected refl refl refl refl

      around₂ : Around n c (lent w b t) s₂
      around₂ = around_then around₁ (store_around n c (store_at w i cell₁) b t (roomy_around around₁ kn.roomy) j hp.within cell₂)

      rows₂ : rows n c s₂ ≡ set (rows n c s₁) j row₂
      rows₂ =
          store_rows n c (store_at w i cell₁) b t (roomy_around around₁ kn.roomy) j hp.within cell₂
          ∙ ap (λ (u : Row). set (rows n c s₁) j (with_cell cell₂ u)) (row_other n c s s₁ i row₁ hd.within rows₁ j hp.within apart)

      own_row : row_at n c s₂ i ≡ row₁
      own_row = row_other n c s₁ s₂ j row₂ hp.within rows₂ i hd.within (λ z. apart (sym z)) ∙ row_changed n c s s₁ i row₁ hd.within rows₁

      peer_row : row_at n c s₂ j ≡ row₂
      peer_row = row_changed n c s₁ s₂ j row₂ hp.within rows₂

      other_row : (z : ℕ) → z < n → z ≢ i → z ≢ j → row_at n c s₂ z ≡ row_at n c (lent w b t) z
      other_row z hz a d = row_other n c s₁ s₂ j row₂ hp.within rows₂ z hz d ∙ row_other n c s s₁ i row₁ hd.within rows₁ z hz a

      -- a fact of each of the two rows, and of a row that stays
      each : (P : Row → Row → Type 0) → P (row_at n c (lent w b t) i) row₁ → P (row_at n c (lent w b t) j) row₂ → ((z : ℕ) → z < n → P (row_at n c (lent w b t) z) (row_at n c (lent w b t) z))
          → (z : ℕ) → z < n → P (row_at n c (lent w b t) z) (row_at n c s₂ z)
      each P a d f z hz =
          elim (dec_eq z i) [
            | yes e ↦ subst (λ (u : ℕ). P (row_at n c s u) (row_at n c s₂ u)) (sym e) (subst (P (row_at n c s i)) (sym own_row) a)
            | no x ↦ elim (dec_eq z j) [
              | yes e ↦ subst (λ (u : ℕ). P (row_at n c s u) (row_at n c s₂ u)) (sym e) (subst (P (row_at n c s j)) (sym peer_row) d)
              | no y ↦ subst (P (row_at n c s z)) (sym (other_row z hz x y)) (f z hz)
            ]
          ]

      fit : (z : ℕ) → z < n → Fit n c (row_at n c (lent w b t) z) (row_at n c s₂ z)
      unfolding row_at
      fit = each (Fit n c) fit₁ fit₂ (λ z hz. fit_same n c (row_at n c s z) (kn.fields z hz) (kn.ranges z hz))

      peer_shown : at t₁ j ≡ show_in (row_at n c (lent w b t) j) (cell_at w j).generation (Connected k₂)
      peer_shown = at_put_other (view n c s) i (show row₁) j apart ∙ hp.shown

      next₂ : become t₁ k.peer.0 (close_ends wr rd (model.state_of t₁ k.peer.0)) ≡ t₂
      unfolding close_ends model.state_of show_in
      next₂ =
          ap (λ (σ : model.State). become t₁ k.peer.0 (close_ends wr rd σ))
          (ap (λ (z : ℕ). (at t₁ z).state) (sym hp.is_slot) ∙ ap (λ (x : model.Slot). x.state) peer_shown)
          ∙ connected_put (row_at n c s j) row₂ (cell_at w j).generation k₂ k₃ peer_says refl refl t₁ k.peer.0 j hp.is_slot peer_shown

      shut_both : (w₂ wk : List ℕ) (r : Answer) → w₂ ≡ store_at w₁ j cell₂ → r ≡ released_with 2 m
          → Shuts n c (lent w b t) (lent w₂ b t) h rd wr (lists wk rl) (lists (set (set wk 0 h) 1 k.peer.0) rl') r
      shut_both w₂ wk r ew er =
          record {
            shuts = λ call to.
                let eo : run (view n c s) call ≡ answer t₂ 0 (h ∷ k.peer.0 ∷ []) (cond rd (all_items old.groups) []) =
                to ∙ ap (do_shutdown (view n c s) h rd wr) hd.state_is
                ∙ both_is (view n c s) h rd wr k.peer.0 old k.inbox_closed k.outbox_closed t₁ next₁ t₂ hp.opens next₂ in
                let shown : view n c s₂ ≡ (run (view n c s) call).next =
                put_view n c s₁ s₂ j row₂ rows₂ ∙ ap (λ (u : Table). put u j (show row₂)) (put_view n c s s₁ i row₁ rows₁) ∙ sym (ap (λ (x : Outcome). x.next) eo) in
                released_done _ t₂ 0 (h ∷ k.peer.0 ∷ []) _ n c s (lent w₂ b t) (lists wk rl) (lists (set (set wk 0 h) 1 k.peer.0) rl') _ m r eo
                (subst (λ (y : List ℕ). Stored n c s (lent y b t) (run (view n c s) call)) (sym (ew ∙ ap (λ (y : List ℕ). store_at y j cell₂) en.words))
                (rows_kept n c s s₂ call kn around₂ shown fit (each Keeps keep₁ keep₂ (λ z hz. keeps_same (row_at n c s z)))))
                refl (en.releases_it ∙ ap (sets rl 0) items_are) refl released_is er;
          }

-- ── shut ──

-- a peer is connected
has_peer : (p : ℕ) (r : Row) (g : ℕ) (σ : State) → peer_of (show_in r g σ).state ≡ some p → (k : Connection) × (σ ≡ Connected k)
unfolding peer_of show_in
has_peer p r g Closed e = absurd (none_some e)
has_peer p r g Unbound e = absurd (none_some e)
has_peer p r g (Bound m) e = absurd (none_some e)
has_peer p r g (Listening q) e = absurd (none_some e)
has_peer p r g (Connected k) e = (k, refl)

module _ {n c : ℕ} {w b t : List ℕ} {u v : ℕ} (a : Admitted n c (lent w b t) u v) where
  pub two_wakes : 1 < u
  two_wakes = let z = a.wake_list in let y = a.some_slot in omega arith

  module _ (h : ℕ) (e : live_in n w h ≡ true) where
    lv : Live n c (lent w b t) h
    lv = live n c (lent w b t) h true (sym e) refl

    module _ (i : ℕ) (ei : i ≡ slot_of h) where
      module _ (slot : Slot) (es : slot ≡ loaded_at w i) where
        pub shuts_apart : (rd wr : Bool) (l : Lists) (r : Answer) → Unconnected slot.state → r ≡ refused_with 9
            → Shuts n c (lent w b t) (lent w b t) h rd wr l l r
        unfolding do_shutdown
        shuts_apart rd wr l r k er =
            let tb = view n c (lent w b t) in
            record {
              shuts = λ call to.
                  refused_done _ 9 n c (lent w b t) l r
                  (to ∙ ap (do_shutdown tb h rd wr) (state_seen n c (lent w b t) h slot.state lv.within (sym (loaded_state w ei es)))
                  ∙ unconnected (λ σ. do_shutdown tb h rd wr σ ≡ refuse tb 9) refl (λ m. refl) (λ m d q. refl) (row_at n c (lent w b t) (slot_of h)) (cell_at w (slot_of h)).generation slot.state k)
                  (λ z. omega arith) er;
            }

        module _ (k : Connection) (ek : slot.state ≡ Connected k) where
          at_hand : Held n c (lent w b t) h i k
          at_hand = held n c (lent w b t) h i k (known a) ei lv.opened (sym (ap (λ (q : Slot). q.state) es) ∙ ek)

          pub drop_asked : ((256 * i + 256 ≤ length t) × (c ≤ 65536) × (256 ≤ v)) × AllFit c k.inbox
          drop_asked =
              let z = at_hand.within in
              let x = a.tokens in
              let y = a.release_list in
              let g = at_hand.range in
              ((omega arith, a.small, omega arith), (g.head_in, g.fits, (g.first_in, g.items-in)))

          module _ (f : Bool) (ef : f ≡ open_in n w k.peer.0) where
            gone : is_open (view n c (lent w b t)) k.peer.0 ≡ f
            gone = sym (open_view n c (lent w b t) k.peer.0) ∙ sym ef

            module _ (rd wr : Bool) (w₁ rl rl' : List ℕ) (left : Discarded) (dr : Drops c (part (tokens_base i) 256 t) rl rl' rd k.inbox left) (own_end : Connection) (eo : own_end ≡ ended_with k left.inbox rd wr)
                (ew : w₁ ≡ store_at w i (cell_of slot.generation (Connected own_end))) where
              ended : OwnEnds c i (cell_at w i).generation k rd wr w w₁ t rl rl' left.released
              ended =
                  own_ended c i (cell_at w i).generation k rd wr w w₁ t rl rl' left dr
                  (ew ∙ ap₂ (λ (g : ℕ) (q : Connection). store_at w i (cell_of g (Connected q))) (ap (λ (q : Slot). q.generation) es) eo)

              pub shuts_alone : (wk : List ℕ) (r : Answer) → not f ≡ true → r ≡ released_with 1 left.released → Shuts n c (lent w b t) (lent w₁ b t) h rd wr (lists wk rl) (lists (set wk 0 h) rl') r
              shuts_alone wk r z er = shut_alone n c w b t (known a) h i k at_hand rd wr w₁ rl rl' left.released ended wk r (gone ∙ not-true f z) er

              module _ (z : not f ≡ false) where
                peer_open : is_open (view n c (lent w b t)) k.peer.0 ≡ true
                peer_open = gone ∙ not-false f z

                peer_less : slot_of k.peer.0 < n
                peer_less = (opened n c (lent w b t) k.peer.0 peer_open).within

                points_there : peer_of (model.state_of (view n c (lent w b t)) h) ≡ some k.peer.0
                unfolding peer_of
                points_there = ap peer_of at_hand.state_is

                slots_differ : slot_of k.peer.0 ≢ i
                slots_differ y =
                    slots_apart (view n c (lent w b t)) k.peer.0 h peer_open lv.opened (λ x. (known a).good.sound.wf.apart h lv.opened (points_there ∙ ap some x)) (y ∙ ei)

                peer_is : (k₂ : Connection) × (state_of (cell_at w (slot_of k.peer.0)) ≡ Connected k₂)
                peer_is =
                    has_peer h (row_at n c (lent w b t) (slot_of k.peer.0)) (cell_at w (slot_of k.peer.0)).generation (state_of (cell_at w (slot_of k.peer.0)))
                    (ap peer_of (sym (state_seen n c (lent w b t) k.peer.0 (state_of (cell_at w (slot_of k.peer.0))) peer_less refl))
                    ∙ (known a).good.sound.wf.paired h k.peer.0 lv.opened points_there peer_open)

                abbrev cell : Cell
                cell = cell_of (cell_at w i).generation (Connected (ended_with k (left_of c rd k.inbox) rd wr))

                -- the own socket's end leaves the peer
                same_cell : cell_at w₁ (slot_of k.peer.0) ≡ cell_at w (slot_of k.peer.0)
                unfolding row_at
                same_cell =
                    ap (λ (r : Row). r.cell)
                    (row_other n c (lent w b t) (lent w₁ b t) i (with_cell cell (row_at n c (lent w b t) i)) at_hand.within
                    (ap (λ (y : List ℕ). rows n c (lent y b t)) ended.words ∙ store_rows n c w b t (known a).roomy i at_hand.within cell) (slot_of k.peer.0) peer_less slots_differ)

                pub peer_still : 8 + 16 * slot_of k.peer.0 + 16 ≤ length w₁
                peer_still =
                    let x = slot_in a (slot_of k.peer.0) peer_less in
                    let y = ap length ended.words ∙ (store_around n c w b t (known a).roomy i at_hand.within cell).words_long in
                    omega arith

                pub shuts_both : (w₂ wk : List ℕ) (r : Answer) → Follows k.peer.0 rd wr w₁ w₂ → r ≡ released_with 2 left.released
                    → Shuts n c (lent w b t) (lent w₂ b t) h rd wr (lists wk rl) (lists (set (set wk 0 h) 1 k.peer.0) rl') r
                shuts_both w₂ wk r fo er =
                    let j = slot_of k.peer.0 in
                    let k₂ = peer_is.0 in
                    shut_both n c w b t (known a) h i k at_hand rd wr w₁ rl rl' left.released ended j k₂ (held n c (lent w b t) k.peer.0 j k₂ (known a) refl peer_open peer_is.1) slots_differ w₂ wk r
                    (fo.words k₂ (ap state_of same_cell ∙ peer_is.1) ∙ ap (λ (x : Cell). store_at w₁ j (cell_of x.generation (Connected (ended_with k₂ k₂.inbox wr rd)))) same_cell) er

-- ── shutdown ──

-- the number, read by its three tests
numbered : Bool → Bool → Bool → Result ShutdownHow Errno
numbered a b c = cond a (Ok ShutdownHow.Read) (cond b (Ok ShutdownHow.Write) (cond c (Ok ShutdownHow.Both) (Err Errno.EINVAL)))

abbrev taken : Result ShutdownHow Errno → Bool
taken (Ok m) = true
taken (Err e) = false

abbrev which : Result ShutdownHow Errno → ShutdownHow
which (Ok m) = m
which (Err e) = ShutdownHow.Read

abbrev why : Result ShutdownHow Errno → ℕ
why (Ok m) = 0
why (Err e) = number_of e

none_of : (a b c : Bool) (x : Errno) → numbered a b c ≡ Err x → (not ((a || c) || (b || c)) ≡ true) × (number_of x ≡ 2)
unfolding numbered
none_of true b c x e = absurd (true≢false (ap taken e))
none_of false true c x e = absurd (true≢false (ap taken e))
none_of false false true x e = absurd (true≢false (ap taken e))
none_of false false false x e = (refl, sym (ap why e))

one_of : (a b c : Bool) (m : ShutdownHow) → (a ≡ true → (b ≡ false) × (c ≡ false)) → (b ≡ true → c ≡ false) → numbered a b c ≡ Ok m
    → (not ((a || c) || (b || c)) ≡ false) × ((a || c) ≡ reads_of m) × ((b || c) ≡ writes_of m)
unfolding numbered
one_of true true c m f g e = absurd (true≢false (f refl).0)
one_of true false true m f g e = absurd (true≢false (f refl).1)
one_of true false false m f g e = (refl, ap (λ (x : Result ShutdownHow Errno). reads_of (which x)) e, ap (λ (x : Result ShutdownHow Errno). writes_of (which x)) e)
one_of false true true m f g e = absurd (true≢false (g refl))
one_of false true false m f g e = (refl, ap (λ (x : Result ShutdownHow Errno). reads_of (which x)) e, ap (λ (x : Result ShutdownHow Errno). writes_of (which x)) e)
one_of false false true m f g e = (refl, ap (λ (x : Result ShutdownHow Errno). reads_of (which x)) e, ap (λ (x : Result ShutdownHow Errno). writes_of (which x)) e)
one_of false false false m f g e = absurd (false≢true (ap taken e))

only : (z : ℤ) (x y : ℕ) → x ≢ y → equals z x ≡ true → equals z y ≡ false
unfolding equals
only (pos m) x y d e = ne_eqb m y (λ z. d (sym (eqb-true m x e) ∙ z))
only (negsuc m) x y d e = refl

module _ (n c : ℕ) (s : Store) (h : ℕ) (how : ℤ) (f : Bool) (ef : f ≡ live_in n s.words h) where
  abbrev out : Outcome
  out = run (view n c s) (Call.Shutdown h how)

  pub shutdown_stale : (l : Lists) (r : Answer) → not f ≡ true → r ≡ refused_with 1 → Done out n c s s l l r
  unfolding run
  shutdown_stale l r z er = refused_done _ 1 n c s l r (stale_run n c s h f _ ef z) (λ y. omega arith) er

  module _ (live' : not f ≡ false) (how' : ℤ) (eh : how' ≡ how) (x : Result ShutdownHow Errno) (ex : x ≡ how_of how') where
    lives : Live n c s h
    lives = live n c s h f ef live'

    asked : (y : Result ShutdownHow Errno) → x ≡ y → numbered (equals how 0) (equals how 1) (equals how 2) ≡ y
    unfolding numbered how_of
    asked y ey = ap how_of (sym eh) ∙ sym ex ∙ ey

    pub shutdown_refused : (l : Lists) (r : Answer) (y : Errno) → x ≡ Err y → r ≡ refused_with (number_of y) → Done out n c s s l l r
    unfolding run refuse_if shuts_read shuts_write
    shutdown_refused l r y ey er =
        let p = none_of (equals how 0) (equals how 1) (equals how 2) y (asked (Err y) ey) in
        refused_done _ 2 n c s l r (live_run n c s h _ lives ∙ rw p.0 refl) (λ z. omega arith) (er ∙ ap refused_with p.1)

    module _ (m : ShutdownHow) (em : x ≡ Ok m) where
      pub shutdown_shuts : (ends : Ends) → ends ≡ record { inbox = reads_of m; outbox = writes_of m } → (s' : Store) (l l' : Lists) (r : Answer) → Shuts n c s s' h ends.inbox ends.outbox l l' r
          → Done out n c s s' l l' r
      unfolding run refuse_if shuts_read shuts_write
      shutdown_shuts ends ee s' l l' r y =
          let p = one_of (equals how 0) (equals how 1) (equals how 2) m (λ e. (only how 0 1 (λ z. omega arith) e, only how 0 2 (λ z. omega arith) e)) (only how 1 2 (λ z. omega arith)) (asked (Ok m) em) in
          y.shuts (Call.Shutdown h how)
          (live_run n c s h _ lives ∙ rw (p.0, p.1, p.2, sym (ap (λ (x : Ends). x.inbox) ee), sym (ap (λ (x : Ends). x.outbox) ee)) refl)
