-- The excepted cells are open: a storage that differs from an accepted one at excepted cells alone is allowed too. With proofs/Unique.antt, `excepted` names
-- these cells and no others.
use Prim.Native.Nat.{ℕ, ◌+◌, ◌-◌, ◌*◌, ◌/◌, ◌%◌, ◌≤◌, ◌<◌}
use native.Mathlib.Nat.{mul-add-div, mul-add-mod_self_left, div-eq_of_lt, mod-eq_of_lt}
use native.Mathlib.Omega.{arith}
use mathlib.Core.Path.{◌≡◌, refl, sym, ap, ap₂, ◌∙◌, subst}
use mathlib.Core.Bool.{true, false}
use mathlib.Core.List.{List, map}
use lib.Dec.{leb, eqb}
use lib.ListN.{length, get_or, take, drop, length-drop}
use lib.Seq.{ext_get_or, get_or-drop}
use borrow.Author.Tests.{lt-ltb, le-ltb, lt-leb}
use Rattle.ring.specs.Ring.{place_of, queued}
use Rattle.ring.proofs.Queued.{queued-length, queued_at}
use Rattle.ring.proofs.Copying.{place_is}
use Rattle.rules.specs.Table as model
use Rattle.rules.specs.Table.{at, vacant, slot_of, handle}
use Rattle.rules.specs.Outcome.{Outcome}
use Rattle.rules.proofs.Formed.{Formed}
use Rattle.rules.proofs.YesNo.{at_every}
use Rattle.inbox.specs.View.{dist, count, bytes_of, items_in, distances, groups_of}
use Rattle.storage.specs.Layout.{part, cell_base, places_base, queue_base, ring_base, name_base, tokens_base, sizes_of}
use Rattle.storage.specs.Cells.{cell_at, state_of}
use Rattle.storage.specs.Rows.{Store, row_at, Roomy, Around}
use Rattle.storage.specs.View.{open', show_in, view}
use Rattle.storage.specs.declared.Cell.{Cell}
use Rattle.storage.specs.declared.State.{State}
use Rattle.storage.specs.declared.State.TheVariants.{Closed, Unbound, Bound, Listening, Connected}
use Rattle.storage.specs.declared.Listener.{Listener}
use Rattle.storage.specs.declared.Connection.{Connection}
use Rattle.storage.proofs.Pasted.{length_part, part_at, same_cell}
use Rattle.storage.proofs.Strides.{row_before}
use Rattle.storage.proofs.Viewed.{at_view, size_view}
use Rattle.storage.proofs.Around.{around_then, roomy_around}
use Rattle.table.specs.Formed.{fields_well, ranges_well, tied_state, tied, slot_formed, formed, ahead, queue_in}
use Rattle.table.proofs.Links.{Entry, Entries, entries_of, tied_up, place_ring, ahead_place}
use Rattle.table.proofs.OwnNumbers.{fields_closed}
use Rattle.promise.specs.Hidden.{hidden_in}
use Rattle.promise.specs.Promise.{Stored}
use Rattle.promise.proofs.Known.{Known, header_kept, listener_range, inbox-range}
use Rattle.cases.specs.Step.{Request, Result, outcome_of, Allowed}
use Rattle.cases.specs.Excepted.{Slice, loose_word, loose_entry, loose_byte, loose_item, row_state, excepted, SameBut}
use Rattle.cases.proofs.Unique.{entry_admits, after_known}
use Rattle.cases.proofs.UniqueCells.{by_tag, is_closed, is_unbound, is_bound, is_listening, is_connected}

-- ── Rows by index ──

row_back : (k i j x : ℕ) → x ≡ k * i + j → j < k → (x / k ≡ i) × (x % k ≡ j)
row_back k i j x e h =
    let pos : 0 < k = omega arith in
    let d : i + j / k ≡ i = let z = div-eq_of_lt h in omega arith in
    (ap (λ (y : ℕ). y / k) e ∙ mul-add-div pos i j ∙ d, ap (λ (y : ℕ). y % k) e ∙ mul-add-mod_self_left k i j ∙ mod-eq_of_lt h)

module _ (n c : ℕ) (s : Store) where
  in_header : (k : ℕ) → k < 8 → excepted n c s Slice.Words k ≡ false
  unfolding excepted
  in_header k h = rw (lt-ltb k 8 h)

  in_word : (i j k : ℕ) → i < n → j < 16 → k ≡ cell_base i + j → excepted n c s Slice.Words k ≡ loose_word (state_of (cell_at s.words i)) j
  unfolding excepted row_state
  in_word i j k hi hj e =
      let r = row_back 16 i j (k - 8) (omega arith) hj in
      rw (le-ltb k 8 (omega arith), lt-ltb k (8 + 16 * n) (omega arith), r.0, r.1)

  in_place : (i j k : ℕ) → i < n → j < 256 → k ≡ places_base n i + j → excepted n c s Slice.Words k ≡ loose_item (state_of (cell_at s.words i)) j
  unfolding excepted row_state
  in_place i j k hi hj e =
      let r = row_back 256 i j (k - (8 + 16 * n)) (omega arith) hj in
      rw (le-ltb k 8 (omega arith), le-ltb k (8 + 16 * n) (omega arith), lt-ltb k (8 + 272 * n) (omega arith), r.0, r.1)

  in_entry : (i j k : ℕ) → i < n → j < n → k ≡ queue_base n i + j → excepted n c s Slice.Words k ≡ loose_entry n (state_of (cell_at s.words i)) j
  unfolding excepted row_state
  in_entry i j k hi hj e =
      let z = row_before n i n hi in
      let r = row_back n i j (k - (8 + 272 * n)) (omega arith) hj in
      rw (le-ltb k 8 (omega arith), le-ltb k (8 + 16 * n) (omega arith), le-ltb k (8 + 272 * n) (omega arith), lt-ltb k (sizes_of n c).words (omega arith), r.0, r.1)

  past_words : (k : ℕ) → (sizes_of n c).words ≤ k → excepted n c s Slice.Words k ≡ false
  unfolding excepted
  past_words k h = rw (le-ltb k 8 (omega arith), le-ltb k (8 + 16 * n) (omega arith), le-ltb k (8 + 272 * n) (omega arith), le-ltb k (sizes_of n c).words h)

  in_byte : (i j k : ℕ) → i < n → j < c → k ≡ ring_base c i + j → excepted n c s Slice.Bytes k ≡ loose_byte c (state_of (cell_at s.words i)) j
  unfolding excepted row_state
  in_byte i j k hi hj e =
      let z = row_before c i n hi in
      let r = row_back c i j k e hj in
      rw (lt-ltb k (c * n) (omega arith), r.0, r.1)

  past_rings : (k : ℕ) → c * n ≤ k → excepted n c s Slice.Bytes k ≡ false
  unfolding excepted
  past_rings k h = rw (le-ltb k (c * n) h)

  in_token : (i j k : ℕ) → i < n → j < 256 → k ≡ tokens_base i + j → excepted n c s Slice.Tokens k ≡ loose_item (state_of (cell_at s.words i)) j
  unfolding excepted row_state
  in_token i j k hi hj e =
      let r = row_back 256 i j k e hj in
      rw (lt-ltb k (sizes_of n c).tokens (omega arith), r.0, r.1)

  past_tokens : (k : ℕ) → (sizes_of n c).tokens ≤ k → excepted n c s Slice.Tokens k ≡ false
  unfolding excepted
  past_tokens k h = rw (le-ltb k (sizes_of n c).tokens h)

-- ── Rings that are the same where something is queued ──

ring_back : (r r' : List ℕ) (c h m : ℕ) → length r ≡ c → length r' ≡ c → h < c → m ≤ c → ((j : ℕ) → j < c → ahead c h j < m → get_or r j 0 ≡ get_or r' j 0) → queued r h m ≡ queued r' h m
ring_back r r' c h m l l' hh hm e =
    let q = queued-length r h (omega arith) m (omega arith) in
    let q' = queued-length r' h (omega arith) m (omega arith) in
    ext_get_or 0 (queued r h m) (queued r' h m) (q ∙ sym q')
    (λ i hi.
    let him : i < m = omega arith in
    let p : ℕ = place_of c (h + i) in
    let hp : p < c = place_ring c h i hh (omega arith) in
    let back : ahead c h p ≡ i = ahead_place c h i hh (omega arith) in
    queued_at r h (omega arith) m i p him (omega arith) (place_is (length r) (h + i) p (ap (λ (x : ℕ). place_of x (h + i)) (sym l)))
    ∙ e p hp (omega arith)
    ∙ sym (queued_at r' h (omega arith) m i p him (omega arith) (place_is (length r') (h + i) p (ap (λ (x : ℕ). place_of x (h + i)) (sym l')))))

part_same : (l l' : List ℕ) (b k : ℕ) → b + k ≤ length l → b + k ≤ length l' → ((j : ℕ) → j < k → get_or l (b + j) 0 ≡ get_or l' (b + j) 0) → part b k l ≡ part b k l'
part_same l l' b k h h' e =
    ext_get_or 0 (part b k l) (part b k l') (length_part b k l h ∙ sym (length_part b k l' h'))
    (λ j hj. let z = length_part b k l h in part_at b k l j (omega arith) ∙ e j (omega arith) ∙ sym (part_at b k l' j (omega arith)))

drop-same : (l l' : List ℕ) (b : ℕ) → length l ≡ length l' → ((k : ℕ) → b ≤ k → get_or l k 0 ≡ get_or l' k 0) → drop b l ≡ drop b l'
drop-same l l' b h e =
    ext_get_or 0 (drop b l) (drop b l') (length-drop b l ∙ ap (λ (x : ℕ). x - b) h ∙ sym (length-drop b l'))
    (λ j hj. get_or-drop b l j 0 ∙ e (b + j) (omega arith) ∙ sym (get_or-drop b l' j 0))

-- ── A storage that differs at excepted cells alone ──

module _ (n c : ℕ) (s s' : Store) (k : Known n c s) (b : SameBut n c s s') where
  abbrev old : ℕ → Cell
  old i = cell_at s.words i

  abbrev new : ℕ → Cell
  new i = cell_at s'.words i

  around : Around n c s s'
  around =
      record {
        words_long = sym b.words_long;
        bytes_long = sym b.bytes_long;
        tokens_long = sym b.tokens_long;
        header =
            let z = k.roomy.words in
            let y = b.words_long in
            part_same s'.words s.words 0 8 (omega arith) (omega arith) (λ j h. sym (b.words (0 + j) (in_header n c s (0 + j) (omega arith))));
        beyond_words = drop-same s'.words s.words (sizes_of n c).words (sym b.words_long) (λ x h. sym (b.words x (past_words n c s x h)));
        beyond_bytes = drop-same s'.bytes s.bytes (sizes_of n c).bytes (sym b.bytes_long) (λ x h. sym (b.bytes x (past_rings n c s x (omega arith))));
        beyond_tokens = drop-same s'.tokens s.tokens (sizes_of n c).tokens (sym b.tokens_long) (λ x h. sym (b.tokens x (past_tokens n c s x h)));
      }

  roomy : Roomy n c s'
  roomy = roomy_around around k.roomy

  -- ── Its cells ──

  word_same : (i j : ℕ) → i < n → j < 16 → loose_word (state_of (old i)) j ≡ false → get_or s'.words (cell_base i + j) 0 ≡ get_or s.words (cell_base i + j) 0
  word_same i j hi hj e = sym (b.words (cell_base i + j) (in_word n c s i j (cell_base i + j) hi hj refl ∙ e))

  -- closed in both, or the same
  record Kept (i : ℕ) : Type 0 where
    generation : (new i).generation ≡ (old i).generation
    state : state_of (new i) ≡ state_of (old i)
    fields : fields_well (new i) ≡ true

  closed_kept : (i : ℕ) → i < n → (old i).tag ≡ 0 → Kept i
  unfolding cell_at loose_word
  closed_kept i h e =
      let loose : (j : ℕ) → loose_word (state_of (old i)) j ≡ leb 2 j = λ j. ap (λ (σ : State). loose_word σ j) (is_closed (old i) e) in
      let g : (new i).generation ≡ (old i).generation = word_same i 0 h (omega arith) (loose 0 ∙ lt-leb 2 0 (omega arith)) in
      let t : (new i).tag ≡ (old i).tag = word_same i 1 h (omega arith) (loose 1 ∙ lt-leb 2 1 (omega arith)) in
      record { generation = g; state = is_closed (new i) (t ∙ e) ∙ sym (is_closed (old i) e); fields = sym (fields_closed (new i) (t ∙ e)) }

  open_kept : (i : ℕ) → i < n → ((j : ℕ) → loose_word (state_of (old i)) j ≡ false) → Kept i
  open_kept i h f =
      let e : new i ≡ old i = same_cell s'.words s.words i (λ j hj. word_same i j h hj (f j)) in
      record { generation = ap (λ (x : Cell). x.generation) e; state = ap state_of e; fields = ap fields_well e ∙ k.fields i h }

  kept : (i : ℕ) → i < n → Kept i
  unfolding loose_word
  kept i h =
      by_tag (old i) (k.fields i h) (closed_kept i h)
      (λ e. open_kept i h (λ j. ap (λ (σ : State). loose_word σ j) (is_unbound (old i) e)))
      (λ e. open_kept i h (λ j. ap (λ (σ : State). loose_word σ j) (is_bound (old i) e)))
      (λ e. open_kept i h (λ j. ap (λ (σ : State). loose_word σ j) (is_listening (old i) e)))
      (λ e. open_kept i h (λ j. ap (λ (σ : State). loose_word σ j) (is_connected (old i) e)))

  -- ── Its rooms and rings ──

  room_same : (i : ℕ) → i < n → (row_at n c s' i).room ≡ (row_at n c s i).room
  unfolding row_at
  room_same i h =
      let z = k.roomy.bytes in
      let y = b.bytes_long in
      part_same s'.bytes s.bytes (name_base n c i) 255 (omega arith) (omega arith) (λ j hj. sym (b.bytes (name_base n c i + j) (past_rings n c s (name_base n c i + j) (omega arith))))

  entry_same : (i j : ℕ) (q : Listener) → i < n → j < n → state_of (old i) ≡ Listening q → ahead n q.head j < q.pending → get_or (queue_in n s'.words i) j 0 ≡ get_or (queue_in n s.words i) j 0
  unfolding loose_entry
  entry_same i j q h hj e ha =
      part_at (queue_base n i) n s'.words j hj
      ∙ sym (b.words (queue_base n i + j) (in_entry n c s i j (queue_base n i + j) h hj refl ∙ ap (λ (σ : State). loose_entry n σ j) e ∙ lt-leb _ _ ha))
      ∙ sym (part_at (queue_base n i) n s.words j hj)

  queue_same : (i : ℕ) (q : Listener) → i < n → state_of (old i) ≡ Listening q → queued (queue_in n s'.words i) q.head q.pending ≡ queued (queue_in n s.words i) q.head q.pending
  queue_same i q h e =
      let r = listener_range n c q (subst (λ (σ : State). ranges_well n c σ ≡ true) e (k.ranges i h)) in
      let z = k.roomy.words in
      let y = b.words_long in
      let x = row_before n i n h in
      ring_back (queue_in n s'.words i) (queue_in n s.words i) n q.head q.pending (length_part (queue_base n i) n s'.words (omega arith))
      (length_part (queue_base n i) n s.words (omega arith)) r.2 r.3 (λ j hj ha. entry_same i j q h hj e ha)

  module _ (i : ℕ) (q : Connection) (h : i < n) (e : state_of (old i) ≡ Connected q) where
    r : (q.inbox.head < c) × (count q.inbox ≤ c) × (q.inbox.first < 256) × (q.inbox.items ≤ 256)
    r = inbox-range n c q (subst (λ (σ : State). ranges_well n c σ ≡ true) e (k.ranges i h))

    bytes_same : bytes_of (row_at n c s' i).ring q.inbox ≡ bytes_of (row_at n c s i).ring q.inbox
    unfolding bytes_of row_at loose_byte
    bytes_same =
        let z = k.roomy.bytes in
        let y = b.bytes_long in
        let x = row_before c i n h in
        ring_back (part (ring_base c i) c s'.bytes) (part (ring_base c i) c s.bytes) c q.inbox.head (count q.inbox) (length_part (ring_base c i) c s'.bytes (omega arith))
        (length_part (ring_base c i) c s.bytes (omega arith)) r.0 r.1
        (λ j hj ha.
        part_at (ring_base c i) c s'.bytes j hj
        ∙ sym (b.bytes (ring_base c i + j) (in_byte n c s i j (ring_base c i + j) h hj refl ∙ ap (λ (σ : State). loose_byte c σ j) e ∙ lt-leb _ _ ha))
        ∙ sym (part_at (ring_base c i) c s.bytes j hj))

    tokens_same : items_in (row_at n c s' i).tokens q.inbox ≡ items_in (row_at n c s i).tokens q.inbox
    unfolding items_in row_at loose_item
    tokens_same =
        let z = k.roomy.tokens in
        let y = b.tokens_long in
        ring_back (part (tokens_base i) 256 s'.tokens) (part (tokens_base i) 256 s.tokens) 256 q.inbox.first q.inbox.items (length_part (tokens_base i) 256 s'.tokens (omega arith))
        (length_part (tokens_base i) 256 s.tokens (omega arith)) r.2 r.3
        (λ j hj ha.
        part_at (tokens_base i) 256 s'.tokens j hj
        ∙ sym (b.tokens (tokens_base i + j) (in_token n c s i j (tokens_base i + j) h hj refl ∙ ap (λ (σ : State). loose_item σ j) e ∙ lt-leb _ _ ha))
        ∙ sym (part_at (tokens_base i) 256 s.tokens j hj))

    places_same : distances q.inbox (row_at n c s' i).places ≡ distances q.inbox (row_at n c s i).places
    unfolding distances row_at loose_item
    places_same =
        let z = k.roomy.words in
        let y = b.words_long in
        ap (map (λ p. dist p q.inbox.read_total))
        (ring_back (part (places_base n i) 256 s'.words) (part (places_base n i) 256 s.words) 256 q.inbox.first q.inbox.items (length_part (places_base n i) 256 s'.words (omega arith))
        (length_part (places_base n i) 256 s.words (omega arith)) r.2 r.3
        (λ j hj ha.
        part_at (places_base n i) 256 s'.words j hj
        ∙ sym (b.words (places_base n i + j) (in_place n c s i j (places_base n i + j) h hj refl ∙ ap (λ (σ : State). loose_item σ j) e ∙ lt-leb _ _ ha))
        ∙ sym (part_at (places_base n i) 256 s.words j hj)))

  -- ── What it shows ──

  slot_same : (i : ℕ) (g : ℕ) (σ : State) → i < n → state_of (old i) ≡ σ → show_in (row_at n c s' i) g σ ≡ show_in (row_at n c s i) g σ
  unfolding show_in row_at
  slot_same i g Closed h e = refl
  slot_same i g Unbound h e = refl
  slot_same i g (Bound m) h e = ap (λ (x : List ℕ). open' g (model.State.Bound (take m x))) (room_same i h)
  slot_same i g (Listening q) h e =
      ap₂ (λ (x y : List ℕ). open' g (model.State.Listening (take q.name x) q.backlog y)) (room_same i h) (queue_same i q h e)
  slot_same i g (Connected q) h e =
      ap (λ (x : model.Inbox). the g q x) (ap₂ (λ (x : List ℕ) (y : List model.Group). inbox x y) (bytes_same i q h e) (ap₂ groups_of (places_same i q h e) (tokens_same i q h e)))
    where
      inbox : List ℕ → List model.Group → model.Inbox
      inbox x y = record { bytes = x; groups = y }

      the : ℕ → Connection → model.Inbox → model.Slot
      the g q x = record { gen = g; in_use = true; given = eqb q.waits 0; state = model.State.Connected q.peer.0 x q.inbox_closed q.outbox_closed }

  slots_same : (i : ℕ) → i < n → at (view n c s') i ≡ at (view n c s) i
  unfolding row_at
  slots_same i h =
      let t = kept i h in
      at_view n c s' i h
      ∙ ap₂ (show_in (row_at n c s' i)) t.generation t.state
      ∙ slot_same i (old i).generation (state_of (old i)) h refl
      ∙ sym (at_view n c s i h)

  shows : view n c s' ≡ view n c s
  unfolding view
  shows =
      let l = size_view n c s in
      let l' = size_view n c s' in
      ap (λ (x : List model.Slot). table_of x) (ext_get_or vacant (view n c s').slots (view n c s).slots (l' ∙ sym l) (λ i h. slots_same i (omega arith)))
    where
      table_of : List model.Slot → model.Table
      table_of x = record { capacity = c; slots = x }

  -- ── It is well-formed ──

  entries : (l : ℕ) → l < n → (q : Listener) → state_of (new l) ≡ Listening q → (q.head < n) × (q.pending ≤ n) × Entries n s'.words l q
  unfolding tied
  entries l hl q e =
      let e₀ : state_of (old l) ≡ Listening q = sym (kept l hl).state ∙ e in
      let r = listener_range n c q (subst (λ (σ : State). ranges_well n c σ ≡ true) e₀ (k.ranges l hl)) in
      let before : Entries n s.words l q = entries_of n s.words l q (subst (λ (σ : State). tied_state n s.words l σ ≡ true) e₀ (k.ties l hl)) in (
        r.2,
        r.3,
        record {
          each = λ j hj.
              let z = r.3 in
              let p : ℕ = place_of n (q.head + j) in
              let hp : p < n = place_ring n q.head j r.2 (omega arith) in
              let ha : ahead n q.head p ≡ j = ahead_place n q.head j r.2 (omega arith) in
              moved l p (get_or (queue_in n s.words l) p 0) (get_or (queue_in n s'.words l) p 0) (entry_same l p q hl hp e₀ (omega arith)) (before.each j hj);
        },
      )
    where
      moved : (l p x x' : ℕ) → x' ≡ x → Entry n s.words l p x → Entry n s'.words l p x'
      moved l p x x' ex en =
          let t = kept (slot_of x) en.within in
          subst (λ (y : ℕ). Entry n s'.words l p y) (sym ex)
          (record {
            within = en.within;
            whole = ap (λ (g : ℕ). handle g (slot_of x)) t.generation ∙ en.whole;
            server = en.server;
            is_server = t.state ∙ en.is_server;
            waits_there = en.waits_there;
            stands_there = en.stands_there;
          })

  well : formed n c s' ≡ true
  unfolding formed slot_formed
  well =
      let good : Formed (view n c s') = subst Formed (sym shows) k.good in
      rw (
        header_kept n c s.words s'.words around.header k.header,
        at_every n (slot_formed n c s'.words) (λ i h. rw ((kept i h).fields, ap (ranges_well n c) (kept i h).state ∙ k.ranges i h, tied_up n c s' roomy good entries i h)),
        shows,
      ) k.well

  -- ── So it is stored as promised ──

  pub stored_too : (s₀ : Store) (o : Outcome) → Stored n c s₀ s o → Stored n c s₀ s' o
  stored_too s₀ o t =
      record {
        shows = shows ∙ t.shows;
        well = well;
        numbers = λ i h. ap hidden_in (kept i h).state ∙ t.numbers i h;
        rooms = λ i h. room_same i h ∙ t.rooms i h;
        around = around_then t.around around;
      }

-- ── The theorem ──

abbrev pub with_store : Result → Store → Result
with_store r s = record { store = s; lists = r.lists; buf = r.buf; items = r.items; answer = r.answer }

pub exact : (s : Store) (q : Request) (r : Result) (s' : Store) → Allowed s q r → r.answer.refusal ≡ 0 → SameBut q.n q.c r.store s' → Allowed s q (with_store r s')
exact s q r s' x z b =
    let p = x.promise in
    let no : (outcome_of s q).no ≡ 0 = sym p.refusal_is ∙ z in
    let t = p.accepted no in
    record {
      promise =
          record {
            refusal_is = p.refusal_is;
            value_is = p.value_is;
            flags_are = p.flags_are;
            item_count = p.item_count;
            wake_count = p.wake_count;
            release_count = p.release_count;
            wake_list = p.wake_list;
            release_list = p.release_list;
            accepted = λ _. stored_too q.n q.c r.store s' (after_known (entry_admits s q no) t) b s (outcome_of s q) t;
            refused = λ ne. absurd (ne no);
          };
      fills = x.fills;
    }
