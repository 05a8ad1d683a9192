-- Two storages that show the same table, with the same hidden numbers, rooms and surroundings, hold the same at every index that is not excepted.
use Prim.Native.Nat.{ℕ, zero, suc, ◌+◌, ◌-◌, ◌*◌, ◌/◌, ◌%◌, ◌≤◌, ◌<◌}
use native.Mathlib.Nat.{not-suc-le-zero}
use native.Mathlib.Omega.{arith}
use mathlib.Core.Path.{◌≡◌, sym, ap, ap₂, ◌∙◌}
use mathlib.Core.Logic.{◌⊎◌, inl, inr}
use mathlib.Core.Bool.{Bool, true, false, cond, true≢false, false≢true}
use mathlib.Core.List.{List, map}
use lib.Dec.{ltb}
use lib.ListN.{length, get_or, take, drop, get_or-map}
use lib.Seq.{get_or-take, get_or-drop}
use borrow.Author.Tests.{lt-ltb, le-ltb, leb-false}
use Rattle.laws.proofs.Tests.{less_or}
use Rattle.ring.specs.Ring.{queued}
use Rattle.inbox.specs.View.{dist, count, bytes_of, items_in, distances}
use Rattle.storage.specs.Layout.{cell_base, places_base, queue_base, ring_base, name_base, tokens_base, sizes_of}
use Rattle.storage.specs.Cells.{cell_at, connection_of, state_of}
use Rattle.storage.specs.Rows.{Store, row_at, Roomy, Around}
use Rattle.storage.specs.declared.Cell.{Cell}
use Rattle.storage.specs.declared.State.{State}
use Rattle.storage.proofs.Pasted.{length_part, part_at}
use Rattle.storage.proofs.Strides.{row_before}
use Rattle.table.specs.Formed.{fields_well, ahead, queue_in}
use Rattle.table.proofs.Links.{queue_long}
use Rattle.cases.specs.Excepted.{Slice, loose_word, loose_entry, loose_byte, loose_item, row_state, excepted, SameBut}
use Rattle.cases.proofs.UniqueRings.{ring_at, ring_same, dist_once, row_of}
use Rattle.cases.proofs.UniqueCells.{by_tag, is_closed, is_unbound, is_bound, is_listening, is_connected, Same, Alike, cells, same_generation, same_tag, same_line, same_head, same_pending, l₁, in₁, in₂, same_byte, same_first, same_read, same_count, same_items, same_bytes, same_tokens, same_distances, places_long, tokens_long}

-- ── Tests ──

pick_true : (b x y z : Bool) → b ≡ true → cond b x y ≡ z → x ≡ z
pick_true true x y z e h = h
pick_true false x y z e h = absurd (false≢true e)

pick_false : (b x y z : Bool) → b ≡ false → cond b x y ≡ z → y ≡ z
pick_false true x y z e h = absurd (true≢false e)
pick_false false x y z e h = h

-- ── What is not excepted ──

-- of a closed slot, generation and state
loose_closed : (k : Cell) (j : ℕ) → k.tag ≡ 0 → loose_word (state_of k) j ≡ false → j < 2
unfolding loose_word
loose_closed k j e h = leb-false 2 j (sym (ap (λ (σ : State). loose_word σ j) (is_closed k e)) ∙ h)

module _ (k : Cell) (f : fields_well k ≡ true) (j : ℕ) where
  entry_kept : (n : ℕ) → loose_entry n (state_of k) j ≡ false → (k.tag ≡ 3) × (ahead n k.head j < k.pending)
  unfolding loose_entry
  entry_kept n h =
      by_tag k f
      (λ e. absurd (true≢false (sym (ap (λ (σ : State). loose_entry n σ j) (is_closed k e)) ∙ h)))
      (λ e. absurd (true≢false (sym (ap (λ (σ : State). loose_entry n σ j) (is_unbound k e)) ∙ h)))
      (λ e. absurd (true≢false (sym (ap (λ (σ : State). loose_entry n σ j) (is_bound k e)) ∙ h)))
      (λ e. (e, leb-false _ _ (sym (ap (λ (σ : State). loose_entry n σ j) (is_listening k e)) ∙ h)))
      (λ e. absurd (true≢false (sym (ap (λ (σ : State). loose_entry n σ j) (is_connected k e)) ∙ h)))

  byte_kept : (c : ℕ) → loose_byte c (state_of k) j ≡ false → (k.tag ≡ 4) × (ahead c k.byte j < count (connection_of k).inbox)
  unfolding loose_byte
  byte_kept c h =
      by_tag k f
      (λ e. absurd (true≢false (sym (ap (λ (σ : State). loose_byte c σ j) (is_closed k e)) ∙ h)))
      (λ e. absurd (true≢false (sym (ap (λ (σ : State). loose_byte c σ j) (is_unbound k e)) ∙ h)))
      (λ e. absurd (true≢false (sym (ap (λ (σ : State). loose_byte c σ j) (is_bound k e)) ∙ h)))
      (λ e. absurd (true≢false (sym (ap (λ (σ : State). loose_byte c σ j) (is_listening k e)) ∙ h)))
      (λ e. (e, leb-false _ _ (sym (ap (λ (σ : State). loose_byte c σ j) (is_connected k e)) ∙ h)))

  item_kept : loose_item (state_of k) j ≡ false → (k.tag ≡ 4) × (ahead 256 k.first j < k.items)
  unfolding loose_item
  item_kept h =
      by_tag k f
      (λ e. absurd (true≢false (sym (ap (λ (σ : State). loose_item σ j) (is_closed k e)) ∙ h)))
      (λ e. absurd (true≢false (sym (ap (λ (σ : State). loose_item σ j) (is_unbound k e)) ∙ h)))
      (λ e. absurd (true≢false (sym (ap (λ (σ : State). loose_item σ j) (is_bound k e)) ∙ h)))
      (λ e. absurd (true≢false (sym (ap (λ (σ : State). loose_item σ j) (is_listening k e)) ∙ h)))
      (λ e. (e, leb-false _ _ (sym (ap (λ (σ : State). loose_item σ j) (is_connected k e)) ∙ h)))

-- ── A slot's words ──

module _ (w w' : List ℕ) (i : ℕ) where
  pub same_word : (j : ℕ) → j < 16 → Same (cell_at w i) (cell_at w' i) → get_or w (cell_base i + j) 0 ≡ get_or w' (cell_base i + j) 0
  unfolding cell_at
  same_word zero h e = e.generation
  same_word (suc zero) h e = e.tag
  same_word (suc (suc zero)) h e = e.name
  same_word (suc (suc (suc zero))) h e = e.backlog
  same_word (suc (suc (suc (suc zero)))) h e = e.head
  same_word (suc (suc (suc (suc (suc zero))))) h e = e.pending
  same_word (suc (suc (suc (suc (suc (suc zero)))))) h e = e.peer
  same_word (suc (suc (suc (suc (suc (suc (suc zero))))))) h e = e.inbox_closed
  same_word (suc (suc (suc (suc (suc (suc (suc (suc zero)))))))) h e = e.outbox_closed
  same_word (suc (suc (suc (suc (suc (suc (suc (suc (suc zero))))))))) h e = e.byte
  same_word (suc (suc (suc (suc (suc (suc (suc (suc (suc (suc zero)))))))))) h e = e.written_total
  same_word (suc (suc (suc (suc (suc (suc (suc (suc (suc (suc (suc zero))))))))))) h e = e.read_total
  same_word (suc (suc (suc (suc (suc (suc (suc (suc (suc (suc (suc (suc zero)))))))))))) h e = e.first
  same_word (suc (suc (suc (suc (suc (suc (suc (suc (suc (suc (suc (suc (suc zero))))))))))))) h e = e.items
  same_word (suc (suc (suc (suc (suc (suc (suc (suc (suc (suc (suc (suc (suc (suc zero)))))))))))))) h e = e.waits
  same_word (suc (suc (suc (suc (suc (suc (suc (suc (suc (suc (suc (suc (suc (suc (suc zero))))))))))))))) h e = e.place
  same_word (suc (suc (suc (suc (suc (suc (suc (suc (suc (suc (suc (suc (suc (suc (suc (suc j)))))))))))))))) h e = let z : 1 ≤ 0 = omega arith in absurd (not-suc-le-zero z)

  same_first_two : (j : ℕ) → j < 2 → (cell_at w i).generation ≡ (cell_at w' i).generation → (cell_at w i).tag ≡ (cell_at w' i).tag → get_or w (cell_base i + j) 0 ≡ get_or w' (cell_base i + j) 0
  unfolding cell_at
  same_first_two zero h g t = g
  same_first_two (suc zero) h g t = t
  same_first_two (suc (suc j)) h g t = let z : 1 ≤ 0 = omega arith in absurd (not-suc-le-zero z)

-- ── Lists whose ends are the same ──

front_same : (l l' : List ℕ) (n k : ℕ) → take n l' ≡ take n l → k < n → get_or l k 0 ≡ get_or l' k 0
front_same l l' n k e h = sym (get_or-take n l k 0 h) ∙ ap (λ (x : List ℕ). get_or x k 0) (sym e) ∙ get_or-take n l' k 0 h

back_same : (l l' : List ℕ) (n k : ℕ) → drop n l' ≡ drop n l → n ≤ k → get_or l k 0 ≡ get_or l' k 0
back_same l l' n k e h =
    let z : n + (k - n) ≡ k = omega arith in
    ap (λ (x : ℕ). get_or l x 0) (sym z) ∙ sym (get_or-drop n l (k - n) 0) ∙ ap (λ (x : List ℕ). get_or x (k - n) 0) (sym e) ∙ get_or-drop n l' (k - n) 0 ∙ ap (λ (x : ℕ). get_or l' x 0) z

-- ── Two storages ──

module _ (n c : ℕ) (s s' : Store) (a : Alike n c s s') (rooms : (i : ℕ) → i < n → (row_at n c s i).room ≡ (row_at n c s' i).room) (ar : Around n c s s') where
  -- the words of slot i
  word_at : (i j : ℕ) → i < n → j < 16 → loose_word (state_of (cell_at s.words i)) j ≡ false → get_or s.words (cell_base i + j) 0 ≡ get_or s'.words (cell_base i + j) 0
  word_at i j h hj e = go (cells n c s s' a i h)
    where
      go : ((cell_at s.words i).tag ≡ 0) ⊎ Same (cell_at s.words i) (cell_at s'.words i) → get_or s.words (cell_base i + j) 0 ≡ get_or s'.words (cell_base i + j) 0
      go (inl z) = same_first_two s.words s'.words i j (loose_closed (cell_at s.words i) j z e) (same_generation n c s s' a i h) (same_tag n c s s' a i h)
      go (inr m) = same_word s.words s'.words i j hj m

  -- an entry of its queue
  entry_at : (i j : ℕ) → i < n → j < n → loose_entry n (state_of (cell_at s.words i)) j ≡ false → get_or s.words (queue_base n i + j) 0 ≡ get_or s'.words (queue_base n i + j) 0
  entry_at i j h hj e =
      let p = entry_kept (cell_at s.words i) (a.left.fields i h) j n e in
      let m = cell_at s.words i in
      let u = l₁ n c s s' a i h p.0 in
      let same : queued (queue_in n s.words i) m.head m.pending ≡ queued (queue_in n s'.words i) m.head m.pending =
      same_line n c s s' a i h p.0
      ∙ ap₂ (queued (queue_in n s'.words i)) (sym (same_head n c s s' a i h p.0)) (sym (same_pending n c s s' a i h p.0)) in
      sym (part_at (queue_base n i) n s.words j hj)
      ∙ ring_same (queue_in n s.words i) (queue_in n s'.words i) n m.head m.pending j (queue_long n c s a.left.roomy i h)
      (queue_long n c s' a.right.roomy i h) u.2 u.3 hj p.1 same
      ∙ part_at (queue_base n i) n s'.words j hj

  -- a byte of its inbox
  ring_long : (x : Store) → Roomy n c x → (i : ℕ) → i < n → length (row_at n c x i).ring ≡ c
  unfolding row_at
  ring_long x f i h = let z = f.bytes in let y = row_before c i n h in length_part (ring_base c i) c x.bytes (omega arith)

  byte_at : (i j : ℕ) → i < n → j < c → loose_byte c (state_of (cell_at s.words i)) j ≡ false → get_or s.bytes (ring_base c i + j) 0 ≡ get_or s'.bytes (ring_base c i + j) 0
  unfolding row_at bytes_of
  byte_at i j h hj e =
      let p = byte_kept (cell_at s.words i) (a.left.fields i h) j c e in
      let q = (connection_of (cell_at s.words i)).inbox in
      let u = in₁ n c s s' a i h p.0 in
      let same : queued (row_at n c s i).ring q.head (count q) ≡ queued (row_at n c s' i).ring q.head (count q) =
      same_bytes n c s s' a i h p.0
      ∙ ap₂ (queued (row_at n c s' i).ring) (sym (same_byte n c s s' a i h p.0)) (sym (same_count n c s s' a i h p.0)) in
      sym (part_at (ring_base c i) c s.bytes j hj)
      ∙ ring_same (row_at n c s i).ring (row_at n c s' i).ring c q.head (count q) j (ring_long s a.left.roomy i h) (ring_long s' a.right.roomy i h) u.0 u.1 hj p.1 same
      ∙ part_at (ring_base c i) c s'.bytes j hj

  -- an item, and its offset
  token_at : (i j : ℕ) → i < n → j < 256 → loose_item (state_of (cell_at s.words i)) j ≡ false → get_or s.tokens (tokens_base i + j) 0 ≡ get_or s'.tokens (tokens_base i + j) 0
  unfolding row_at items_in
  token_at i j h hj e =
      let p = item_kept (cell_at s.words i) (a.left.fields i h) j e in
      let q = (connection_of (cell_at s.words i)).inbox in
      let q' = (connection_of (cell_at s'.words i)).inbox in
      let u = in₁ n c s s' a i h p.0 in
      let v = in₂ n c s s' a i h p.0 in
      let same : queued (row_at n c s i).tokens q.first q.items ≡ queued (row_at n c s' i).tokens q.first q.items =
      same_tokens n c s s' a i h p.0
      ∙ ap₂ (queued (row_at n c s' i).tokens) (sym (same_first n c s s' a i h p.0)) (sym (same_items n c s s' a i h p.0)) in
      sym (part_at (tokens_base i) 256 s.tokens j hj)
      ∙ ring_same (row_at n c s i).tokens (row_at n c s' i).tokens 256 q.first q.items j (tokens_long n c s s' a i h p.0 s a.left.roomy q u.2 u.3)
      (tokens_long n c s s' a i h p.0 s' a.right.roomy q' v.2 v.3) u.2 u.3 hj p.1 same
      ∙ part_at (tokens_base i) 256 s'.tokens j hj

  place_at : (i j : ℕ) → i < n → j < 256 → loose_item (state_of (cell_at s.words i)) j ≡ false → get_or s.words (places_base n i + j) 0 ≡ get_or s'.words (places_base n i + j) 0
  unfolding row_at distances
  place_at i j h hj e =
      let p = item_kept (cell_at s.words i) (a.left.fields i h) j e in
      let q = (connection_of (cell_at s.words i)).inbox in
      let q' = (connection_of (cell_at s'.words i)).inbox in
      let u = in₁ n c s s' a i h p.0 in
      let v = in₂ n c s s' a i h p.0 in
      let b : ℕ = ahead 256 q.first j in
      let r : ℕ = q.read_total in
      let o : List ℕ = queued (row_at n c s i).places q.first q.items in
      let o' : List ℕ = queued (row_at n c s' i).places q.first q.items in
      let turn : map (λ x. dist x q'.read_total) (queued (row_at n c s' i).places q'.first q'.items) ≡ map (λ x. dist x r) o' =
      ap (λ (y : ℕ). map (λ x. dist x y) (queued (row_at n c s' i).places q'.first q'.items)) (sym (same_read n c s s' a i h p.0))
      ∙ ap₂ (λ (y z : ℕ). map (λ x. dist x r) (queued (row_at n c s' i).places y z)) (sym (same_first n c s s' a i h p.0)) (sym (same_items n c s s' a i h p.0)) in
      let far : dist (get_or o b 0) r ≡ dist (get_or o' b 0) r =
      sym (get_or-map (λ x. dist x r) o b 0) ∙ ap (λ (l : List ℕ). get_or l b (dist 0 r)) (same_distances n c s s' a i h p.0 ∙ turn) ∙ get_or-map (λ x. dist x r) o' b 0 in
      let here : get_or o b 0 ≡ get_or s.words (places_base n i + j) 0 =
      ring_at (row_at n c s i).places 256 q.first q.items j (places_long n c s s' a i h p.0 s a.left.roomy q u.2 u.3) u.2 u.3 hj p.1 ∙ part_at (places_base n i) 256 s.words j hj in
      let here' : get_or o' b 0 ≡ get_or s'.words (places_base n i + j) 0 =
      ring_at (row_at n c s' i).places 256 q.first q.items j (places_long n c s s' a i h p.0 s' a.right.roomy q' v.2 v.3) u.2 u.3 hj p.1 ∙ part_at (places_base n i) 256 s'.words j hj in
      dist_once _ _ r (a.low (places_base n i + j)) (a.low' (places_base n i + j)) (ap (λ (x : ℕ). dist x r) (sym here) ∙ far ∙ ap (λ (x : ℕ). dist x r) here')

  -- a byte of its name's room
  room_at : (i j : ℕ) → i < n → j < 255 → get_or s.bytes (name_base n c i + j) 0 ≡ get_or s'.bytes (name_base n c i + j) 0
  unfolding row_at
  room_at i j h hj = sym (part_at (name_base n c i) 255 s.bytes j hj) ∙ ap (λ (l : List ℕ). get_or l j 0) (rooms i h) ∙ part_at (name_base n c i) 255 s'.bytes j hj

  -- ── By index ──

  -- an index is that of its row and place
  at_index : (l l' : List ℕ) (k m : ℕ) → k ≡ m → get_or l m 0 ≡ get_or l' m 0 → get_or l k 0 ≡ get_or l' k 0
  at_index l l' k m e h = ap (λ (x : ℕ). get_or l x 0) e ∙ h ∙ ap (λ (x : ℕ). get_or l' x 0) (sym e)

  same_in_words : (k : ℕ) → excepted n c s Slice.Words k ≡ false → get_or s.words k 0 ≡ get_or s'.words k 0
  unfolding excepted row_state
  same_in_words k e = in_header (less_or k 8)
    where
      beyond : (k < (sizes_of n c).words) ⊎ ((sizes_of n c).words ≤ k) → 8 + 272 * n ≤ k
          → cond (ltb k (sizes_of n c).words) (loose_entry n (state_of (cell_at s.words ((k - (8 + 272 * n)) / n))) ((k - (8 + 272 * n)) % n)) false ≡ false → get_or s.words k 0 ≡ get_or s'.words k 0
      beyond (inl h) b f =
          let x : ℕ = k - (8 + 272 * n) in
          let r = row_of n n x (omega arith) in
          let z = r.is in
          at_index s.words s'.words k (queue_base n (x / n) + x % n) (omega arith)
          (entry_at (x / n) (x % n) r.row r.place (pick_true (ltb k (sizes_of n c).words) (loose_entry n (state_of (cell_at s.words (x / n))) (x % n)) false false (lt-ltb k _ h) f))
      beyond (inr h) b f = back_same s.words s'.words (sizes_of n c).words k ar.beyond_words h

      in_places : (k < 8 + 272 * n) ⊎ (8 + 272 * n ≤ k) → 8 + 16 * n ≤ k
          → cond (ltb k (8 + 272 * n)) (loose_item (state_of (cell_at s.words ((k - (8 + 16 * n)) / 256))) ((k - (8 + 16 * n)) % 256))
          (cond (ltb k (sizes_of n c).words) (loose_entry n (state_of (cell_at s.words ((k - (8 + 272 * n)) / n))) ((k - (8 + 272 * n)) % n)) false) ≡ false → get_or s.words k 0 ≡ get_or s'.words k 0
      in_places (inl h) b f =
          let x : ℕ = k - (8 + 16 * n) in
          let r = row_of 256 n x (omega arith) in
          let z = r.is in
          at_index s.words s'.words k (places_base n (x / 256) + x % 256) (omega arith)
          (place_at (x / 256) (x % 256) r.row r.place (pick_true (ltb k (8 + 272 * n)) (loose_item (state_of (cell_at s.words (x / 256))) (x % 256)) _ false (lt-ltb k _ h) f))
      in_places (inr h) b f = beyond (less_or k (sizes_of n c).words) h (pick_false (ltb k (8 + 272 * n)) _ _ false (le-ltb k _ h) f)

      in_cells : (k < 8 + 16 * n) ⊎ (8 + 16 * n ≤ k) → 8 ≤ k
          → cond (ltb k (8 + 16 * n)) (loose_word (state_of (cell_at s.words ((k - 8) / 16))) ((k - 8) % 16))
          (cond (ltb k (8 + 272 * n)) (loose_item (state_of (cell_at s.words ((k - (8 + 16 * n)) / 256))) ((k - (8 + 16 * n)) % 256))
          (cond (ltb k (sizes_of n c).words) (loose_entry n (state_of (cell_at s.words ((k - (8 + 272 * n)) / n))) ((k - (8 + 272 * n)) % n)) false)) ≡ false → get_or s.words k 0 ≡ get_or s'.words k 0
      in_cells (inl h) b f =
          let x : ℕ = k - 8 in
          let r = row_of 16 n x (omega arith) in
          let z = r.is in
          at_index s.words s'.words k (cell_base (x / 16) + x % 16) (omega arith)
          (word_at (x / 16) (x % 16) r.row r.place (pick_true (ltb k (8 + 16 * n)) (loose_word (state_of (cell_at s.words (x / 16))) (x % 16)) _ false (lt-ltb k _ h) f))
      in_cells (inr h) b f = in_places (less_or k (8 + 272 * n)) h (pick_false (ltb k (8 + 16 * n)) _ _ false (le-ltb k _ h) f)

      in_header : (k < 8) ⊎ (8 ≤ k) → get_or s.words k 0 ≡ get_or s'.words k 0
      in_header (inl h) = front_same s.words s'.words 8 k ar.header h
      in_header (inr h) = in_cells (less_or k (8 + 16 * n)) h (pick_false (ltb k 8) false _ false (le-ltb k 8 h) e)

  same_in_bytes : (k : ℕ) → excepted n c s Slice.Bytes k ≡ false → get_or s.bytes k 0 ≡ get_or s'.bytes k 0
  unfolding excepted row_state
  same_in_bytes k e = in_rings (less_or k (c * n))
    where
      in_rooms : (k < (sizes_of n c).bytes) ⊎ ((sizes_of n c).bytes ≤ k) → c * n ≤ k → get_or s.bytes k 0 ≡ get_or s'.bytes k 0
      in_rooms (inl h) b =
          let x : ℕ = k - c * n in
          let r = row_of 255 n x (omega arith) in
          let z = r.is in
          at_index s.bytes s'.bytes k (name_base n c (x / 255) + x % 255) (omega arith) (room_at (x / 255) (x % 255) r.row r.place)
      in_rooms (inr h) b = back_same s.bytes s'.bytes (sizes_of n c).bytes k ar.beyond_bytes h

      in_rings : (k < c * n) ⊎ (c * n ≤ k) → get_or s.bytes k 0 ≡ get_or s'.bytes k 0
      in_rings (inl h) =
          let r = row_of c n k h in
          at_index s.bytes s'.bytes k (ring_base c (k / c) + k % c) r.is
          (byte_at (k / c) (k % c) r.row r.place (pick_true (ltb k (c * n)) (loose_byte c (state_of (cell_at s.words (k / c))) (k % c)) false false (lt-ltb k _ h) e))
      in_rings (inr h) = in_rooms (less_or k (sizes_of n c).bytes) h

  same_in_tokens : (k : ℕ) → excepted n c s Slice.Tokens k ≡ false → get_or s.tokens k 0 ≡ get_or s'.tokens k 0
  unfolding excepted row_state
  same_in_tokens k e = go (less_or k (sizes_of n c).tokens)
    where
      go : (k < (sizes_of n c).tokens) ⊎ ((sizes_of n c).tokens ≤ k) → get_or s.tokens k 0 ≡ get_or s'.tokens k 0
      go (inl h) =
          let r = row_of 256 n k h in
          at_index s.tokens s'.tokens k (tokens_base (k / 256) + k % 256) r.is
          (token_at (k / 256) (k % 256) r.row r.place (pick_true (ltb k (sizes_of n c).tokens) (loose_item (state_of (cell_at s.words (k / 256))) (k % 256)) false false (lt-ltb k _ h) e))
      go (inr h) = back_same s.tokens s'.tokens (sizes_of n c).tokens k ar.beyond_tokens h

  pub same_but : SameBut n c s s'
  same_but =
      record {
        words_long = sym ar.words_long;
        bytes_long = sym ar.bytes_long;
        tokens_long = sym ar.tokens_long;
        words = same_in_words;
        bytes = same_in_bytes;
        tokens = same_in_tokens;
      }
