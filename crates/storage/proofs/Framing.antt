-- A store in one slot's cells changes one row.
use mathlib.Core.Path.{◌≡◌, refl, sym, ap, ◌∙◌}
use mathlib.Core.Logic.{◌≢◌, ◌⊎◌, inl, inr}
use mathlib.Core.List.{List, [], ◌∷◌}
use Prim.Native.Nat.{ℕ, ◌+◌, ◌*◌, ◌≤◌, ◌<◌}
use native.Mathlib.Omega.{arith}
use lib.ListN.{length, get_or, set}
use lib.Seq.{paste}
use Rattle.laws.specs.Tab.{tab}
use Rattle.laws.proofs.Tab.{length-tab, get_or-tab, tab-set}
use Rattle.laws.proofs.Tests.{less_or}
use Rattle.storage.specs.Layout.{part, cell_base, places_base, queue_base, ring_base, name_base, tokens_base}
use Rattle.storage.specs.Cells.{cell_at, words_of, store_at}
use Rattle.storage.specs.Rows.{Store, lent, Row, row_at, rows, blank, with_cell, with_places, with_queue, with_ring, with_room, with_tokens, Roomy}
use Rattle.storage.specs.declared.Cell.{Cell}
use Rattle.storage.proofs.Strides.{row_before}
use Rattle.storage.proofs.Pasted.{length_part, part_apart, part_within, part_here, store-paste, cell_apart, cell_here, set-paste}

-- ── Rows ──

pub length-rows : (n c : ℕ) (s : Store) → length (rows n c s) ≡ n
unfolding rows
length-rows n c s = length-tab n (row_at n c s)

pub row_is : (n c : ℕ) (s : Store) (i : ℕ) → i < n → get_or (rows n c s) i blank ≡ row_at n c s i
unfolding rows
row_is n c s i h = get_or-tab n (row_at n c s) i blank h

-- two storages that differ in row i
one_row : (n c : ℕ) (s s' : Store) (i : ℕ) (r : Row) → i < n → row_at n c s' i ≡ r → ((j : ℕ) → j < n → j ≢ i → row_at n c s' j ≡ row_at n c s j) → rows n c s' ≡ set (rows n c s) i r
unfolding rows
one_row n c s s' i r h here there = tab-set n (row_at n c s) (row_at n c s') i h there ∙ ap (set (tab n (row_at n c s)) i) here

abbrev row : Cell → List ℕ → List ℕ → List ℕ → List ℕ → List ℕ → Row
row k p q r m t = record { cell = k; places = p; queue = q; ring = r; room = m; tokens = t }

-- rows of one length k, apart
apart : (b k i j : ℕ) → j ≢ i → (b + k * j + k ≤ b + k * i) ⊎ (b + k * i + k ≤ b + k * j)
apart b k i j d = go (less_or j i) (less_or i j)
  where
    go : (j < i) ⊎ (i ≤ j) → (i < j) ⊎ (j ≤ i) → (b + k * j + k ≤ b + k * i) ⊎ (b + k * i + k ≤ b + k * j)
    go (inl h) _ = inl (let z = row_before k j i h in omega arith)
    go (inr h) (inl g) = inr (let z = row_before k i j g in omega arith)
    go (inr h) (inr g) = absurd (d (omega arith))

from_zero : (x y k : ℕ) → (0 + x + k ≤ 0 + y) ⊎ (0 + y + k ≤ 0 + x) → (x + k ≤ y) ⊎ (y + k ≤ x)
from_zero x y k (inl h) = inl (omega arith)
from_zero x y k (inr h) = inr (omega arith)

shorter : (x y k : ℕ) → (y + 255 ≤ x) ⊎ (x + 255 ≤ y) → k ≤ 255 → (y + 255 ≤ x) ⊎ (x + k ≤ y)
shorter x y k (inl h) l = inl h
shorter x y k (inr h) l = inr (omega arith)

one_of : (a b n k : ℕ) → (b + n ≤ a) ⊎ (a + n ≤ b) → k < n → (b + n ≤ a + k) ⊎ (a + k + 1 ≤ b)
one_of a b n k (inl x) h = inl (omega arith)
one_of a b n k (inr x) h = inr (omega arith)

row_of : {k k' : Cell} {p p' q q' x x' y y' z z' : List ℕ} → k ≡ k' → p ≡ p' → q ≡ q' → x ≡ x' → y ≡ y' → z ≡ z' → row k p q x y z ≡ row k' p' q' x' y' z'
row_of a b c d e f = rw (a, b, c, d, e, f)

module _ (n c : ℕ) (w b t : List ℕ) (f : Roomy n c (lent w b t)) where
  -- ── Where the rows end ──

  cell_end : (j : ℕ) → j < n → (cell_base j + 16 ≤ 8 + 16 * n) × (cell_base j + 16 ≤ length w)
  cell_end j h = let z = f.words in (omega arith, omega arith)

  pub places_end : (j : ℕ) → j < n → (places_base n j + 256 ≤ 8 + 272 * n) × (places_base n j + 256 ≤ length w)
  places_end j h = let z = f.words in (omega arith, omega arith)

  queue_end : (j : ℕ) → j < n → queue_base n j + n ≤ length w
  queue_end j h = let z = f.words in let y = row_before n j n h in omega arith

  pub ring_end : (j : ℕ) → j < n → (ring_base c j + c ≤ c * n) × (ring_base c j + c ≤ length b)
  ring_end j h = let z = f.bytes in let y = row_before c j n h in (omega arith, omega arith)

  room_end : (j : ℕ) → j < n → name_base n c j + 255 ≤ length b
  room_end j h = let z = f.bytes in omega arith

  pub tokens_end : (j : ℕ) → j < n → tokens_base j + 256 ≤ length t
  tokens_end j h = let z = f.tokens in omega arith

  -- ── In words ──

  module _ (i : ℕ) (hi : i < n) where
    -- a store at `at` leaves what lies on one side of it
    module _ (at : ℕ) (s : List ℕ) (m : ℕ) (hw : at + m ≤ length w) (hs : m ≤ length s) where
      below_cell : (j : ℕ) → j < n → 8 + 16 * n ≤ at → cell_at (paste w at s m) j ≡ cell_at w j
      below_cell j hj h = let e = cell_end j hj in cell_apart w at s m j hw hs e.1 (inl (omega arith))

      above_places : (j : ℕ) → j < n → at + m ≤ 8 + 16 * n → part (places_base n j) 256 (paste w at s m) ≡ part (places_base n j) 256 w
      above_places j hj h = part_apart w at s m (places_base n j) 256 hw hs (places_end j hj).1 (inr (omega arith))

      below_places : (j : ℕ) → j < n → 8 + 272 * n ≤ at → part (places_base n j) 256 (paste w at s m) ≡ part (places_base n j) 256 w
      below_places j hj h = let e = places_end j hj in part_apart w at s m (places_base n j) 256 hw hs e.1 (inl (omega arith))

      above_queue : (j : ℕ) → j < n → at + m ≤ 8 + 272 * n → part (queue_base n j) n (paste w at s m) ≡ part (queue_base n j) n w
      above_queue j hj h = part_apart w at s m (queue_base n j) n hw hs (queue_end j hj) (inr (omega arith))

    pub store_rows : (k : Cell) → rows n c (lent (store_at w i k) b t) ≡ set (rows n c (lent w b t)) i (with_cell k (row_at n c (lent w b t) i))
    unfolding row_at
    store_rows k =
        let e = cell_end i hi in
        let hw : cell_base i + 16 ≤ length w = e.1 in
        let hs : 16 ≤ 16 = omega arith in
        ap (λ (x : List ℕ). rows n c (lent x b t)) (store-paste w i k hw)
        ∙ one_row n c (lent w b t) (lent (paste w (cell_base i) (words_of k) 16) b t) i (with_cell k (row_at n c (lent w b t) i)) hi
        (row_of (cell_here w i k hw) (above_places (cell_base i) (words_of k) 16 hw hs i hi e.0) (above_queue (cell_base i) (words_of k) 16 hw hs i hi (omega arith)) refl refl refl)
        (λ j hj d.
        row_of (cell_apart w (cell_base i) (words_of k) 16 j hw hs (cell_end j hj).1 (apart 8 16 i j d)) (above_places (cell_base i) (words_of k) 16 hw hs j hj e.0)
        (above_queue (cell_base i) (words_of k) 16 hw hs j hj (omega arith)) refl refl refl)

    pub places_rows : (l : List ℕ) → length l ≡ 256 → rows n c (lent (paste w (places_base n i) l 256) b t) ≡ set (rows n c (lent w b t)) i (with_places l (row_at n c (lent w b t) i))
    unfolding row_at
    places_rows l hl =
        let e = places_end i hi in
        let hw : places_base n i + 256 ≤ length w = e.1 in
        let hs : 256 ≤ length l = omega arith in
        one_row n c (lent w b t) (lent (paste w (places_base n i) l 256) b t) i (with_places l (row_at n c (lent w b t) i)) hi
        (row_of (below_cell (places_base n i) l 256 hw hs i hi (omega arith)) (part_here w (places_base n i) l 256 hw hl) (above_queue (places_base n i) l 256 hw hs i hi e.0) refl refl refl)
        (λ j hj d.
        row_of (below_cell (places_base n i) l 256 hw hs j hj (omega arith)) (part_apart w (places_base n i) l 256 (places_base n j) 256 hw hs (places_end j hj).1 (apart (8 + 16 * n) 256 i j d))
        (above_queue (places_base n i) l 256 hw hs j hj e.0) refl refl refl)

    -- an entry of the ring of handles
    pub entry_rows : (k h : ℕ) → k < n
        → rows n c (lent (set w (queue_base n i + k) h) b t) ≡ set (rows n c (lent w b t)) i (with_queue (set (row_at n c (lent w b t) i).queue k h) (row_at n c (lent w b t) i))
    unfolding row_at
    entry_rows k h hk =
        let e = queue_end i hi in
        let at : ℕ = queue_base n i + k in
        let hw : at + 1 ≤ length w = omega arith in
        let hs : 1 ≤ 1 = omega arith in
        let q = part (queue_base n i) n w in
        let lq : length q ≡ n = length_part (queue_base n i) n w e in
        ap (λ (x : List ℕ). rows n c (lent x b t)) (set-paste w at h (omega arith))
        ∙ one_row n c (lent w b t) (lent (paste w at (h ∷ []) 1) b t) i (with_queue (set q k h) (row_at n c (lent w b t) i)) hi
        (row_of (below_cell at (h ∷ []) 1 hw hs i hi (omega arith)) (below_places at (h ∷ []) 1 hw hs i hi (omega arith))
        (part_within w at (h ∷ []) 1 (queue_base n i) n k hs e refl (omega arith) ∙ sym (set-paste q k h (omega arith))) refl refl refl)
        (λ j hj d.
        row_of (below_cell at (h ∷ []) 1 hw hs j hj (omega arith)) (below_places at (h ∷ []) 1 hw hs j hj (omega arith))
        (part_apart w at (h ∷ []) 1 (queue_base n j) n hw hs (queue_end j hj) (one_of (queue_base n i) (queue_base n j) n k (apart (8 + 272 * n) n i j d) hk)) refl refl refl)

    -- ── In bytes ──

    pub ring_rows : (l : List ℕ) → length l ≡ c → rows n c (lent w (paste b (ring_base c i) l c) t) ≡ set (rows n c (lent w b t)) i (with_ring l (row_at n c (lent w b t) i))
    unfolding row_at
    ring_rows l hl =
        let e = ring_end i hi in
        let hb : ring_base c i + c ≤ length b = e.1 in
        let hs : c ≤ length l = omega arith in
        one_row n c (lent w b t) (lent w (paste b (ring_base c i) l c) t) i (with_ring l (row_at n c (lent w b t) i)) hi
        (row_of refl refl refl (part_here b (ring_base c i) l c hb hl) (part_apart b (ring_base c i) l c (name_base n c i) 255 hb hs (room_end i hi) (inr (omega arith))) refl)
        (λ j hj d.
        row_of refl refl refl (part_apart b (ring_base c i) l c (ring_base c j) c hb hs (ring_end j hj).1 (from_zero (c * j) (c * i) c (apart 0 c i j d)))
        (part_apart b (ring_base c i) l c (name_base n c j) 255 hb hs (room_end j hj) (inr (omega arith))) refl)

    -- a name, at the start of its room
    pub room_rows : (m : List ℕ) (k : ℕ) → k ≤ length m → k ≤ 255
        → rows n c (lent w (paste b (name_base n c i) m k) t) ≡ set (rows n c (lent w b t)) i (with_room (paste (row_at n c (lent w b t) i).room 0 m k) (row_at n c (lent w b t) i))
    unfolding row_at
    room_rows m k hm hk =
        let e = room_end i hi in
        let hb : name_base n c i + k ≤ length b = omega arith in
        one_row n c (lent w b t) (lent w (paste b (name_base n c i) m k) t) i (with_room (paste (part (name_base n c i) 255 b) 0 m k) (row_at n c (lent w b t) i)) hi
        (row_of refl refl refl (part_apart b (name_base n c i) m k (ring_base c i) c hb hm (ring_end i hi).1 (inl (let z = (ring_end i hi).0 in omega arith)))
        (part_within b (name_base n c i) m k (name_base n c i) 255 0 hm e (omega arith) (omega arith)) refl)
        (λ j hj d.
        row_of refl refl refl (part_apart b (name_base n c i) m k (ring_base c j) c hb hm (ring_end j hj).1 (inl (let z = (ring_end j hj).0 in omega arith)))
        (part_apart b (name_base n c i) m k (name_base n c j) 255 hb hm (room_end j hj) (shorter (name_base n c i) (name_base n c j) k (apart (c * n) 255 i j d) hk)) refl)

    -- ── In tokens ──

    pub tokens_rows : (l : List ℕ) → length l ≡ 256 → rows n c (lent w b (paste t (tokens_base i) l 256)) ≡ set (rows n c (lent w b t)) i (with_tokens l (row_at n c (lent w b t) i))
    unfolding row_at
    tokens_rows l hl =
        let e = tokens_end i hi in
        one_row n c (lent w b t) (lent w b (paste t (tokens_base i) l 256)) i (with_tokens l (row_at n c (lent w b t) i)) hi
        (row_of refl refl refl refl refl (part_here t (tokens_base i) l 256 e hl))
        (λ j hj d. row_of refl refl refl refl refl (part_apart t (tokens_base i) l 256 (tokens_base j) 256 e (omega arith) (tokens_end j hj) (from_zero (256 * j) (256 * i) 256 (apart 0 256 i j d))))
