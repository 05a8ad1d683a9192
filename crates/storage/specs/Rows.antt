-- The lent storage, slot by slot: all of a slot's cells are its row.
use Rattle.std.specs.Prelude.{ℕ, ◌≤◌, ◌≡◌, List, [], length, take, drop}
use Rattle.laws.specs.Tab.{tab}
use Rattle.storage.specs.Layout.{sizes_of, part, places_base, queue_base, ring_base, name_base, tokens_base}
use Rattle.storage.specs.Cells.{cell_at, plain_cell}
use Rattle.storage.specs.declared.Cell.{Cell}

pub record Store : Type 0 where
  pub words : List ℕ
  pub bytes : List ℕ
  pub tokens : List ℕ

abbrev pub lent : (words bytes tokens : List ℕ) → Store
lent w b t = record { words = w; bytes = b; tokens = t }

-- its words; the offsets of its items; its ring of handles; its ring of bytes; the room of its name; its items
pub record Row : Type 0 where
  pub cell : Cell
  pub places : List ℕ
  pub queue : List ℕ
  pub ring : List ℕ
  pub room : List ℕ
  pub tokens : List ℕ

unfoldable pub row_at : ℕ → ℕ → Store → ℕ → Row
row_at n c s i =
    record {
      cell = cell_at s.words i;
      places = part (places_base n i) 256 s.words;
      queue = part (queue_base n i) n s.words;
      ring = part (ring_base c i) c s.bytes;
      room = part (name_base n c i) 255 s.bytes;
      tokens = part (tokens_base i) 256 s.tokens;
    }

unfoldable pub rows : ℕ → ℕ → Store → List Row
rows n c s = tab n (row_at n c s)

-- a row that no storage has
abbrev pub blank : Row
blank = record { cell = plain_cell 0 0 0; places = []; queue = []; ring = []; room = []; tokens = [] }

-- ── A row with one thing changed ──

abbrev pub with_cell : Cell → Row → Row
with_cell k r = record { cell = k; places = r.places; queue = r.queue; ring = r.ring; room = r.room; tokens = r.tokens }

abbrev pub with_places : List ℕ → Row → Row
with_places l r = record { cell = r.cell; places = l; queue = r.queue; ring = r.ring; room = r.room; tokens = r.tokens }

abbrev pub with_queue : List ℕ → Row → Row
with_queue l r = record { cell = r.cell; places = r.places; queue = l; ring = r.ring; room = r.room; tokens = r.tokens }

abbrev pub with_ring : List ℕ → Row → Row
with_ring l r = record { cell = r.cell; places = r.places; queue = r.queue; ring = l; room = r.room; tokens = r.tokens }

abbrev pub with_room : List ℕ → Row → Row
with_room l r = record { cell = r.cell; places = r.places; queue = r.queue; ring = r.ring; room = l; tokens = r.tokens }

abbrev pub with_tokens : List ℕ → Row → Row
with_tokens l r = record { cell = r.cell; places = r.places; queue = r.queue; ring = r.ring; room = r.room; tokens = l }

-- the storage has n rows of capacity c
pub record Roomy (n c : ℕ) (s : Store) : Type 0 where
  pub few : n ≤ 1024
  pub small : c ≤ 65536
  pub words : (sizes_of n c).words ≤ length s.words
  pub bytes : (sizes_of n c).bytes ≤ length s.bytes
  pub tokens : (sizes_of n c).tokens ≤ length s.tokens

-- all but the rows is the same: the header, what lies beyond the least sizes, and the lengths
pub record Around (n c : ℕ) (s s' : Store) : Type 0 where
  pub words_long : length s'.words ≡ length s.words
  pub bytes_long : length s'.bytes ≡ length s.bytes
  pub tokens_long : length s'.tokens ≡ length s.tokens
  pub header : take 8 s'.words ≡ take 8 s.words
  pub beyond_words : drop (sizes_of n c).words s'.words ≡ drop (sizes_of n c).words s.words
  pub beyond_bytes : drop (sizes_of n c).bytes s'.bytes ≡ drop (sizes_of n c).bytes s.bytes
  pub beyond_tokens : drop (sizes_of n c).tokens s'.tokens ≡ drop (sizes_of n c).tokens s.tokens
