-- Where everything lies in the lent slices, for n slots of capacity c.
--
--   words    8 words: n, c, six zeros
--            16 words a slot
--            256 stream offsets a slot: the place of each queued item
--            n handles a slot: the ring of its pending servers
--   bytes    c bytes a slot: the ring of its inbox
--            255 bytes a slot: the room of its name
--   tokens   256 a slot: the queued items
use Rattle.std.specs.Prelude.{ℕ, ◌+◌, ◌*◌, ◌≤◌, List, length, take, drop}
use Rattle.storage.specs.declared.Sizes.{Sizes}

-- k elements from a on
abbrev pub part : ℕ → ℕ → List ℕ → List ℕ
part a k l = take k (drop a l)

-- ── In words ──

abbrev pub cell_base : ℕ → ℕ
cell_base i = 8 + 16 * i

abbrev pub places_base : ℕ → ℕ → ℕ
places_base n i = 8 + 16 * n + 256 * i

abbrev pub queue_base : ℕ → ℕ → ℕ
queue_base n i = 8 + 272 * n + n * i

-- ── In bytes ──

abbrev pub ring_base : ℕ → ℕ → ℕ
ring_base c i = c * i

abbrev pub name_base : ℕ → ℕ → ℕ → ℕ
name_base n c i = c * n + 255 * i

-- ── In tokens ──

abbrev pub tokens_base : ℕ → ℕ
tokens_base i = 256 * i

-- ── The least sizes ──

abbrev pub sizes_of : ℕ → ℕ → Sizes
sizes_of n c =
    record {
      words = 8 + 272 * n + n * n;
      bytes = c * n + 255 * n;
      tokens = 256 * n;
      wakes = n + 1;
      releases = 256 * n;
    }

-- ── What lent slices have room for ──

-- the words of slot i
abbrev pub HasSlot : ℕ → List ℕ → Type 0
HasSlot i words = 8 + 16 * i + 16 ≤ length words

-- the words of n slots
abbrev pub HasSlots : ℕ → List ℕ → Type 0
HasSlots n words = 8 + 16 * n ≤ length words

-- all that n slots have in words
abbrev pub HasRows : ℕ → List ℕ → Type 0
HasRows n words = 8 + 272 * n + n * n ≤ length words

-- all that n slots of capacity c have in bytes
abbrev pub HasNames : ℕ → ℕ → List ℕ → Type 0
HasNames n c bytes = c * n + 255 * n ≤ length bytes
