-- The cells of the three slices that no promise settles (proofs/UniqueExact.antt). All others are settled, index by index (proofs/Unique.antt).
use Rattle.std.specs.Prelude.{ℕ, ◌+◌, ◌-◌, ◌*◌, ◌/◌, ◌%◌, ◌≡◌, Bool, true, false, cond, leb, ltb, length, get_or}
use Rattle.inbox.specs.View.{count}
use Rattle.storage.specs.Layout.{sizes_of}
use Rattle.storage.specs.Cells.{cell_at, state_of}
use Rattle.storage.specs.Rows.{Store}
use Rattle.storage.specs.declared.State.{State}
use Rattle.storage.specs.declared.State.TheVariants.{Closed, Unbound, Bound, Listening, Connected}
use Rattle.table.specs.Formed.{ahead}

pub data Slice : Type 0 where
  Words : Slice
  Bytes : Slice
  Tokens : Slice

-- ── Of one slot, by its state ──

-- word j of its sixteen: of a closed slot the first two, generation and state, are settled
unfoldable pub loose_word : State → ℕ → Bool
loose_word Closed j = leb 2 j
loose_word Unbound j = false
loose_word (Bound m) j = false
loose_word (Listening l) j = false
loose_word (Connected k) j = false

-- place j of its ring of n handles: no server that is pending stands there
unfoldable pub loose_entry : ℕ → State → ℕ → Bool
loose_entry n Closed j = true
loose_entry n Unbound j = true
loose_entry n (Bound m) j = true
loose_entry n (Listening l) j = leb l.pending (ahead n l.head j)
loose_entry n (Connected k) j = true

-- place j of its ring of c bytes: no queued byte
unfoldable pub loose_byte : ℕ → State → ℕ → Bool
loose_byte c Closed j = true
loose_byte c Unbound j = true
loose_byte c (Bound m) j = true
loose_byte c (Listening l) j = true
loose_byte c (Connected k) j = leb (count k.inbox) (ahead c k.inbox.head j)

-- place j of its two rings of 256, offsets and items: no queued item
unfoldable pub loose_item : State → ℕ → Bool
loose_item Closed j = true
loose_item Unbound j = true
loose_item (Bound m) j = true
loose_item (Listening l) j = true
loose_item (Connected k) j = leb k.inbox.items (ahead 256 k.inbox.first j)

-- ── Of the slices, by index: rows of one length lie one behind the other ──

-- row i of these rows has the state of slot i
unfoldable pub row_state : Store → ℕ → State
row_state s i = state_of (cell_at s.words i)

-- header, slots, offsets, handles, what lies beyond; bytes, names, what lies beyond; items, what lies beyond
unfoldable pub excepted : ℕ → ℕ → Store → Slice → ℕ → Bool
excepted n c s Slice.Words k =
    cond (ltb k 8) false
    (cond (ltb k (8 + 16 * n)) (loose_word (row_state s ((k - 8) / 16)) ((k - 8) % 16))
    (cond (ltb k (8 + 272 * n)) (loose_item (row_state s ((k - (8 + 16 * n)) / 256)) ((k - (8 + 16 * n)) % 256))
    (cond (ltb k (sizes_of n c).words) (loose_entry n (row_state s ((k - (8 + 272 * n)) / n)) ((k - (8 + 272 * n)) % n))
    false)))
excepted n c s Slice.Bytes k = cond (ltb k (c * n)) (loose_byte c (row_state s (k / c)) (k % c)) false
excepted n c s Slice.Tokens k = cond (ltb k (sizes_of n c).tokens) (loose_item (row_state s (k / 256)) (k % 256)) false

-- two storages that are the same, index by index, but for the excepted cells
pub record SameBut (n c : ℕ) (s s' : Store) : Type 0 where
  pub words_long : length s.words ≡ length s'.words
  pub bytes_long : length s.bytes ≡ length s'.bytes
  pub tokens_long : length s.tokens ≡ length s'.tokens
  pub words : (k : ℕ) → excepted n c s Slice.Words k ≡ false → get_or s.words k 0 ≡ get_or s'.words k 0
  pub bytes : (k : ℕ) → excepted n c s Slice.Bytes k ≡ false → get_or s.bytes k 0 ≡ get_or s'.bytes k 0
  pub tokens : (k : ℕ) → excepted n c s Slice.Tokens k ≡ false → get_or s.tokens k 0 ≡ get_or s'.tokens k 0
