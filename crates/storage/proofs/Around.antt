-- A store in a row leaves all that is around the rows.
use mathlib.Core.Path.{◌≡◌, refl, sym, ap, ◌∙◌}
use mathlib.Core.Logic.{inl}
use mathlib.Core.List.{List, [], ◌∷◌}
use Prim.Native.Nat.{ℕ, ◌+◌, ◌-◌, ◌≤◌, ◌<◌}
use native.Mathlib.Omega.{arith}
use lib.ListN.{length, drop, set}
use lib.Seq.{paste, length-paste, drop-paste, drop-drop}
use Rattle.storage.specs.Layout.{cell_base, places_base, queue_base, ring_base, name_base, tokens_base, sizes_of}
use Rattle.storage.specs.Cells.{store_at, words_of}
use Rattle.storage.specs.Rows.{Store, lent, Roomy, Around}
use Rattle.storage.specs.declared.Cell.{Cell}
use Rattle.storage.proofs.Strides.{row_before}
use Rattle.storage.proofs.Pasted.{part_apart, store-paste, set-paste}

pub around_same : (n c : ℕ) (s : Store) → Around n c s s
around_same n c s = record { words_long = refl; bytes_long = refl; tokens_long = refl; header = refl; beyond_words = refl; beyond_bytes = refl; beyond_tokens = refl }

pub around_then : {n c : ℕ} {s s' s'' : Store} → Around n c s s' → Around n c s' s'' → Around n c s s''
around_then a b =
    record {
      words_long = b.words_long ∙ a.words_long;
      bytes_long = b.bytes_long ∙ a.bytes_long;
      tokens_long = b.tokens_long ∙ a.tokens_long;
      header = b.header ∙ a.header;
      beyond_words = b.beyond_words ∙ a.beyond_words;
      beyond_bytes = b.beyond_bytes ∙ a.beyond_bytes;
      beyond_tokens = b.beyond_tokens ∙ a.beyond_tokens;
    }

-- the storage still has its rows
pub roomy_around : {n c : ℕ} {s s' : Store} → Around n c s s' → Roomy n c s → Roomy n c s'
roomy_around a f =
    let w = a.words_long in
    let b = a.bytes_long in
    let t = a.tokens_long in
    let fw = f.words in
    let fb = f.bytes in
    let ft = f.tokens in
    record { few = f.few; small = f.small; words = omega arith; bytes = omega arith; tokens = omega arith }

-- behind a store
behind : (d : List ℕ) (at : ℕ) (s : List ℕ) (n k : ℕ) → at + n ≤ k → at + n ≤ length d → n ≤ length s → drop k (paste d at s n) ≡ drop k d
behind d at s n k h hd hs =
    let e : at + n + (k - (at + n)) ≡ k = omega arith in
    ap (λ (x : ℕ). drop x (paste d at s n)) (sym e) ∙ sym (drop-drop (k - (at + n)) (at + n) (paste d at s n)) ∙ ap (drop (k - (at + n))) (drop-paste d at s n (omega arith) hs)
    ∙ drop-drop (k - (at + n)) (at + n) d ∙ ap (λ (x : ℕ). drop x d) e

module _ (n c : ℕ) (w b t : List ℕ) (f : Roomy n c (lent w b t)) where
  in_words : (at : ℕ) (s : List ℕ) (m : ℕ) → 8 ≤ at → at + m ≤ (sizes_of n c).words → m ≤ length s → Around n c (lent w b t) (lent (paste w at s m) b t)
  in_words at s m h k hs =
      let z = f.words in
      record {
        words_long = length-paste w at s m (omega arith) hs;
        bytes_long = refl;
        tokens_long = refl;
        header = part_apart w at s m 0 8 (omega arith) hs (omega arith) (inl (omega arith));
        beyond_words = behind w at s m (sizes_of n c).words k (omega arith) hs;
        beyond_bytes = refl;
        beyond_tokens = refl;
      }

  in_bytes : (at : ℕ) (s : List ℕ) (m : ℕ) → at + m ≤ (sizes_of n c).bytes → m ≤ length s → Around n c (lent w b t) (lent w (paste b at s m) t)
  in_bytes at s m k hs =
      let z = f.bytes in
      record {
        words_long = refl;
        bytes_long = length-paste b at s m (omega arith) hs;
        tokens_long = refl;
        header = refl;
        beyond_words = refl;
        beyond_bytes = behind b at s m (sizes_of n c).bytes k (omega arith) hs;
        beyond_tokens = refl;
      }

  module _ (i : ℕ) (hi : i < n) where
    pub store_around : (k : Cell) → Around n c (lent w b t) (lent (store_at w i k) b t)
    store_around k = let z = f.words in rw (store-paste w i k (omega arith)) (in_words (cell_base i) (words_of k) 16 (omega arith) (omega arith) (omega arith))

    pub places_around : (l : List ℕ) → length l ≡ 256 → Around n c (lent w b t) (lent (paste w (places_base n i) l 256) b t)
    places_around l e = in_words (places_base n i) l 256 (omega arith) (omega arith) (omega arith)

    pub entry_around : (k h : ℕ) → k < n → Around n c (lent w b t) (lent (set w (queue_base n i + k) h) b t)
    entry_around k h hk =
        let z = f.words in
        let y = row_before n i n hi in
        rw (set-paste w (queue_base n i + k) h (omega arith)) (in_words (queue_base n i + k) (h ∷ []) 1 (omega arith) (omega arith) (omega arith))

    pub ring_around : (l : List ℕ) → length l ≡ c → Around n c (lent w b t) (lent w (paste b (ring_base c i) l c) t)
    ring_around l e = let y = row_before c i n hi in in_bytes (ring_base c i) l c (omega arith) (omega arith)

    pub room_around : (m : List ℕ) (k : ℕ) → k ≤ length m → k ≤ 255 → Around n c (lent w b t) (lent w (paste b (name_base n c i) m k) t)
    room_around m k h hk = in_bytes (name_base n c i) m k (omega arith) h

    pub tokens_around : (l : List ℕ) → length l ≡ 256 → Around n c (lent w b t) (lent w b (paste t (tokens_base i) l 256))
    tokens_around l e =
        let z = f.tokens in
        record {
          words_long = refl;
          bytes_long = refl;
          tokens_long = length-paste t (tokens_base i) l 256 (omega arith) (omega arith);
          header = refl;
          beyond_words = refl;
          beyond_bytes = refl;
          beyond_tokens = behind t (tokens_base i) l 256 (sizes_of n c).tokens (omega arith) (omega arith) (omega arith);
        }
