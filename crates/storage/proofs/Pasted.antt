-- A store into a slice is a paste: parts that lie apart from it stay, and the part itself is what was stored.
use mathlib.Core.Path.{◌≡◌, refl, sym, ap, ◌∙◌}
use mathlib.Core.Logic.{◌⊎◌, inl, inr}
use mathlib.Core.List.{List, [], ◌∷◌, ◌++◌}
use Prim.Native.Nat.{ℕ, suc, ◌+◌, ◌-◌, ◌≤◌, ◌<◌}
use native.Mathlib.Nat.{add-suc, add-zero}
use native.Mathlib.Numerals.{add-one}
use native.Mathlib.Omega.{arith}
use lib.ListN.{length, take, drop, get_or, set, length-drop}
use lib.Seq.{sets, sets-eq, paste, length-paste, length-take-le, ext_get_or, get_or-take, get_or-drop, set_split, append_snoc}
use Rattle.ring.proofs.Runs.{paste-before, paste-in, paste-behind}
use Rattle.ring.proofs.Queued.{by_order}
use Rattle.storage.specs.Layout.{part, cell_base}
use Rattle.storage.specs.Cells.{cell_at, words_of, puts, store_at}
use Rattle.storage.specs.declared.Cell.{Cell}

-- ── Parts ──

pub length_part : (a k : ℕ) (l : List ℕ) → a + k ≤ length l → length (part a k l) ≡ k
length_part a k l h = length-take-le k (drop a l) (simp length-drop (omega arith))

pub part_at : (a k : ℕ) (l : List ℕ) (j : ℕ) → j < k → get_or (part a k l) j 0 ≡ get_or l (a + j) 0
part_at a k l j h = get_or-take k (drop a l) j 0 h ∙ get_or-drop a l j 0

-- what lies apart
pub part_apart : (d : List ℕ) (at : ℕ) (s : List ℕ) (n a k : ℕ) → at + n ≤ length d → n ≤ length s → a + k ≤ length d → (a + k ≤ at) ⊎ (at + n ≤ a)
    → part a k (paste d at s n) ≡ part a k d
part_apart d at s n a k hd hs ha o =
    let l = length-paste d at s n hd hs in
    ext_get_or 0 (part a k (paste d at s n)) (part a k d) (length_part a k (paste d at s n) (omega arith) ∙ sym (length_part a k d ha))
    (λ j hj.
    let hj' : j < k = omega (arith, length_part a k (paste d at s n) (omega arith)) in
    part_at a k (paste d at s n) j hj' ∙ which o j hj' ∙ sym (part_at a k d j hj'))
  where
    which : (a + k ≤ at) ⊎ (at + n ≤ a) → (j : ℕ) → j < k → get_or (paste d at s n) (a + j) 0 ≡ get_or d (a + j) 0
    which (inl x) j h = paste-before d at s n hd hs (a + j) (omega arith)
    which (inr x) j h = paste-behind d at s n hd hs (a + j) (omega arith)

-- what lies around it: a store inside a part is a store in that part
pub part_within : (d : List ℕ) (at : ℕ) (s : List ℕ) (n a k i : ℕ) → n ≤ length s → a + k ≤ length d → at ≡ a + i → i + n ≤ k
    → part a k (paste d at s n) ≡ paste (part a k d) i s n
part_within d at s n a k i hs ha e h =
    let hd : at + n ≤ length d = omega arith in
    let l = length-paste d at s n hd hs in
    let lp = length_part a k d ha in
    ext_get_or 0 (part a k (paste d at s n)) (paste (part a k d) i s n)
    (length_part a k (paste d at s n) (omega arith) ∙ sym (length-paste (part a k d) i s n (omega arith) hs ∙ lp))
    (λ j hj.
    let hj' : j < k = omega (arith, length_part a k (paste d at s n) (omega arith)) in
    part_at a k (paste d at s n) j hj'
    ∙ by_order j i
    (λ lo. paste-before d at s n hd hs (a + j) (omega arith) ∙ sym (paste-before (part a k d) i s n (omega arith) hs j lo ∙ part_at a k d j hj'))
    (λ up.
    by_order j (i + n)
    (λ inside. paste-in d at s n hd hs (a + j) (j - i) (omega arith) (omega arith) ∙ sym (paste-in (part a k d) i s n (omega arith) hs j (j - i) (omega arith) (omega arith)))
    (λ out. paste-behind d at s n hd hs (a + j) (omega arith) ∙ sym (paste-behind (part a k d) i s n (omega arith) hs j out ∙ part_at a k d j hj'))))

-- the part itself
pub part_here : (d : List ℕ) (a : ℕ) (s : List ℕ) (k : ℕ) → a + k ≤ length d → length s ≡ k → part a k (paste d a s k) ≡ s
part_here d a s k hd hs =
    let l = length-paste d a s k hd (omega arith) in
    ext_get_or 0 (part a k (paste d a s k)) s (length_part a k (paste d a s k) (omega arith) ∙ sym hs)
    (λ j hj.
    let hj' : j < k = omega (arith, length_part a k (paste d a s k) (omega arith)) in
    part_at a k (paste d a s k) j hj' ∙ paste-in d a s k hd (omega arith) (a + j) j refl hj')

-- ── What code leaves, as pastes ──

pub set-paste : (l : List ℕ) (x v : ℕ) → x < length l → set l x v ≡ paste l x (v ∷ []) 1
set-paste l x v h = set_split l x v h ∙ sym (append_snoc (take x l) v (drop (suc x) l)) ∙ ap (λ (k : ℕ). take x l ++ (v ∷ []) ++ drop k l) (sym (add-one x))

puts-sets : (l : List ℕ) (b k : ℕ) (vs : List ℕ) → puts l b k vs ≡ sets l (b + k) vs
puts-sets l b k [] = refl
puts-sets l b k (v ∷ vs) = puts-sets (set l (b + k) v) b (suc k) vs ∙ ap (λ (x : ℕ). sets (set l (b + k) v) x vs) (add-suc b k)

pub store-paste : (w : List ℕ) (i : ℕ) (k : Cell) → cell_base i + 16 ≤ length w → store_at w i k ≡ paste w (cell_base i) (words_of k) 16
unfolding store_at
store-paste w i k h =
    puts-sets w (cell_base i) 0 (words_of k) ∙ ap (λ (x : ℕ). sets w x (words_of k)) (add-zero (cell_base i)) ∙ sets-eq (words_of k) w (cell_base i) h

-- ── A cell is the part of its sixteen words ──

abbrev of : (a b c d e f g h i j k l m n o p : ℕ) → Cell
of a b c d e f g h i j k l m n o p =
    record { generation = a; tag = b; name = c; backlog = d; head = e; pending = f; peer = g; inbox_closed = h; outbox_closed = i; byte = j; written_total = k; read_total = l; first = m; items = n; waits = o; place = p }

abbrev cell_by : (ℕ → ℕ) → Cell
cell_by p = of (p 0) (p 1) (p 2) (p 3) (p 4) (p 5) (p 6) (p 7) (p 8) (p 9) (p 10) (p 11) (p 12) (p 13) (p 14) (p 15)

word_by_word : (p q : ℕ → ℕ) → ((k : ℕ) → k < 16 → p k ≡ q k) → cell_by p ≡ cell_by q
word_by_word p q e =
    ap (λ (x : ℕ). of x (p 1) (p 2) (p 3) (p 4) (p 5) (p 6) (p 7) (p 8) (p 9) (p 10) (p 11) (p 12) (p 13) (p 14) (p 15)) (e 0 (omega arith))
    ∙ ap (λ (x : ℕ). of (q 0) x (p 2) (p 3) (p 4) (p 5) (p 6) (p 7) (p 8) (p 9) (p 10) (p 11) (p 12) (p 13) (p 14) (p 15)) (e 1 (omega arith))
    ∙ ap (λ (x : ℕ). of (q 0) (q 1) x (p 3) (p 4) (p 5) (p 6) (p 7) (p 8) (p 9) (p 10) (p 11) (p 12) (p 13) (p 14) (p 15)) (e 2 (omega arith))
    ∙ ap (λ (x : ℕ). of (q 0) (q 1) (q 2) x (p 4) (p 5) (p 6) (p 7) (p 8) (p 9) (p 10) (p 11) (p 12) (p 13) (p 14) (p 15)) (e 3 (omega arith))
    ∙ ap (λ (x : ℕ). of (q 0) (q 1) (q 2) (q 3) x (p 5) (p 6) (p 7) (p 8) (p 9) (p 10) (p 11) (p 12) (p 13) (p 14) (p 15)) (e 4 (omega arith))
    ∙ ap (λ (x : ℕ). of (q 0) (q 1) (q 2) (q 3) (q 4) x (p 6) (p 7) (p 8) (p 9) (p 10) (p 11) (p 12) (p 13) (p 14) (p 15)) (e 5 (omega arith))
    ∙ ap (λ (x : ℕ). of (q 0) (q 1) (q 2) (q 3) (q 4) (q 5) x (p 7) (p 8) (p 9) (p 10) (p 11) (p 12) (p 13) (p 14) (p 15)) (e 6 (omega arith))
    ∙ ap (λ (x : ℕ). of (q 0) (q 1) (q 2) (q 3) (q 4) (q 5) (q 6) x (p 8) (p 9) (p 10) (p 11) (p 12) (p 13) (p 14) (p 15)) (e 7 (omega arith))
    ∙ ap (λ (x : ℕ). of (q 0) (q 1) (q 2) (q 3) (q 4) (q 5) (q 6) (q 7) x (p 9) (p 10) (p 11) (p 12) (p 13) (p 14) (p 15)) (e 8 (omega arith))
    ∙ ap (λ (x : ℕ). of (q 0) (q 1) (q 2) (q 3) (q 4) (q 5) (q 6) (q 7) (q 8) x (p 10) (p 11) (p 12) (p 13) (p 14) (p 15)) (e 9 (omega arith))
    ∙ ap (λ (x : ℕ). of (q 0) (q 1) (q 2) (q 3) (q 4) (q 5) (q 6) (q 7) (q 8) (q 9) x (p 11) (p 12) (p 13) (p 14) (p 15)) (e 10 (omega arith))
    ∙ ap (λ (x : ℕ). of (q 0) (q 1) (q 2) (q 3) (q 4) (q 5) (q 6) (q 7) (q 8) (q 9) (q 10) x (p 12) (p 13) (p 14) (p 15)) (e 11 (omega arith))
    ∙ ap (λ (x : ℕ). of (q 0) (q 1) (q 2) (q 3) (q 4) (q 5) (q 6) (q 7) (q 8) (q 9) (q 10) (q 11) x (p 13) (p 14) (p 15)) (e 12 (omega arith))
    ∙ ap (λ (x : ℕ). of (q 0) (q 1) (q 2) (q 3) (q 4) (q 5) (q 6) (q 7) (q 8) (q 9) (q 10) (q 11) (q 12) x (p 14) (p 15)) (e 13 (omega arith))
    ∙ ap (λ (x : ℕ). of (q 0) (q 1) (q 2) (q 3) (q 4) (q 5) (q 6) (q 7) (q 8) (q 9) (q 10) (q 11) (q 12) (q 13) x (p 15)) (e 14 (omega arith))
    ∙ ap (λ (x : ℕ). of (q 0) (q 1) (q 2) (q 3) (q 4) (q 5) (q 6) (q 7) (q 8) (q 9) (q 10) (q 11) (q 12) (q 13) (q 14) x) (e 15 (omega arith))

pub same_cell : (w w' : List ℕ) (i : ℕ) → ((k : ℕ) → k < 16 → get_or w (cell_base i + k) 0 ≡ get_or w' (cell_base i + k) 0) → cell_at w i ≡ cell_at w' i
unfolding cell_at
same_cell w w' i e = word_by_word (λ k. get_or w (cell_base i + k) 0) (λ k. get_or w' (cell_base i + k) 0) e

unfoldable cell_in : List ℕ → Cell
cell_in l = cell_by (λ k. get_or l k 0)

cell_part : (w : List ℕ) (i : ℕ) → cell_in (part (cell_base i) 16 w) ≡ cell_at w i
unfolding cell_in cell_at
cell_part w i = word_by_word (λ k. get_or (part (cell_base i) 16 w) k 0) (λ k. get_or w (cell_base i + k) 0) (part_at (cell_base i) 16 w)

pub cell_apart : (w : List ℕ) (at : ℕ) (s : List ℕ) (n i : ℕ) → at + n ≤ length w → n ≤ length s → cell_base i + 16 ≤ length w → (cell_base i + 16 ≤ at) ⊎ (at + n ≤ cell_base i)
    → cell_at (paste w at s n) i ≡ cell_at w i
cell_apart w at s n i hw hs hi o = sym (cell_part (paste w at s n) i) ∙ ap cell_in (part_apart w at s n (cell_base i) 16 hw hs hi o) ∙ cell_part w i

pub cell_here : (w : List ℕ) (i : ℕ) (k : Cell) → cell_base i + 16 ≤ length w → cell_at (paste w (cell_base i) (words_of k) 16) i ≡ k
unfolding cell_in
cell_here w i k h = sym (cell_part (paste w (cell_base i) (words_of k) 16) i) ∙ ap cell_in (part_here w (cell_base i) (words_of k) 16 h refl)
