-- The laws of little-endian numbers, each once over the width.
use mathlib.Core.Path.{◌≡◌, refl, sym, ◌∙◌, ap, ap₂}
use mathlib.Core.List.{List, [], ◌∷◌, ◌++◌}
use Prim.Native.Nat.{ℕ, zero, suc, ◌+◌, ◌-◌, ◌*◌, ◌/◌, ◌%◌, ◌^◌, ◌<◌, ◌≤◌}
use native.Mathlib.Omega.{arith}
use native.Mathlib.Nat.{pow-suc, pow-succ', mul_assoc, mul_comm, suc-add, zero-add, add-zero, add-suc, div-div-eq-div-mul}
use native.Mathlib.Numerals.{add-one}
use lib.Arith.{mod-mul}
use lib.Dec.{lit<}
use lib.IntN.{ℤ}
use lib.ListN.{length, get_or, take, drop, set, length-set}
use lib.Seq.{sets, sets-eq, drop-cons, drop-drop, get_or-append-add, get_or-take, get_or-drop, get_or-set_same, get_or-set_other}
use mir.Syntax.{w32}
use lib.Signed.{mag}
use mir.Val.{to_z, of_z, SFits, hbits}
use mir.ValLaws.{to_z-of_z, of_z_fits}
use Rattle.std.specs.Int.{sum_through, byte_worth, byte_at, bytes_low_first}
use Rattle.std.proofs.Common.{append_assoc}
use Rattle.std.specs.Prelude.{slice_index}
use Rattle.std.specs.Array.{IsFirstChunk}
use borrow.Rule.Slice.PartMut.{put_mid}
use Rattle.le.specs.Le.{le, bytes}

-- a number of j + k bytes is its low j bytes and, above them, its high k
pub le_split : (j k : ℕ) (l : List ℕ) (p : ℕ) → le (j + k) l p ≡ le j l p + 256 ^ j * le k l (p + j)
unfolding le
le_split zero k l p = rw (zero-add k, add-zero p) (omega arith)
le_split (suc j) k l p =
    let e : p + suc j ≡ p + 1 + j = omega arith in
    let more : 256 ^ suc j * le k l (p + 1 + j) ≡ 256 * (256 ^ j * le k l (p + 1 + j)) = rw pow-succ' (mul_assoc 256 (256 ^ j) (le k l (p + 1 + j))) in
    rw (suc-add, le_split j k l (p + 1), e, more) (omega arith)

-- and so are its bytes
pub bytes_split : (j k v : ℕ) → bytes (j + k) v ≡ bytes j v ++ bytes k (v / 256 ^ j)
unfolding bytes
bytes_split zero k v = let e : v / 1 ≡ v = omega arith in rw (zero-add k, e)
bytes_split (suc j) k v =
    let e : v / 256 / 256 ^ j ≡ v / 256 ^ suc j = rw pow-succ' (div-div-eq-div-mul v 256 (256 ^ j)) in
    rw (suc-add, bytes_split j k (v / 256), e)

pub length-bytes : (k v : ℕ) → length (bytes k v) ≡ k
unfolding bytes
length-bytes zero v = refl
length-bytes (suc k) v = ap suc (length-bytes k (v / 256))

-- two runs of stores, one behind the other, are one
pub sets-append : (xs ys l : List ℕ) (p : ℕ) → sets l p (xs ++ ys) ≡ sets (sets l p xs) (p + length xs) ys
sets-append [] ys l p = rw add-zero
sets-append (x ∷ xs) ys l p = rw (add-suc, ← suc-add, sets-append xs ys (set l p x) (suc p))

positive : (k : ℕ) → 0 < 256 ^ k
positive zero = omega arith
positive (suc k) = let h = positive k in rw pow-succ' (omega arith)

-- the low bytes do not see what lies above them
bytes_low : (k v : ℕ) → bytes k (v % 256 ^ k) ≡ bytes k v
unfolding bytes
bytes_low zero v = refl
bytes_low (suc k) v =
    let e : v % 256 ^ suc k ≡ v / 256 % 256 ^ k * 256 + v % 256 = rw pow-suc (mod-mul v (positive k) (lit< tt)) in
    let low : v % 256 ^ suc k % 256 ≡ v % 256 = omega arith in
    let high : v % 256 ^ suc k / 256 ≡ v / 256 % 256 ^ k = omega arith in
    rw (low, high, bytes_low k (v / 256))

-- a number is stored by its two halves
pub halves : (j k v : ℕ) (l : List ℕ) (p : ℕ) → sets (sets l p (bytes j (v % 256 ^ j))) (p + j) (bytes k (v / 256 ^ j)) ≡ sets l p (bytes (j + k) v)
halves j k v l p =
    let e : p + j ≡ p + length (bytes j v) = ap (λ (n : ℕ). p + n) (sym (length-bytes j v)) in
    rw (bytes_low j v, e, bytes_split j k v) (sym (sets-append (bytes j v) (bytes k (v / 256 ^ j)) l p))

-- ── What is stored is read back ──

-- what lies below a run of stores, and what lies above it, is as it was
pub below : (vs l : List ℕ) (p i : ℕ) → i < p → get_or (sets l p vs) i 0 ≡ get_or l i 0
below [] l p i h = refl
below (v ∷ vs) l p i h = below vs (set l p v) (suc p) i (omega arith) ∙ get_or-set_other l p i v 0 (λ e. omega arith)

pub above : (vs l : List ℕ) (p i : ℕ) → p + length vs ≤ i → get_or (sets l p vs) i 0 ≡ get_or l i 0
above [] l p i h = refl
above (v ∷ vs) l p i h = above vs (set l p v) (suc p) i (omega arith) ∙ get_or-set_other l p i v 0 (λ e. omega arith)

-- so is a number that lies there
pub le_below : (k : ℕ) (vs l : List ℕ) (p q : ℕ) → q + k ≤ p → le k (sets l p vs) q ≡ le k l q
unfolding le
le_below zero vs l p q h = refl
le_below (suc k) vs l p q h = rw (below vs l p q (omega arith), le_below k vs l p (q + 1) (omega arith))

pub le_above : (k : ℕ) (vs l : List ℕ) (p q : ℕ) → p + length vs ≤ q → le k (sets l p vs) q ≡ le k l q
unfolding le
le_above zero vs l p q h = refl
le_above (suc k) vs l p q h = rw (above vs l p q h, le_above k vs l p (q + 1) (omega arith))

-- k bytes of v, stored at p and read there: v, where k bytes hold it
pub back : (k v : ℕ) (l : List ℕ) (p : ℕ) → v < 256 ^ k → p + k ≤ length l → le k (sets l p (bytes k v)) p ≡ v
unfolding le bytes
back zero v l p f h = omega arith
back (suc k) v l p f h =
    let n : v < 256 * 256 ^ k = rw pow-succ' at f in
    let first : get_or (sets (set l p (v % 256)) (suc p) (bytes k (v / 256))) p 0 ≡ v % 256 =
    below (bytes k (v / 256)) (set l p (v % 256)) (suc p) p (omega arith) ∙ get_or-set_same l p (v % 256) 0 (omega arith) in
    let rest : le k (sets (set l p (v % 256)) (suc p) (bytes k (v / 256))) (suc p) ≡ v / 256 =
    back k (v / 256) (set l p (v % 256)) (suc p) (omega arith) (simp length-set (omega arith)) in
    rw (add-one p, first, rest) (omega arith)

-- a signed number too
pub back_signed : (z : ℤ) (l : List ℕ) (p : ℕ) → SFits w32 z → p + 4 ≤ length l → to_z w32 (le 4 (sets l p (bytes 4 (of_z w32 z))) p) ≡ z
back_signed z l p s h = ap (to_z w32) (back 4 (of_z w32 z) l p (of_z_fits w32 z s).fits h) ∙ to_z-of_z w32 z s

-- ── A number in a part ──

pub le_part : (k : ℕ) (l : List ℕ) (a m p : ℕ) → p + k ≤ m → le k (take m (drop a l)) p ≡ le k l (a + p)
unfolding le
le_part zero l a m p h = refl
le_part (suc k) l a m p h =
    let e : a + (p + 1) ≡ a + p + 1 = omega arith in
    rw (get_or-take m (drop a l) p 0 (omega arith), get_or-drop a l p 0, le_part k l a m (p + 1) (omega arith), e)

-- ── Bytes that are bytes ──

-- each number of the list is below 256
abbrev pub AreBytes : List ℕ → Type 0
AreBytes l = (i : ℕ) → get_or l i 0 < 256

pub le_fits : (k : ℕ) (l : List ℕ) (p : ℕ) → AreBytes l → le k l p < 256 ^ k
unfolding le
le_fits zero l p b = omega arith
le_fits (suc k) l p b = let h = le_fits k l (p + 1) b in let f = b p in rw pow-succ' (omega arith)

-- a number's bytes are those that it was read from
pub bytes_le : (k : ℕ) (l : List ℕ) (p : ℕ) → AreBytes l → p + k ≤ length l → bytes k (le k l p) ≡ take k (drop p l)
unfolding le bytes
bytes_le zero l p b h = refl
bytes_le (suc k) l p b h =
    let f = b p in
    let low : (get_or l p 0 + 256 * le k l (p + 1)) % 256 ≡ get_or l p 0 = omega arith in
    let high : (get_or l p 0 + 256 * le k l (p + 1)) / 256 ≡ le k l (p + 1) = omega arith in
    rw (low, high, bytes_le k l (p + 1) b (omega arith), drop-cons l p 0 (omega arith), add-one p)

-- ── A number in a list that is put together ──

pub le_shift : (k : ℕ) (xs l : List ℕ) (p : ℕ) → le k (xs ++ l) (length xs + p) ≡ le k l p
unfolding le
le_shift zero xs l p = refl
le_shift (suc k) xs l p =
    let e : length xs + p + 1 ≡ length xs + (p + 1) = omega arith in
    rw (get_or-append-add xs l p 0, e, le_shift k xs l (p + 1))

front : (k v : ℕ) (l : List ℕ) → v < 256 ^ k → le k (bytes k v ++ l) 0 ≡ v
unfolding le bytes
front zero v l h = omega arith
front (suc k) v l h =
    let n : v < 256 * 256 ^ k = rw pow-succ' at h in
    let rest : le k ((v % 256) ∷ (bytes k (v / 256) ++ l)) 1 ≡ v / 256 = le_shift k ((v % 256) ∷ []) (bytes k (v / 256) ++ l) 0 ∙ front k (v / 256) l (omega arith) in
    rw rest (omega arith)

-- k bytes of v behind xs
pub le_at : (k v : ℕ) (xs l : List ℕ) (p : ℕ) → v < 256 ^ k → length xs ≡ p → le k (xs ++ (bytes k v ++ l)) p ≡ v
le_at k v xs l p h e =
    let z : p ≡ length xs + 0 = omega arith in
    ap (le k (xs ++ (bytes k v ++ l))) z ∙ le_shift k xs (bytes k v ++ l) 0 ∙ front k v l h

-- ── What std's methods of the numbers read and write ──

pub from_le_bytes-is : (k : ℕ) (xs : List ℕ) → sum_through (λ i. byte_worth i (slice_index xs i)) k ≡ le (suc k) xs 0
unfolding le
from_le_bytes-is zero xs = omega arith
from_le_bytes-is (suc k) xs =
    let one : le 1 xs (0 + suc k) ≡ slice_index xs (suc k) = rw zero-add (omega arith) in
    let e : le (suc k) xs 0 + 256 ^ suc k * le 1 xs (0 + suc k) ≡ le (suc (suc k)) xs 0 = sym (le_split (suc k) 1 xs 0) ∙ rw add-one in
    rw (from_le_bytes-is k xs, ← e, one, mul_comm (256 ^ suc k))

low_bytes : (k i n : ℕ) → bytes_low_first i k n ≡ bytes k (n / 256 ^ i)
unfolding bytes
low_bytes zero i n = refl
low_bytes (suc k) i n = ap₂ (λ (x : ℕ) (xs : List ℕ). x ∷ xs) (low i) (low_bytes k (suc i) n ∙ ap (bytes k) high)
  where
    low : (i : ℕ) → byte_at i n ≡ n / 256 ^ i % 256
    low zero = omega arith
    low (suc i) = refl

    high : n / 256 ^ suc i ≡ n / 256 ^ i / 256
    high = rw pow-suc (sym (div-div-eq-div-mul n (256 ^ i) 256))

pub to_le_bytes-is : (k n : ℕ) → bytes_low_first 0 k n ≡ bytes k n
to_le_bytes-is k n = low_bytes k 0 n ∙ ap (bytes k) (omega arith)

-- what the library reads and stores, as these
pub reads : (k : ℕ) (xs : List ℕ) (r : ℕ) → r ≡ sum_through (λ i. byte_worth i (slice_index xs i)) k → r ≡ le (suc k) xs 0
reads k xs r e = e ∙ from_le_bytes-is k xs

pub reads_signed : (xs : List ℕ) (z : ℤ) → mag z < 2 ^ hbits w32 → z ≡ to_z w32 (sum_through (λ i. byte_worth i (slice_index xs i)) 3) → to_z w32 (of_z w32 z) ≡ to_z w32 (le 4 xs 0)
reads_signed xs z f e = to_z-of_z w32 z (record { sfits = f }) ∙ e ∙ ap (to_z w32) (from_le_bytes-is 3 xs)

pub stores : (k n : ℕ) (r : List ℕ) → r ≡ bytes_low_first 0 k n → r ≡ bytes k n
stores k n r e = e ∙ to_le_bytes-is k n

-- ── A part of a list, read and written whole ──

-- the first k elements of what lies from place p on
pub le_first : (k : ℕ) (s xs : List ℕ) (p : ℕ) → p + k ≤ length s → IsFirstChunk (take (length s - p) (drop p s)) xs k → le k xs 0 ≡ le k s p
le_first k s xs p h e =
    rw e.same (le_part k (take (length s - p) (drop p s)) 0 k 0 (omega arith) ∙ le_part k s p (length s - p) 0 (omega arith) ∙ rw add-zero)

pub put_mid-sets : (s vs : List ℕ) (p n : ℕ) → p + n ≤ length s → length vs ≡ n → put_mid p (p + n - p) s vs ≡ sets s p vs
put_mid-sets s vs p n h e =
    let z : p + n - p ≡ n = omega arith in
    rw (sets-eq vs s p (omega arith), z, e, append_assoc, drop-drop n p s)
