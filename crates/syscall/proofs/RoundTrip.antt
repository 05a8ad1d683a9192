-- Encoder and decoder: what is encoded is read back, and what is read is encoded the same.
use mathlib.Core.Path.{◌≡◌, refl, sym, ◌∙◌, ap, ap₂}
use mathlib.Core.Bool.{Bool, true, false, cond}
use mathlib.Core.List.{List, [], ◌∷◌, ◌++◌, append_assoc}
use Prim.Native.Nat.{ℕ, zero, suc, ◌+◌, ◌-◌, ◌*◌, ◌/◌, ◌%◌, ◌^◌, ◌<◌, ◌≤◌, min}
use native.Mathlib.Omega.{arith}
use borrow.Author.Tests.{eq-eqb, ne_eqb, le-ltb, ltb-false, eqb-true}
use lib.Dec.{ltb}
use lib.IntN.{ℤ, pos, negsuc}
use lib.ListN.{length, take, drop, length-append}
use lib.Seq.{take-append-add, take-add, drop-drop}
use mir.Syntax.{w32}
use mir.Val.{to_z, of_z, SFits}
use mir.ValLaws.{to_z-of_z, of_z-to_z, of_z_fits}
use Rattle.std.specs.Prelude.{Option, Some, None, Ok}
use Rattle.laws.specs.All.{All}
use Rattle.words.specs.Integers.{equals}
use Rattle.words.specs.declared.Errno.TheVariants.{EINVAL}
use Rattle.le.specs.Le.{le, bytes}
use Rattle.le.proofs.Widths.{length-bytes, le_at, AreBytes, le_fits, bytes_le}
use Rattle.abi.specs.Size.{up8, rights, rights_count_of}
use Rattle.abi.specs.declared.CmsgHdr.{CmsgHdr}
use Rattle.abi.proofs.Sizes.{up8_is}
use Rattle.abi.proofs.Headers.{Counted, count_says}
use Rattle.syscall.specs.Control.{Control, header_at, descriptors_at, counted, meaning, header_bytes, descriptor_bytes, encoding, capacity_of}
use Rattle.syscall.specs.Promise.{encode_of, buffer_after}
use Rattle.syscall.proofs.Bytes.{length-header, length-descriptors, length-descriptors_at}
use Rattle.syscall.proofs.Encoding.{room, answer_some, buffer_some}

-- each is an i32
abbrev pub AreDescriptors : List ℤ → Type 0
AreDescriptors ds = All (SFits w32) ds

-- ── An encoding is read back ──

descriptors-at : (ds : List ℤ) (xs s : List ℕ) (p : ℕ) → AreDescriptors ds → length xs ≡ p → descriptors_at (length ds) (xs ++ (descriptor_bytes ds ++ s)) p ≡ ds
unfolding descriptors_at descriptor_bytes
descriptors-at [] xs s p f e = refl
descriptors-at (d ∷ ds) xs s p f e =
    let b = bytes 4 (of_z w32 d) in
    let n : length (xs ++ b) ≡ p + 4 = omega (arith, length-append xs b, length-bytes 4 (of_z w32 d)) in
    let first : le 4 (xs ++ (b ++ (descriptor_bytes ds ++ s))) p ≡ of_z w32 d = le_at 4 (of_z w32 d) xs (descriptor_bytes ds ++ s) p (of_z_fits w32 d f.0).fits e in
    ap (λ (l : List ℕ). descriptors_at (length (d ∷ ds)) (xs ++ l) p) (append_assoc b (descriptor_bytes ds) s)
    ∙ ap₂ (λ (x : ℤ) (l : List ℤ). x ∷ l) (ap (to_z w32) first ∙ to_z-of_z w32 d f.0)
    (ap (λ (l : List ℕ). descriptors_at (length ds) l (p + 4)) (sym (append_assoc xs b (descriptor_bytes ds ++ s))) ∙ descriptors-at ds (xs ++ b) s (p + 4) f.1 n)

-- the header that the encoder writes is the one that `scm_rights` makes
pub header_back : (ds : List ℤ) (s : List ℕ) → 16 + 4 * length ds < 2 ^ 64 → header_at (encoding ds ++ s) ≡ rights (16 + 4 * length ds)
unfolding header_at encoding header_bytes
header_back ds s h =
    let n = 16 + 4 * length ds in
    let a = bytes 8 n in
    let b = bytes 4 1 in
    let D = descriptor_bytes ds in
    let whole : a ++ (b ++ b) ++ D ++ s ≡ a ++ (b ++ (b ++ (D ++ s))) = simp append_assoc in
    let len : le 8 (a ++ (b ++ (b ++ (D ++ s)))) 0 ≡ n = le_at 8 n [] (b ++ (b ++ (D ++ s))) 0 h refl in
    let level : le 4 (a ++ (b ++ (b ++ (D ++ s)))) 8 ≡ 1 = le_at 4 1 a (b ++ (D ++ s)) 8 (omega arith) (length-bytes 8 n) in
    let twelve : length (a ++ b) ≡ 12 = omega (arith, length-append a b, length-bytes 8 n, length-bytes 4 1) in
    let type : le 4 (a ++ (b ++ (b ++ (D ++ s)))) 12 ≡ 1 = ap (λ (l : List ℕ). le 4 l 12) (sym (append_assoc a b (b ++ (D ++ s)))) ∙ le_at 4 1 (a ++ b) (D ++ s) 12 (omega arith) twelve in
    rw (whole, len, level, type)

all_back : (ds : List ℤ) (s : List ℕ) → AreDescriptors ds → descriptors_at (length ds) (encoding ds ++ s) 16 ≡ ds
unfolding encoding
all_back ds s f =
    let h = header_bytes (rights (16 + 4 * length ds)) in
    ap (λ (l : List ℕ). descriptors_at (length ds) l 16) (append_assoc h (descriptor_bytes ds) s) ∙ descriptors-at ds h s 16 f (length-header (rights (16 + 4 * length ds)))

count_back : (k n : ℕ) → 16 + 4 * k ≤ n → rights_count_of (rights (16 + 4 * k)) n ≡ Some k
unfolding rights_count_of equals
count_back k n h =
    let whole : (16 + 4 * k - 16) % 4 ≡ 0 = omega arith in
    let is : (16 + 4 * k - 16) / 4 ≡ k = omega arith in
    rw (le-ltb n (16 + 4 * k) h, le-ltb (16 + 4 * k) 16 (omega arith), eq-eqb ((16 + 4 * k - 16) % 4) 0 whole) (ap Some is)

length-encoding : (ds : List ℤ) → length (encoding ds) ≡ 16 + 4 * length ds
unfolding encoding
length-encoding ds =
    let h = header_bytes (rights (16 + 4 * length ds)) in
    omega (arith, length-append h (descriptor_bytes ds), length-header (rights (16 + 4 * length ds)), length-descriptors ds)

-- an encoding means its descriptors, whatever stands behind it
pub encoding_back : (ds : List ℤ) (s : List ℕ) → AreDescriptors ds → 16 + 4 * length ds < 2 ^ 64 → meaning (encoding ds ++ s) ≡ Control.descriptors ds
unfolding meaning counted
encoding_back ds s f h =
    let c = encoding ds ++ s in
    let n : length c ≡ 16 + 4 * length ds + length s = omega (arith, length-append (encoding ds) s, length-encoding ds) in
    let long : 16 ≤ length c = omega arith in
    let told : rights_count_of (header_at c) (length c) ≡ Some (length ds) = ap (λ (x : CmsgHdr). rights_count_of x (length c)) (header_back ds s h) ∙ count_back (length ds) (length c) (omega arith) in
    rw (ne_eqb (length c) 0 (λ e. omega arith), le-ltb (length c) 16 long, told) (ap Control.descriptors (all_back ds s f))

-- "parsing that many bytes returns the k": the first bytes of the buffer, as many as the encoder answered
back_some : (ds : List ℤ) (b : List ℕ) (r : ℕ) → 1 ≤ length ds → AreDescriptors ds → length b < 2 ^ 63 → length ds ≤ capacity_of (length b) → encode_of ds b ≡ Ok r
    → meaning (take r (buffer_after ds b)) ≡ Control.descriptors ds
back_some ds b r some f small fits e =
    let n = 16 + 4 * length ds in
    let held : n ≤ length b = room (length b) (length ds) fits some in
    let t = le-ltb (capacity_of (length b)) (length ds) fits in
    let answer : r ≡ min (length b) (up8 n) = cc (rw t at (answer_some ds b some)) in
    let buffer : buffer_after ds b ≡ encoding ds ++ drop n b = rw t at (buffer_some ds b some) in
    let enough : r ≡ length (encoding ds) + (r - n) = omega (arith, length-encoding ds, up8_is n) in
    let first : take r (encoding ds ++ drop n b) ≡ encoding ds ++ take (r - n) (drop n b) =
    ap (λ (k : ℕ). take k (encoding ds ++ drop n b)) enough ∙ take-append-add (encoding ds) (drop n b) (r - n) in
    ap (λ (l : List ℕ). meaning (take r l)) buffer ∙ ap meaning first ∙ encoding_back ds (take (r - n) (drop n b)) f (omega arith)

pub back : (ds : List ℤ) (b : List ℕ) (r : ℕ) → AreDescriptors ds → length b < 2 ^ 63 → length ds ≤ capacity_of (length b) → encode_of ds b ≡ Ok r
    → meaning (take r (buffer_after ds b)) ≡ Control.descriptors ds
unfolding encode_of buffer_after meaning
back [] b r f small fits e = let z : r ≡ 0 = cc in rw z
back (d ∷ ds) b r f small fits e = back_some (d ∷ ds) b r (omega arith) f small fits e

-- ── What is read is encoded the same ──

-- an accepted buffer that is not empty: its header, its data
is_one : (z : ℤ) → equals z 1 ≡ true → z ≡ pos 1
unfolding equals
is_one (pos n) e = ap pos (eqb-true n 1 e)
is_one (negsuc n) e = absurd (let z : ◌≡◌ {A = Bool} true false = sym e in let y : ◌≡◌ {A = ℕ} 0 1 = cc in omega arith)

header_is : (h : CmsgHdr) (n k : ℕ) → Counted h n k → h ≡ rights (16 + 4 * k)
header_is h n k c =
    let l : h.cmsg_len ≡ 16 + 4 * k = omega arith in
    let a = is_one h.cmsg_level c.level in
    let t = is_one h.cmsg_type c.type in
    λ i. record { cmsg_len = l i; cmsg_level = a i; cmsg_type = t i }

module _ (b : List ℕ) (are : AreBytes b) where
  bits_back : (p : ℕ) → p + 4 ≤ length b → bytes 4 (of_z w32 (to_z w32 (le 4 b p))) ≡ take 4 (drop p b)
  bits_back p h = ap (bytes 4) (of_z-to_z w32 (le 4 b p) (record { fits = le_fits 4 b p are })) ∙ bytes_le 4 b p are h

  header-bytes : 16 ≤ length b → header_bytes (header_at b) ≡ take 16 b
  unfolding header_bytes header_at
  header-bytes h =
      ap₂ (λ (x y : List ℕ). x ++ y) (bytes_le 8 b 0 are (omega arith)) (ap₂ (λ (x y : List ℕ). x ++ y) (bits_back 8 (omega arith)) (bits_back 12 (omega arith)))
      ∙ ap (λ (l : List ℕ). take 8 b ++ l) (ap (λ (l : List ℕ). take 4 (drop 8 b) ++ take 4 l) (sym (drop-drop 4 8 b)) ∙ sym (take-add 4 4 (drop 8 b))) ∙ sym (take-add 8 8 b)

  descriptor-bytes : (k p : ℕ) → p + 4 * k ≤ length b → descriptor_bytes (descriptors_at k b p) ≡ take (4 * k) (drop p b)
  unfolding descriptor_bytes descriptors_at
  descriptor-bytes zero p h = refl
  descriptor-bytes (suc k) p h =
      let e : 4 * suc k ≡ 4 + 4 * k = omega arith in
      ap₂ (λ (x y : List ℕ). x ++ y) (bits_back p (omega arith)) (descriptor-bytes k (p + 4) (omega arith))
      ∙ ap (λ (l : List ℕ). take 4 (drop p b) ++ take (4 * k) l) (sym (drop-drop 4 p b)) ∙ sym (take-add 4 (4 * k) (drop p b)) ∙ ap (λ (n : ℕ). take n (drop p b)) (sym e)

  -- a buffer that says k descriptors
  encodes : (k : ℕ) → 16 ≤ length b → Counted (header_at b) (length b) k → encoding (descriptors_at k b 16) ≡ take (16 + 4 * k) b
  unfolding encoding
  encodes k h c =
      let n : length (descriptors_at k b 16) ≡ k = length-descriptors_at k b 16 in
      let is : rights (16 + 4 * length (descriptors_at k b 16)) ≡ header_at b = ap (λ (m : ℕ). rights (16 + 4 * m)) n ∙ sym (header_is (header_at b) (length b) k c) in
      ap₂ (λ (x y : List ℕ). x ++ y) (ap header_bytes is ∙ header-bytes h) (descriptor-bytes k 16 (omega arith)) ∙ sym (take-add 16 (4 * k) b)

  -- what the buffer means decides which case it is
  says : (ds : List ℤ) → (length b ≡ 0 → ⊥) → meaning b ≡ Control.descriptors ds → encoding ds ≡ take (16 + 4 * length ds) b
  unfolding meaning counted
  says ds some e = go (ltb (length b) 16) refl (rights_count_of (header_at b) (length b)) refl (rw (ne_eqb (length b) 0 some) at e)
    where
      go : (t : Bool) → ltb (length b) 16 ≡ t → (c : Option ℕ) → rights_count_of (header_at b) (length b) ≡ c
          → cond t (Control.refused EINVAL) (counted c b) ≡ Control.descriptors ds → encoding ds ≡ take (16 + 4 * length ds) b
      go true p c q r = absurd (let z : ◌≡◌ {A = ℕ} 0 1 = cc in omega arith)
      go false p None q r = absurd (let z : ◌≡◌ {A = ℕ} 0 1 = cc in omega arith)
      go false p (Some k) q r =
          let is : descriptors_at k b 16 ≡ ds = cc in
          let n : length ds ≡ k = ap length (sym is) ∙ length-descriptors_at k b 16 in
          ap encoding (sym is) ∙ encodes k (ltb-false (length b) 16 p) (count_says (header_at b) (length b) k (sym q)) ∙ ap (λ (m : ℕ). take (16 + 4 * m) b) (sym n)

-- an accepted buffer re-encodes to the same header and data
pub again : (b : List ℕ) (ds : List ℤ) → AreBytes b → (length b ≡ 0 → ⊥) → meaning b ≡ Control.descriptors ds → encoding ds ≡ take (16 + 4 * length ds) b
again b ds are some e = says b are ds some e
