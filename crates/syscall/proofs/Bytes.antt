-- Headers and descriptors in bytes: how many bytes they are, and one more of them.
use mathlib.Core.Path.{◌≡◌, refl, sym, ◌∙◌, ap}
use mathlib.Core.List.{List, [], ◌∷◌, ◌++◌, append-nil, append_assoc}
use Prim.Native.Nat.{ℕ, zero, suc, ◌+◌, ◌*◌, ◌<◌, ◌≤◌}
use native.Mathlib.Omega.{arith}
use native.Mathlib.Numerals.{add-one}
use lib.IntN.{ℤ, pos}
use lib.ListN.{length, get_or, take, drop, set, length-append}
use lib.Seq.{sets, take-suc, take_all, length-take-le}
use mir.Syntax.{w32}
use mir.Val.{to_z, of_z, SFits}
use mir.ValLaws.{to_z-of_z}
use Rattle.laws.proofs.Lists.{put_next}
use Rattle.le.specs.Le.{le, bytes}
use Rattle.le.proofs.Widths.{length-bytes, sets-append}
use Rattle.abi.specs.declared.CmsgHdr.{CmsgHdr}
use Rattle.syscall.specs.Control.{descriptors_at, header_bytes, descriptor_bytes}

pub length-header : (h : CmsgHdr) → length (header_bytes h) ≡ 16
unfolding header_bytes
length-header h =
    let a = bytes 8 h.cmsg_len in
    let b = bytes 4 (of_z w32 h.cmsg_level) in
    let c = bytes 4 (of_z w32 h.cmsg_type) in
    omega (arith, length-append a (b ++ c), length-append b c, length-bytes 8 h.cmsg_len, length-bytes 4 (of_z w32 h.cmsg_level), length-bytes 4 (of_z w32 h.cmsg_type))

-- a header put into memory
pub header_put : (h : CmsgHdr) (l l₁ l₂ l₃ : List ℕ) → SFits w32 h.cmsg_level → SFits w32 h.cmsg_type → l₁ ≡ sets l 0 (bytes 8 h.cmsg_len)
    → l₂ ≡ sets l₁ 8 (bytes 4 (of_z w32 (to_z w32 (of_z w32 h.cmsg_level)))) → l₃ ≡ sets l₂ 12 (bytes 4 (of_z w32 (to_z w32 (of_z w32 h.cmsg_type))))
    → l₃ ≡ sets l 0 (header_bytes h)
unfolding header_bytes
header_put h l l₁ l₂ l₃ fl ft p q r =
    let a = bytes 8 h.cmsg_len in
    let b = bytes 4 (of_z w32 h.cmsg_level) in
    let c = bytes 4 (of_z w32 h.cmsg_type) in
    let m : 0 + length a ≡ 8 = omega (arith, length-bytes 8 h.cmsg_len) in
    let n : 8 + length b ≡ 12 = omega (arith, length-bytes 4 (of_z w32 h.cmsg_level)) in
    r ∙ ap (λ (x : ℤ). sets l₂ 12 (bytes 4 (of_z w32 x))) (to_z-of_z w32 h.cmsg_type ft)
    ∙ ap (λ (x : List ℕ). sets x 12 c) (q ∙ ap (λ (x : ℤ). sets l₁ 8 (bytes 4 (of_z w32 x))) (to_z-of_z w32 h.cmsg_level fl) ∙ ap (λ (x : List ℕ). sets x 8 b) p)
    ∙ ap (λ (k : ℕ). sets (sets (sets l 0 a) 8 b) k c) (sym n) ∙ sym (sets-append b c (sets l 0 a) 8)
    ∙ ap (λ (k : ℕ). sets (sets l 0 a) k (b ++ c)) (sym m) ∙ sym (sets-append a (b ++ c) l 0)

pub length-descriptors : (ds : List ℤ) → length (descriptor_bytes ds) ≡ 4 * length ds
unfolding descriptor_bytes
length-descriptors [] = refl
length-descriptors (d ∷ ds) = omega (arith, length-append (bytes 4 (of_z w32 d)) (descriptor_bytes ds), length-bytes 4 (of_z w32 d), length-descriptors ds)

pub length-descriptors_at : (k : ℕ) (b : List ℕ) (p : ℕ) → length (descriptors_at k b p) ≡ k
unfolding descriptors_at
length-descriptors_at zero b p = refl
length-descriptors_at (suc k) b p = ap suc (length-descriptors_at k b (p + 4))

-- one descriptor more at the end
at_snoc : (k : ℕ) (b : List ℕ) (p : ℕ) → descriptors_at (k + 1) b p ≡ descriptors_at k b p ++ (to_z w32 (le 4 b (p + 4 * k)) ∷ [])
unfolding descriptors_at
at_snoc zero b p = let e : p + 4 * 0 ≡ p = omega arith in rw e
at_snoc (suc k) b p =
    let e : p + 4 * suc k ≡ p + 4 + 4 * k = omega arith in
    let f : suc k + 1 ≡ suc (k + 1) = omega arith in
    rw (f, e) (ap (λ (l : List ℤ). to_z w32 (le 4 b p) ∷ l) (at_snoc k b (p + 4)))

bytes-append : (xs ys : List ℤ) → descriptor_bytes (xs ++ ys) ≡ descriptor_bytes xs ++ descriptor_bytes ys
unfolding descriptor_bytes
bytes-append [] ys = refl
bytes-append (x ∷ xs) ys = rw (bytes-append xs ys) (sym (append_assoc (bytes 4 (of_z w32 x)) (descriptor_bytes xs) (descriptor_bytes ys)))

-- ── The loops ──

-- a signed number comes out of memory, and goes into it, as the reading of its bits
pub read_next : (s : List ℕ) (f₀ f : List ℤ) (i : ℕ) (r : ℤ) → SFits w32 r → i < length f₀ → f ≡ descriptors_at i s 0 ++ drop i f₀ → r ≡ to_z w32 (le 4 s (4 * i))
    → set f i (to_z w32 (of_z w32 r)) ≡ descriptors_at (i + 1) s 0 ++ drop (i + 1) f₀
read_next s f₀ f i r fits h so e =
    let z : 4 * i ≡ 0 + 4 * i = omega arith in
    ap (set f i) (to_z-of_z w32 r fits) ∙ ap (λ (l : List ℤ). set l i r) so ∙ put_next (descriptors_at i s 0) f₀ i r (length-descriptors_at i s 0) h
    ∙ ap (λ (l : List ℤ). l ++ drop (i + 1) f₀) (ap (λ (x : ℤ). descriptors_at i s 0 ++ (x ∷ [])) (e ∙ ap (λ (k : ℕ). to_z w32 (le 4 s k)) z) ∙ sym (at_snoc i s 0))

pub write_next : (ds : List ℤ) (b₀ b b' : List ℕ) (i : ℕ) → SFits w32 (get_or ds i (pos 0)) → i < length ds → b ≡ sets b₀ 16 (descriptor_bytes (take i ds))
    → b' ≡ sets b (16 + 4 * i) (bytes 4 (of_z w32 (to_z w32 (of_z w32 (get_or ds i (pos 0)))))) → b' ≡ sets b₀ 16 (descriptor_bytes (take (i + 1) ds))
unfolding descriptor_bytes
write_next ds b₀ b b' i fits h so e =
    let d = get_or ds i (pos 0) in
    let more : descriptor_bytes (take (i + 1) ds) ≡ descriptor_bytes (take i ds) ++ bytes 4 (of_z w32 d) =
    ap (λ (k : ℕ). descriptor_bytes (take k ds)) (add-one i) ∙ ap descriptor_bytes (take-suc ds i (pos 0) h) ∙ bytes-append (take i ds) (d ∷ [])
    ∙ ap (λ (l : List ℕ). descriptor_bytes (take i ds) ++ l) (append-nil (bytes 4 (of_z w32 d))) in
    let n : length (descriptor_bytes (take i ds)) ≡ 4 * i = length-descriptors (take i ds) ∙ ap (λ (k : ℕ). 4 * k) (length-take-le i ds (omega arith)) in
    e ∙ ap (λ (x : ℤ). sets b (16 + 4 * i) (bytes 4 (of_z w32 x))) (to_z-of_z w32 d fits) ∙ ap (λ (l : List ℕ). sets l (16 + 4 * i) (bytes 4 (of_z w32 d))) so
    ∙ ap (λ (k : ℕ). sets (sets b₀ 16 (descriptor_bytes (take i ds))) (16 + k) (bytes 4 (of_z w32 d))) (sym n)
    ∙ sym (sets-append (descriptor_bytes (take i ds)) (bytes 4 (of_z w32 d)) b₀ 16) ∙ ap (sets b₀ 16) (sym more)

pub written_all : (ds : List ℤ) (b₀ b : List ℕ) (i : ℕ) → length ds ≤ i → b ≡ sets b₀ 16 (descriptor_bytes (take i ds)) → b ≡ sets b₀ 16 (descriptor_bytes ds)
written_all ds b₀ b i h so = so ∙ ap (λ (l : List ℤ). sets b₀ 16 (descriptor_bytes l)) (take_all i ds h)

pub read_all : (s : List ℕ) (f₀ f : List ℤ) (n i : ℕ) → n ≤ i → i ≤ n → f ≡ descriptors_at i s 0 ++ drop i f₀ → f ≡ descriptors_at n s 0 ++ drop n f₀
read_all s f₀ f n i h k so = let e : i ≡ n = omega arith in so ∙ ap (λ (m : ℕ). descriptors_at m s 0 ++ drop m f₀) e

pub descriptor_put : (l l' : List ℕ) (at : ℕ) (d r : ℤ) → SFits w32 r → r ≡ d → l' ≡ sets l at (bytes 4 (of_z w32 (to_z w32 (of_z w32 r)))) → l' ≡ sets l at (bytes 4 (of_z w32 d))
descriptor_put l l' at d r fits e p = p ∙ ap (λ (x : ℤ). sets l at (bytes 4 (of_z w32 x))) (to_z-of_z w32 r fits ∙ e)
