-- The returns of `encode_scm_rights`.
use mathlib.Core.Path.{◌≡◌, refl, sym, ◌∙◌, ap, ap₂}
use mathlib.Core.Bool.{Bool, true, false, cond}
use mathlib.Core.List.{List, [], ◌∷◌, ◌++◌}
use Prim.Native.Nat.{ℕ, ◌+◌, ◌-◌, ◌*◌, ◌/◌, ◌^◌, ◌<◌, ◌≤◌, min}
use native.Mathlib.Omega.{arith}
use borrow.Author.Tests.{lt-ltb, le-ltb, ltb-false}
use lib.Dec.{ltb}
use lib.IntN.{ℤ}
use lib.ListN.{length, drop, length-append}
use lib.Seq.{sets, sets-eq}
use Rattle.std.specs.Prelude.{Result, Ok, Err}
use Rattle.words.specs.declared.Errno.{Errno}
use Rattle.words.specs.declared.Errno.TheVariants.{SHORT}
use Rattle.le.proofs.Widths.{sets-append}
use Rattle.abi.specs.Size.{up8, rights, rights_of, rights_space_of}
use Rattle.abi.specs.declared.CmsgHdr.{CmsgHdr}
use Rattle.abi.proofs.Sizes.{up8_is, value, beyond}
use Rattle.syscall.specs.Control.{header_bytes, descriptor_bytes, encoding, capacity_of}
use Rattle.syscall.specs.Promise.{Encoded, encode_of, buffer_after}
use Rattle.syscall.proofs.Bytes.{length-header, length-descriptors}

-- how many bytes that fit make how many descriptors fit
pub room : (n k : ℕ) → k ≤ capacity_of n → 1 ≤ k → 16 + 4 * k ≤ n
unfolding capacity_of
room n k h s = go (ltb n 16) refl h
  where
    go : (t : Bool) → ltb n 16 ≡ t → k ≤ cond t 0 ((n - 16) / 4) → 16 + 4 * k ≤ n
    go true e l = absurd (omega arith)
    go false e l = omega (arith, ltb-false n 16 e)

-- the two definitions at a list that is not empty
pub answer_some : (ds : List ℤ) (b : List ℕ) → 1 ≤ length ds → encode_of ds b ≡ cond (ltb (capacity_of (length b)) (length ds)) (Err SHORT) (Ok (min (length b) (up8 (16 + 4 * length ds))))
unfolding encode_of
answer_some [] b h = absurd (omega arith)
answer_some (d ∷ ds) b h = refl

pub buffer_some : (ds : List ℤ) (b : List ℕ) → 1 ≤ length ds → buffer_after ds b ≡ cond (ltb (capacity_of (length b)) (length ds)) b (encoding ds ++ drop (16 + 4 * length ds) b)
unfolding buffer_after
buffer_some [] b h = absurd (omega arith)
buffer_some (d ∷ ds) b h = refl

pub none : (ds : List ℤ) (b : List ℕ) → length ds ≡ 0 → Encoded ds b b (Ok 0)
unfolding encode_of buffer_after
none [] b h = record { answer = refl; bytes = refl }
none (d ∷ ds) b h = absurd (omega arith)

pub too_many : (ds : List ℤ) (b : List ℕ) (c : ℕ) → c ≡ capacity_of (length b) → c < length ds → Encoded ds b b (Err SHORT)
too_many ds b c e h =
    let t = lt-ltb (capacity_of (length b)) (length ds) (omega arith) in
    record { answer = sym (answer_some ds b (omega arith) ∙ rw t); bytes = sym (buffer_some ds b (omega arith) ∙ rw t) }

module _ (ds : List ℤ) (b : List ℕ) (c : ℕ) (cap : c ≡ capacity_of (length b)) (fits : length ds ≤ c) (some : length ds ≡ 0 → ⊥) where
  pub enough : 16 + 4 * length ds ≤ length b
  enough = room (length b) (length ds) (omega arith) (omega arith)

  -- neither the header nor its space is refused
  pub header_held : length b < 2 ^ 63 → (m : Result CmsgHdr Errno) (x : Errno) (b' : List ℕ) (r : Result ℕ Errno) → m ≡ rights_of (length ds) → m ≡ Err x → Encoded ds b b' r
  unfolding rights_of
  header_held l m x b' r p q =
      let e = enough in
      let t = lt-ltb (16 + 4 * length ds) (2 ^ 64) (omega arith) in
      absurd (let z : ◌≡◌ {A = ℕ} 0 1 = cc (rw t at p) in omega arith)

  pub space_held : length b < 2 ^ 63 → (a : Result ℕ Errno) (x : Errno) (b' : List ℕ) (r : Result ℕ Errno) → a ≡ rights_space_of (length ds) → a ≡ Err x → Encoded ds b b' r
  unfolding rights_space_of
  space_held l a x b' r p q =
      let e = enough in
      let g = beyond (16 + up8 (4 * length ds)) x (sym q ∙ p) in
      absurd (omega (arith, g.1, up8_is (4 * length ds)))

  module _ (m : Result CmsgHdr Errno) (h : CmsgHdr) (made : m ≡ rights_of (length ds)) (is : m ≡ Ok h) (small : length b < 2 ^ 63) (b₁ b₂ : List ℕ)
      (header : b₁ ≡ sets b 0 (header_bytes h)) (rest : b₂ ≡ sets b₁ 16 (descriptor_bytes ds)) where
    header_is : h ≡ rights (16 + 4 * length ds)
    unfolding rights_of
    header_is =
        let e = enough in
        let t = lt-ltb (16 + 4 * length ds) (2 ^ 64) (omega arith) in
        cc (rw t at made)

    written : b₂ ≡ encoding ds ++ drop (16 + 4 * length ds) b
    unfolding encoding
    written =
        let e = enough in
        let H = header_bytes h in
        let n : 0 + length H ≡ 16 = omega (arith, length-header h) in
        let w : 0 + length (H ++ descriptor_bytes ds) ≡ 16 + 4 * length ds = omega (arith, length-append H (descriptor_bytes ds), length-header h, length-descriptors ds) in
        rest ∙ ap (λ (l : List ℕ). sets l 16 (descriptor_bytes ds)) header ∙ ap (λ (k : ℕ). sets (sets b 0 H) k (descriptor_bytes ds)) (sym n)
        ∙ sym (sets-append H (descriptor_bytes ds) b 0) ∙ sets-eq (H ++ descriptor_bytes ds) b 0 (omega arith)
        ∙ ap₂ (λ (x : CmsgHdr) (k : ℕ). header_bytes x ++ descriptor_bytes ds ++ drop k b) header_is w

    done : (r : ℕ) → r ≡ min (length b) (up8 (16 + 4 * length ds)) → Encoded ds b b₂ (Ok r)
    done r e =
        let t = le-ltb (capacity_of (length b)) (length ds) (omega arith) in
        record { answer = ap Ok e ∙ sym (answer_some ds b (omega arith) ∙ rw t); bytes = written ∙ sym (buffer_some ds b (omega arith) ∙ rw t) }

    module _ (a : Result ℕ Errno) (s : ℕ) (asked : a ≡ rights_space_of (length ds)) (told : a ≡ Ok s) where
      space_is : s ≡ up8 (16 + 4 * length ds)
      unfolding rights_space_of
      space_is = let v = value (16 + up8 (4 * length ds)) s (sym told ∙ asked) in omega (arith, up8_is (4 * length ds), up8_is (16 + 4 * length ds))

      pub lesser : (r : ℕ) → r ≡ min s (length b) → Encoded ds b b₂ (Ok r)
      lesser r l = let e = space_is in done r (omega arith)
