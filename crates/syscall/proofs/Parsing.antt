-- The returns of `parse_scm_rights`.
use mathlib.Core.Path.{◌≡◌, refl, sym, ◌∙◌, ap, ap₂}
use mathlib.Core.List.{List, ◌∷◌, ◌++◌}
use Prim.Native.Nat.{ℕ, zero, suc, ◌+◌, ◌-◌, ◌*◌, ◌/◌, ◌<◌, ◌≤◌}
use native.Mathlib.Omega.{arith}
use borrow.Author.Tests.{eq-eqb, ne_eqb, lt-ltb, le-ltb}
use lib.IntN.{ℤ}
use lib.ListN.{length, take, drop, length-take, length-drop}
use mir.Syntax.{w32}
use mir.Val.{to_z}
use Rattle.std.specs.Prelude.{Option, Some, None, Ok, Err}
use Rattle.words.specs.declared.Errno.TheVariants.{EINVAL, SHORT}
use Rattle.le.proofs.Widths.{le_part}
use Rattle.abi.specs.Size.{rights_count_of}
use Rattle.abi.specs.declared.CmsgHdr.{CmsgHdr}
use Rattle.abi.proofs.Headers.{Counted, count_says}
use Rattle.syscall.specs.Control.{Control, header_at, descriptors_at, counted, meaning}
use Rattle.syscall.specs.Promise.{Parsed, parse_of, list_after}
use Rattle.syscall.proofs.Bytes.{length-descriptors_at}

-- descriptors in a part are those at the part's place
pub in_part : (k : ℕ) (b : List ℕ) (a m p : ℕ) → p + 4 * k ≤ m → descriptors_at k (take m (drop a b)) p ≡ descriptors_at k b (a + p)
unfolding descriptors_at
in_part zero b a m p h = refl
in_part (suc k) b a m p h =
    let e : a + (p + 4) ≡ a + p + 4 = omega arith in
    ap₂ (λ (x : ℕ) (l : List ℤ). to_z w32 x ∷ l) (le_part 4 b a m p (omega arith)) (in_part k b a m (p + 4) (omega arith) ∙ ap (descriptors_at k b) e)

module _ (b : List ℕ) (f : List ℤ) where
  refuses : meaning b ≡ Control.refused EINVAL → Parsed b f f (Err EINVAL)
  unfolding parse_of list_after
  refuses e = record { answer = rw e; list = rw e }

  pub no_control : length b ≡ 0 → Parsed b f f (Ok 0)
  unfolding meaning parse_of list_after
  no_control e = record { answer = rw (eq-eqb (length b) 0 e, le-ltb (length f) 0 (omega arith)); list = rw (eq-eqb (length b) 0 e, le-ltb (length f) 0 (omega arith)) }

  module _ (some : length b ≡ 0 → ⊥) where
    pub under_16 : length b < 16 → Parsed b f f (Err EINVAL)
    unfolding meaning
    under_16 h = refuses (rw (ne_eqb (length b) 0 some, lt-ltb (length b) 16 h))

    module _ (has : 16 ≤ length b) (h : CmsgHdr) (header : h ≡ header_at b) where
      means : meaning b ≡ counted (rights_count_of h (length b)) b
      unfolding meaning
      means = rw (ne_eqb (length b) 0 some, le-ltb (length b) 16 has, header)

      pub not_rights : (r : Option ℕ) → r ≡ rights_count_of h (length b) → r ≡ None → Parsed b f f (Err EINVAL)
      unfolding counted
      not_rights r p q = refuses (means ∙ ap (λ (x : Option ℕ). counted x b) (sym p ∙ q))

      module _ (r : Option ℕ) (n : ℕ) (p : r ≡ rights_count_of h (length b)) (q : r ≡ Some n) where
        pub says : Counted h (length b) n
        says = count_says h (length b) n (sym q ∙ p)

        is : meaning b ≡ Control.descriptors (descriptors_at n b 16)
        unfolding counted
        is = means ∙ ap (λ (x : Option ℕ). counted x b) (sym p ∙ q)

        pub short_list : length f < n → Parsed b f f (Err SHORT)
        unfolding parse_of list_after
        short_list l =
            let less : length f < length (descriptors_at n b 16) = omega (arith, length-descriptors_at n b 16) in
            record { answer = rw (is, lt-ltb (length f) _ less); list = rw (is, lt-ltb (length f) _ less) }

        -- the part that is handed on has n descriptors
        part_has : length (take (h.cmsg_len - 16) (drop 16 b)) / 4 ≡ n
        part_has = let s = says in omega (arith, length-take (h.cmsg_len - 16) (drop 16 b), length-drop 16 b)

        pub fits_list : n ≤ length f → length (take (h.cmsg_len - 16) (drop 16 b)) / 4 ≤ length f
        fits_list l = let k = part_has in omega arith

        pub parsed : n ≤ length f → (f' : List ℤ)
            → f' ≡ descriptors_at (length (take (h.cmsg_len - 16) (drop 16 b)) / 4) (take (h.cmsg_len - 16) (drop 16 b)) 0 ++ drop (length (take (h.cmsg_len - 16) (drop 16 b)) / 4) f
            → Parsed b f f' (Ok n)
        unfolding parse_of list_after
        parsed l f' e =
            let s = says in
            let m = length-descriptors_at n b 16 in
            let no : length (descriptors_at n b 16) ≤ length f = omega arith in
            record {
              answer = rw (is, le-ltb (length f) _ no) (ap Ok (sym m));
              list =
                  rw (is, le-ltb (length f) _ no)
                  (e ∙ ap (λ (i : ℕ). descriptors_at i (take (h.cmsg_len - 16) (drop 16 b)) 0 ++ drop i f) part_has
                  ∙ ap₂ (λ (x : List ℤ) (i : ℕ). x ++ drop i f) (in_part n b 16 (h.cmsg_len - 16) 0 (omega arith)) (sym m));
            }
