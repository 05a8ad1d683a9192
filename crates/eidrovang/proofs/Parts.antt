-- The returns of `eid_address_path`, and that the part of an address which its numbers name is the path.
use mathlib.Core.Path.{◌≡◌, sym, ap, ◌∙◌}
use mathlib.Core.List.{List}
use Prim.Native.Nat.{ℕ}
use lib.ListN.{length, take, drop}
use Rattle.words.specs.Numbers.{number_of}
use Rattle.words.specs.declared.Errno.{Errno}
use Rattle.address.specs.Address.{Address, address_of, path_in, up_to_zero}
use Rattle.address.proofs.Zeros.{front}
use Rattle.address.proofs.Addresses.{path_said}
use Rattle.eidrovang.specs.Numbers.{path_numbers, Shown}

module _ (a : List ℕ) where
  pub has_path : (p : List ℕ) → address_of a ≡ Address.path p → Shown a (record { refusal = 0; start = 2; length = length p })
  unfolding path_numbers path_in
  has_path p e =
      let q : p ≡ up_to_zero (drop 2 a) = path_said a p e in
      record {
        says = ap path_numbers (sym e);
        part = ap (λ (l : List ℕ). take (length l) (drop 2 a)) q ∙ front (drop 2 a) ∙ sym q ∙ ap path_in (sym e);
      }

  pub no_path : (e : Errno) → address_of a ≡ Address.refused e → (n s l : ℕ) → n ≡ number_of e → s ≡ 0 → l ≡ 0 → Shown a (record { refusal = n; start = s; length = l })
  unfolding path_numbers path_in
  no_path e h n s l t u v = rw (t, u, v) (record { says = ap path_numbers (sym h); part = ap path_in (sym h) })
