-- "Any zero-free UTF-8 path of 1 to 107 bytes comes back from its encoding": from all of it, and from any first part that has the whole path, as
-- the length that `len` answers.
use mathlib.Core.Path.{◌≡◌, refl, ◌∙◌, ap}
use mathlib.Core.Bool.{true}
use mathlib.Core.List.{List, [], ◌∷◌, ◌++◌, append-nil, append_assoc}
use Prim.Native.Nat.{ℕ, zero, suc, ◌+◌, ◌-◌, ◌<◌, ◌≤◌}
use native.Mathlib.Omega.{arith}
use borrow.Author.Tests.{le-ltb, ne_eqb}
use lib.ListN.{length, get_or, take, drop, replicate, length-append, length-replicate}
use lib.Seq.{take-append-add, take_all}
use Rattle.std.specs.Prelude.{Ok}
use Rattle.le.specs.Le.{le}
use Rattle.utf8.specs.Syntax.{is_utf8}
use Rattle.address.specs.Address.{up_to_zero, Address, named, address_of, written, length_of}
use Rattle.address.proofs.Addresses.{named_good}

-- no byte of p is zero
abbrev pub ZeroFree : List ℕ → Type 0
ZeroFree p = (i : ℕ) → i < length p → get_or p i 0 ≡ 0 → ⊥

-- zeros behind such a path end it
ends : (p s : List ℕ) → ZeroFree p → up_to_zero (p ++ s) ≡ p ++ up_to_zero s
unfolding up_to_zero
ends [] s f = refl
ends (b ∷ p) s f = rw (ne_eqb b 0 (f 0 (omega arith))) (ap (λ (l : List ℕ). b ∷ l) (ends p s (λ i h. f (suc i) (omega arith))))

no_more : (m k : ℕ) (s : List ℕ) → 1 ≤ k → up_to_zero (take m (replicate k 0 ++ s)) ≡ []
unfolding up_to_zero
no_more zero k s h = refl
no_more (suc m) zero s h = absurd (omega arith)
no_more (suc m) (suc k) s h = refl

module _ (p a : List ℕ) (free : ZeroFree p) (some : 1 ≤ length p) (fits : length p ≤ 107) (good : is_utf8 p ≡ true) where
  abbrev zeros : List ℕ
  zeros = replicate (108 - length p) 0 ++ drop 110 a

  whole : written p a ≡ (1 ∷ 0 ∷ p) ++ zeros
  unfolding written
  whole = ap (λ (l : List ℕ). 1 ∷ 0 ∷ l) (append_assoc p (replicate (108 - length p) 0) (drop 110 a))

  -- the first n bytes
  module _ (n : ℕ) (enough : 2 + length p ≤ n) where
    first : take n (written p a) ≡ (1 ∷ 0 ∷ p) ++ take (n - (2 + length p)) zeros
    first =
        let e : n ≡ length (1 ∷ 0 ∷ p) + (n - (2 + length p)) = omega arith in
        ap (take n) whole ∙ ap (λ (k : ℕ). take k ((1 ∷ 0 ∷ p) ++ zeros)) e ∙ take-append-add (1 ∷ 0 ∷ p) zeros (n - (2 + length p))

    pub part_back : address_of (take n (written p a)) ≡ Address.path p
    unfolding address_of le
    part_back =
        let long : 2 ≤ length ((1 ∷ 0 ∷ p) ++ take (n - (2 + length p)) zeros) = omega arith in
        let is : up_to_zero (p ++ take (n - (2 + length p)) zeros) ≡ p =
        ends p (take (n - (2 + length p)) zeros) free ∙ ap (λ (l : List ℕ). p ++ l) (no_more (n - (2 + length p)) (108 - length p) (drop 110 a) (omega arith)) ∙ append-nil p in
        rw (first, le-ltb _ 2 long) (ap named is ∙ named_good p (λ z. omega arith) good)

  pub back : address_of (written p a) ≡ Address.path p
  back =
      let all : take (length (written p a)) (written p a) ≡ written p a = take_all (length (written p a)) (written p a) (omega arith) in
      let long : 2 + length p ≤ length (written p a) = omega (arith, ap length whole, length-append (1 ∷ 0 ∷ p) zeros) in
      rw (← all) (part_back (length (written p a)) long)

  -- and its length is the family, the path and its zero
  pub length_back : 110 ≤ length a → length_of (written p a) ≡ Ok (2 + length p + 1)
  unfolding length_of
  length_back room =
      let long : 110 ≤ length (written p a) = omega (arith, ap length whole, length-append (1 ∷ 0 ∷ p) zeros, length-append (replicate (108 - length p) 0) (drop 110 a), length-replicate {A = ℕ} (108 - length p) 0) in
      let split : 108 ≡ length p + (108 - length p) = omega arith in
      let field : take 108 (drop 2 (written p a)) ≡ p ++ take (108 - length p) zeros =
      ap (λ (l : List ℕ). take 108 (drop 2 l)) whole ∙ ap (λ (k : ℕ). take k (p ++ zeros)) split ∙ take-append-add p zeros (108 - length p) in
      let is : up_to_zero (p ++ take (108 - length p) zeros) ≡ p =
      ends p (take (108 - length p) zeros) free ∙ ap (λ (l : List ℕ). p ++ l) (no_more (108 - length p) (108 - length p) (drop 110 a) (omega arith)) ∙ append-nil p in
      rw (le-ltb _ 110 long, field, is)
