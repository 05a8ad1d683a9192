-- How the syntax's test goes on behind the octets that are due.
use mathlib.Core.Path.{◌≡◌, refl, sym, ◌∙◌, ap}
use mathlib.Core.Bool.{Bool, true, false, ◌&&◌, and-false}
use mathlib.Core.List.{List, [], ◌∷◌, ◌++◌}
use Prim.Native.Nat.{ℕ, zero, suc, ◌+◌, ◌-◌, ◌<◌, ◌≤◌}
use native.Mathlib.Omega.{arith}
use borrow.Author.Tests.{le-leb, lt-leb}
use lib.Dec.{leb}
use denote.Ref.{Bor}
use lib.ListN.{length, get_or, take, drop, replicate, length-take, length-drop, length-replicate}
use Rattle.std.proofs.Math.Bool.{and_assoc}
use Rattle.std.proofs.lemmas.List.{take_all, take-append-drop, drop-drop}
use Rattle.std.specs.Bool.{then_some}
use Rattle.std.specs.List.{IsSplitAt, list_all}
use Rattle.utf8.specs.Syntax.{Range, octets, has, passes, tail}
use Rattle.utf8.specs.Steps.{After}

-- a range from its two tests
pub inside : (a b x : ℕ) → a ≤ x → x ≤ b → has (octets a b) x ≡ true
unfolding has
inside a b x h k = rw (le-leb a x h, le-leb x b k)

pub under : (a b x : ℕ) → x < a → has (octets a b) x ≡ false
unfolding has
under a b x h = rw (lt-leb a x h)

pub over : (a b x : ℕ) → b < x → has (octets a b) x ≡ false
unfolding has
over a b x h = rw (lt-leb x b h, and-false (leb a x))

-- fewer octets than are due
few : (due : List Range) (s : List ℕ) → length s < length due → passes due s ≡ false
unfolding passes
few [] s h = absurd (let z : 1 ≤ 0 = omega arith in omega arith)
few (r ∷ due) [] h = refl
few (r ∷ due) (b ∷ s) h = rw (few due s (omega arith), and-false (has r b))

pub short : (r : Range) (more : ℕ) (s : List ℕ) → length s < more + 1 → passes (r ∷ replicate more tail) s ≡ false
short r more s h = few (r ∷ replicate more tail) s (let e = length-replicate more tail in omega arith)

-- as many tails as are due
run : (k : ℕ) (xs rest : List ℕ) → length xs ≡ k → passes (replicate k tail) (xs ++ rest) ≡ list_all (has tail) xs && passes [] rest
unfolding passes
run zero [] rest e = refl
run zero (x ∷ xs) rest e = absurd (omega arith)
run (suc k) [] rest e = absurd (omega arith)
run (suc k) (x ∷ xs) rest e = rw (run k xs rest (omega arith), and_assoc)

-- ── The returns of `after_tails` ──

module _ (low high more : ℕ) where
  abbrev pub due : List Range
  due = octets low high ∷ replicate more tail

  split : (s tails rest : List ℕ) → 1 ≤ length s → IsSplitAt (take (length s - 1) (drop 1 s)) more tails rest
      → passes due s ≡ has (octets low high) (get_or s 0 0) && (list_all (has tail) tails && passes [] rest)
  unfolding passes
  split [] tails rest some p = absurd (omega arith)
  split (x ∷ xs) tails rest some p =
      let whole : take (length (x ∷ xs) - 1) xs ≡ xs = take_all _ xs (omega arith) in
      let e : tails ++ rest ≡ xs = rw (p.1, p.2, whole) (take-append-drop more xs) in
      ap (λ (b : Bool). has (octets low high) x && b) (ap (passes (replicate more tail)) (sym e) ∙ run more tails rest p.3)

  outside : (s : List ℕ) → has (octets low high) (get_or s 0 0) ≡ false → passes due s ≡ false
  unfolding passes
  outside [] e = refl
  outside (x ∷ xs) e = ap (λ (b : Bool). b && passes (replicate more tail) xs) e

  pub too_low : (s : List ℕ) → get_or s 0 0 < low → passes due s ≡ false
  too_low s h = outside s (under low high (get_or s 0 0) h)

  pub too_high : (s : List ℕ) → high < get_or s 0 0 → passes due s ≡ false
  too_high s h = outside s (over low high (get_or s 0 0) h)

  module _ (s tails : List ℕ) (rest : Bor (List ℕ)) (some : 1 ≤ length s) (at : IsSplitAt (take (length s - 1) (drop 1 s)) more tails rest.now) (h : low ≤ get_or s 0 0) (k : get_or s 0 0 ≤ high) where
    value : passes due s ≡ list_all (has tail) tails && passes [] rest.now
    value = split s tails rest.now some at ∙ ap (λ (b : Bool). b && (list_all (has tail) tails && passes [] rest.now)) (inside low high (get_or s 0 0) h k)

    pub told : (r : Bool) → r ≡ list_all (has tail) tails → After due s (then_some r rest)
    told false e = value ∙ rw (sym e)
    told true e =
        let f : length (take (length s - 1) (drop 1 s)) ≡ length s - 1 = simp (length-take, length-drop) (omega arith) in
        let whole : take (length s - 1) (drop 1 s) ≡ drop 1 s = take_all _ (drop 1 s) (simp length-drop (omega arith)) in
        let n : length s - length rest.now ≡ 1 + more = omega arith in
        record {
          fewer = omega arith;
          end = rw (n, at.2, whole, drop-drop);
          same = value ∙ rw (sym e);
        }
