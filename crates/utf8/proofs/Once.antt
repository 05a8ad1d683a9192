-- No string is the encoding of two different lists of scalar values: the first octets tell the first value, and where it ends.
use mathlib.Core.Path.{◌≡◌, refl, sym, ◌∙◌, ap, ap₂}
use mathlib.Core.Bool.{true, cond}
use mathlib.Core.List.{List, [], ◌∷◌, ◌++◌}
use Prim.Native.Nat.{ℕ, ◌+◌, ◌-◌, ◌*◌, ◌/◌, ◌%◌, ◌<◌, ◌≤◌}
use native.Mathlib.Omega.{arith}
use native.Mathlib.Nat.{div-add-mod', div-div-eq-div-mul}
use borrow.Author.Tests.{lt-ltb, le-ltb}
use mathlib.Core.Logic.{⊎_elim}
use lib.Dec.{ltb}
use lib.ListN.{drop, get_or}
use Rattle.laws.proofs.Tests.{and_left, and_right}
use Rattle.utf8.specs.Rfc3629.{is_scalar, encode, encodes, all_scalar}
use Rattle.utf8.proofs.Encode.{scalar_is, Width, width, encode_1, encode_2, encode_3, encode_4}

-- one case for each width, by the first octet
pick : {X : Type 0} → ℕ → X → X → X → X → X
pick b w x y z = cond (ltb b 0x80) w (cond (ltb b 0xE0) x (cond (ltb b 0xF0) y z))

-- the value that a string begins with, and what is left of the string
first : List ℕ → ℕ
first s =
    let b = get_or s 0 0 in
    let c = get_or s 1 0 - 0x80 in
    let d = get_or s 2 0 - 0x80 in
    let e = get_or s 3 0 - 0x80 in
    pick b b ((b - 0xC0) * 0x40 + c) ((b - 0xE0) * 0x1000 + c * 0x40 + d) ((b - 0xF0) * 0x40000 + c * 0x1000 + d * 0x40 + e)

rest : List ℕ → List ℕ
rest s = pick (get_or s 0 0) (drop 1 s) (drop 2 s) (drop 3 s) (drop 4 s)

pick_1 : {X : Type 0} (b : ℕ) (w x y z : X) → b < 0x80 → pick b w x y z ≡ w
unfolding pick
pick_1 b w x y z h = rw (lt-ltb b 0x80 h)

pick_2 : {X : Type 0} (b : ℕ) (w x y z : X) → 0x80 ≤ b → b < 0xE0 → pick b w x y z ≡ x
unfolding pick
pick_2 b w x y z h k = rw (le-ltb b 0x80 h, lt-ltb b 0xE0 k)

pick_3 : {X : Type 0} (b : ℕ) (w x y z : X) → 0xE0 ≤ b → b < 0xF0 → pick b w x y z ≡ y
unfolding pick
pick_3 b w x y z h k = rw (le-ltb b 0x80 (omega arith), le-ltb b 0xE0 h, lt-ltb b 0xF0 k)

pick_4 : {X : Type 0} (b : ℕ) (w x y z : X) → 0xF0 ≤ b → pick b w x y z ≡ z
unfolding pick
pick_4 b w x y z h = rw (le-ltb b 0x80 (omega arith), le-ltb b 0xE0 (omega arith), le-ltb b 0xF0 h)

-- the digits of a number to the base 64, the fourth and above as one
digits : (n : ℕ) → n / 0x40000 * 0x40000 + n / 0x1000 % 0x40 * 0x1000 + n / 0x40 % 0x40 * 0x40 + n % 0x40 ≡ n
digits n =
    let a = div-add-mod' n 0x40 in
    let b : n / 0x1000 * 0x40 + n / 0x40 % 0x40 ≡ n / 0x40 = rw (← div-div-eq-div-mul n 0x40 0x40) (div-add-mod' (n / 0x40) 0x40) in
    let c : n / 0x40000 * 0x40 + n / 0x1000 % 0x40 ≡ n / 0x1000 = rw (← div-div-eq-div-mul n 0x1000 0x40) (div-add-mod' (n / 0x1000) 0x40) in
    omega arith

begins : (n : ℕ) → n < 0x110000 → (s : List ℕ) → (first (encode n ++ s) ≡ n) × (rest (encode n ++ s) ≡ s)
unfolding first rest
begins n top s = go (width n)
  where
    go : Width n → (first (encode n ++ s) ≡ n) × (rest (encode n ++ s) ≡ s)
    go (Width.one h) = rw (encode_1 n h) (pick_1 n _ _ _ _ h, pick_1 n _ _ _ _ h)
    go (Width.two h k) = rw (encode_2 n h k) (pick_2 _ _ _ _ _ (omega arith) (omega arith) ∙ omega arith, pick_2 _ _ _ _ _ (omega arith) (omega arith))
    go (Width.three h k) = rw (encode_3 n h k) (pick_3 _ _ _ _ _ (omega arith) (omega arith) ∙ omega arith, pick_3 _ _ _ _ _ (omega arith) (omega arith))
    go (Width.four h) = let d = digits n in rw (encode_4 n h) (pick_4 _ _ _ _ _ (omega arith) ∙ omega arith, pick_4 _ _ _ _ _ (omega arith))

below : (n : ℕ) → is_scalar n ≡ true → n < 0x110000
below n e = ⊎_elim (λ h. omega arith) (λ h. omega arith) (scalar_is n e)

-- an encoding is not empty
some : (n : ℕ) (s : List ℕ) → (encode n ++ s ≡ []) → ⊥
some n s p = go (width n)
  where
    go : Width n → ⊥
    go (Width.one h) = let z : ◌≡◌ {A = ℕ} 0 1 = cc (encode_1 n h) in omega arith
    go (Width.two h k) = let z : ◌≡◌ {A = ℕ} 0 1 = cc (encode_2 n h k) in omega arith
    go (Width.three h k) = let z : ◌≡◌ {A = ℕ} 0 1 = cc (encode_3 n h k) in omega arith
    go (Width.four h) = let z : ◌≡◌ {A = ℕ} 0 1 = cc (encode_4 n h) in omega arith

pub once : (ns ms : List ℕ) → all_scalar ns ≡ true → all_scalar ms ≡ true → encodes ns ≡ encodes ms → ns ≡ ms
unfolding encodes all_scalar
once [] [] p q e = refl
once [] (m ∷ ms) p q e = absurd (some m (encodes ms) (sym e))
once (n ∷ ns) [] p q e = absurd (some n (encodes ns) e)
once (n ∷ ns) (m ∷ ms) p q e =
    let a = begins n (below n (and_left _ _ p)) (encodes ns) in
    let b = begins m (below m (and_left _ _ q)) (encodes ms) in
    let head : n ≡ m = sym a.0 ∙ ap first e ∙ b.0 in
    let tail : encodes ns ≡ encodes ms = sym a.1 ∙ ap rest e ∙ b.1 in
    ap₂ (λ (x : ℕ) (xs : List ℕ). x ∷ xs) head (once ns ms (and_right (is_scalar n) _ p) (and_right (is_scalar m) _ q) tail)
