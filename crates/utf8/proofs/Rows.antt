-- Which row of the syntax a first octet is in: one law for each arm of `after_char`.
use mathlib.Core.Path.{◌≡◌, refl, sym, ◌∙◌, ap}
use mathlib.Core.Bool.{true, false}
use mathlib.Core.List.{List, [], ◌∷◌}
use mathlib.Core.Logic.{⊎_elim}
use denote.Ref.{Bor}
use Rattle.std.specs.Prelude.{Option, Some, None}
use Prim.Native.Nat.{ℕ, suc, ◌-◌, ◌<◌, ◌≤◌}
use native.Mathlib.Omega.{arith}
use lib.ListN.{length, get_or, take, drop}
use Rattle.std.proofs.lemmas.List.{take_all}
use Rattle.laws.proofs.Tests.{less_or}
use Rattle.utf8.specs.Syntax.{Range, octets, has, rows, starts, follow, passes, tail, is_utf8}
use Rattle.utf8.specs.Steps.{Behind, After}
use Rattle.utf8.proofs.Passing.{inside, under, over}

pub record In (b : ℕ) (rest : List Range) : Type 0 where
  pub begins : starts rows b ≡ true
  pub then : follow rows b ≡ rest

-- a row that does not have b is passed over
module _ (b : ℕ) where
  pub ascii : b < 0x80 → In b []
  unfolding starts follow
  ascii h = let z = inside 0x00 0x7F b (omega arith) (omega arith) in record { begins = rw z; then = rw z }

  pub C2-DF : 0xC2 ≤ b → b < 0xE0 → In b (tail ∷ [])
  unfolding starts follow
  C2-DF h k =
      let a = over 0x00 0x7F b (omega arith) in
      let z = inside 0xC2 0xDF b h (omega arith) in
      record { begins = rw (a, z); then = rw (a, z) }

  pub E1-EC : 0xE0 < b → b < 0xED → In b (tail ∷ tail ∷ [])
  unfolding starts follow
  E1-EC h k =
      let a = over 0x00 0x7F b (omega arith) in
      let d = over 0xC2 0xDF b (omega arith) in
      let e = over 0xE0 0xE0 b h in
      let z = inside 0xE1 0xEC b h (omega arith) in
      record { begins = rw (a, d, e, z); then = rw (a, d, e, z) }

  pub EE-EF : 0xED < b → b < 0xF0 → In b (tail ∷ tail ∷ [])
  unfolding starts follow
  EE-EF h k =
      let a = over 0x00 0x7F b (omega arith) in
      let d = over 0xC2 0xDF b (omega arith) in
      let e = over 0xE0 0xE0 b (omega arith) in
      let f = over 0xE1 0xEC b (omega arith) in
      let g = over 0xED 0xED b h in
      let z = inside 0xEE 0xEF b h (omega arith) in
      record { begins = rw (a, d, e, f, g, z); then = rw (a, d, e, f, g, z) }

  pub E1-EF : 0xE0 ≤ b → (b ≡ 0xE0 → ⊥) → (b ≡ 0xED → ⊥) → b < 0xF0 → In b (tail ∷ tail ∷ [])
  E1-EF h n m k = ⊎_elim (λ l. E1-EC (omega arith) l) (λ g. EE-EF (omega arith) k) (less_or b 0xED)

  pub F1-F3 : 0xF0 < b → b < 0xF4 → In b (tail ∷ tail ∷ tail ∷ [])
  unfolding starts follow
  F1-F3 h k =
      let a = over 0x00 0x7F b (omega arith) in
      let d = over 0xC2 0xDF b (omega arith) in
      let e = over 0xE0 0xE0 b (omega arith) in
      let f = over 0xE1 0xEC b (omega arith) in
      let g = over 0xED 0xED b (omega arith) in
      let i = over 0xEE 0xEF b (omega arith) in
      let j = over 0xF0 0xF0 b h in
      let z = inside 0xF1 0xF3 b h (omega arith) in
      record { begins = rw (a, d, e, f, g, i, j, z); then = rw (a, d, e, f, g, i, j, z) }

  pub none : 0x80 ≤ b → b < 0xC2 → starts rows b ≡ false
  unfolding starts
  none h k =
      rw (over 0x00 0x7F b (omega arith), under 0xC2 0xDF b (omega arith), under 0xE0 0xE0 b (omega arith), under 0xE1 0xEC b (omega arith), under 0xED 0xED b (omega arith), under 0xEE 0xEF b (omega arith), under 0xF0 0xF0 b (omega arith), under 0xF1 0xF3 b (omega arith), under 0xF4 0xF4 b (omega arith))

  pub past : 0xF4 < b → starts rows b ≡ false
  unfolding starts
  past h =
      rw (over 0x00 0x7F b (omega arith), over 0xC2 0xDF b (omega arith), over 0xE0 0xE0 b (omega arith), over 0xE1 0xEC b (omega arith), over 0xED 0xED b (omega arith), over 0xEE 0xEF b (omega arith), over 0xF0 0xF0 b (omega arith), over 0xF1 0xF3 b (omega arith), over 0xF4 0xF4 b h)

-- a row with one first octet, by computation
pub E0 : {b : ℕ} → b ≡ 0xE0 → In b (octets 0xA0 0xBF ∷ tail ∷ [])
unfolding starts follow has
E0 e = rw e (record { begins = refl; then = refl })

pub ED : {b : ℕ} → b ≡ 0xED → In b (octets 0x80 0x9F ∷ tail ∷ [])
unfolding starts follow has
ED e = rw e (record { begins = refl; then = refl })

pub F0 : {b : ℕ} → b ≡ 0xF0 → In b (octets 0x90 0xBF ∷ tail ∷ tail ∷ [])
unfolding starts follow has
F0 e = rw e (record { begins = refl; then = refl })

pub F4 : {b : ℕ} → b ≡ 0xF4 → In b (octets 0x80 0x8F ∷ tail ∷ tail ∷ [])
unfolding starts follow has
F4 e = rw e (record { begins = refl; then = refl })

-- ── The returns of `after_char` ──

module _ (b : ℕ) (s : List ℕ) where
  goes : {due : List Range} → In b due → passes [] (b ∷ s) ≡ passes due s
  unfolding passes
  goes i = rw (i.begins, i.then)

  pub one : In b [] → Behind [] (b ∷ s) s
  one i =
      let n : length (b ∷ s) - length s ≡ 1 = omega arith in
      record { fewer = omega arith; end = rw n; same = goes i }

  pub more : {due : List Range} → In b due → (r : Option (Bor (List ℕ))) → After due s r → After [] (b ∷ s) r
  more i None h = goes i ∙ h
  more i (Some rest) h =
      let n : length (b ∷ s) - length rest.now ≡ suc (length s - length rest.now) = let k = h.fewer in omega arith in
      record { fewer = let k = h.fewer in omega arith; end = h.end ∙ rw n; same = goes i ∙ h.same }

  pub stop : starts rows b ≡ false → After [] (b ∷ s) None
  unfolding passes
  stop e = rw e

-- ── The loop of `is_utf8` ──

pub whole : (s : List ℕ) → is_utf8 s ≡ passes [] s
unfolding is_utf8
whole s = refl

-- two octets below 80 are passed over
pub skips : (s : List ℕ) → 2 ≤ length s → get_or s 0 0 < 0x80 → get_or s 1 0 < 0x80 → passes [] s ≡ passes [] (take (length s - 2) (drop 2 s))
skips [] some h k = absurd (omega arith)
skips (a ∷ []) some h k = absurd (omega arith)
skips (a ∷ b ∷ s) some h k = goes _ _ (ascii a h) ∙ goes _ _ (ascii b k) ∙ ap (passes []) (sym (take_all _ s (omega arith)))

pub end : (s left : List ℕ) → length left < 1 → is_utf8 s ≡ passes [] left → true ≡ is_utf8 s
unfolding passes
end s [] h so = sym so
end s (b ∷ left) h so = absurd (omega arith)
