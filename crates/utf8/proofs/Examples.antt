-- RFC 3629's own examples (section 7), and the classic strings that are not UTF-8: one table, one theorem.
use mathlib.Core.Path.{◌≡◌, refl}
use mathlib.Core.Bool.{true, false}
use mathlib.Core.List.{List, [], ◌∷◌}
use Prim.Native.Nat.{ℕ}
use Rattle.laws.specs.All.{All}
use Rattle.utf8.specs.Rfc3629.{is_scalar, encode, encodes, all_scalar}
use Rattle.utf8.specs.Syntax.{has, starts, follow, passes, is_utf8}

-- octets with the scalar values that they encode, and octets that encode nothing
pub data Line : Type 0 where
  good : (octets scalars : List ℕ) → Line
  bad : (octets : List ℕ) → Line

abbrev pub Right : Line → Type 0
Right (good s ns) = (is_utf8 s ≡ true) × (encodes ns ≡ s) × (all_scalar ns ≡ true)
Right (bad s) = is_utf8 s ≡ false

abbrev pub lines : List Line
lines =
    -- "A<NOT IDENTICAL TO><ALPHA>.", Korean "hangugeo", Japanese "nihongo", "stump of tree" behind a byte order mark
    good (0x41 ∷ 0xE2 ∷ 0x89 ∷ 0xA2 ∷ 0xCE ∷ 0x91 ∷ 0x2E ∷ []) (0x0041 ∷ 0x2262 ∷ 0x0391 ∷ 0x002E ∷ [])
    ∷ good (0xED ∷ 0x95 ∷ 0x9C ∷ 0xEA ∷ 0xB5 ∷ 0xAD ∷ 0xEC ∷ 0x96 ∷ 0xB4 ∷ []) (0xD55C ∷ 0xAD6D ∷ 0xC5B4 ∷ [])
    ∷ good (0xE6 ∷ 0x97 ∷ 0xA5 ∷ 0xE6 ∷ 0x9C ∷ 0xAC ∷ 0xE8 ∷ 0xAA ∷ 0x9E ∷ []) (0x65E5 ∷ 0x672C ∷ 0x8A9E ∷ [])
    ∷ good (0xEF ∷ 0xBB ∷ 0xBF ∷ 0xF0 ∷ 0xA3 ∷ 0x8E ∷ 0xB4 ∷ []) (0xFEFF ∷ 0x233B4 ∷ [])
    -- the ends of the ranges
    ∷ good (0x7F ∷ 0xC2 ∷ 0x80 ∷ 0xDF ∷ 0xBF ∷ 0xE0 ∷ 0xA0 ∷ 0x80 ∷ 0xED ∷ 0x9F ∷ 0xBF ∷ []) (0x7F ∷ 0x80 ∷ 0x7FF ∷ 0x800 ∷ 0xD7FF ∷ [])
    ∷ good (0xEE ∷ 0x80 ∷ 0x80 ∷ 0xEF ∷ 0xBF ∷ 0xBF ∷ 0xF0 ∷ 0x90 ∷ 0x80 ∷ 0x80 ∷ 0xF4 ∷ 0x8F ∷ 0xBF ∷ 0xBF ∷ []) (0xE000 ∷ 0xFFFF ∷ 0x10000 ∷ 0x10FFFF ∷ [])
    ∷ good [] []
    -- overlong forms, a surrogate, beyond 10FFFF, an octet that never stands, a lone tail, cut sequences
    ∷ bad (0xC0 ∷ 0x80 ∷ [])
    ∷ bad (0xC1 ∷ 0xBF ∷ [])
    ∷ bad (0xE0 ∷ 0x80 ∷ 0x80 ∷ [])
    ∷ bad (0xED ∷ 0xA0 ∷ 0x80 ∷ [])
    ∷ bad (0xF4 ∷ 0x90 ∷ 0x80 ∷ 0x80 ∷ [])
    ∷ bad (0xF5 ∷ 0x80 ∷ 0x80 ∷ 0x80 ∷ [])
    ∷ bad (0xF5 ∷ [])
    ∷ bad (0x80 ∷ [])
    ∷ bad (0x41 ∷ 0xE2 ∷ 0x89 ∷ [])
    ∷ bad (0xC2 ∷ [])
    ∷ bad (0xF0 ∷ 0xA3 ∷ 0x8E ∷ [])
    ∷ bad (0xE2 ∷ 0x41 ∷ 0xA2 ∷ [])
    ∷ []

pub examples : All Right lines
unfolding is_scalar encode encodes all_scalar has starts follow passes is_utf8
examples = ((refl, refl, refl), ((refl, refl, refl), ((refl, refl, refl), ((refl, refl, refl), ((refl, refl, refl), ((refl, refl, refl), ((refl, refl, refl), (refl, (refl, (refl, (refl, (refl, (refl, (refl, (refl, (refl, (refl, (refl, (refl, tt)))))))))))))))))))
