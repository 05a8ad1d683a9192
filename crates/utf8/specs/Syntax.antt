-- RFC 3629, section 4: the syntax of UTF-8 byte sequences, as a yes-or-no test.
use Rattle.std.specs.Prelude.{Bool, true, false, cond, ◌&&◌, ◌||◌, List, [], ◌∷◌, ℕ, leb}

-- the octets from `low` to `high`, both included
pub record Range : Type 0 where
  pub low : ℕ
  pub high : ℕ

abbrev pub octets : ℕ → ℕ → Range
octets a b = record { low = a; high = b }

unfoldable pub has : Range → ℕ → Bool
has r b = leb r.low b && leb b r.high

-- an alternative of UTF8-char: the range of its first octet, and the ranges of the octets that follow
pub record Row : Type 0 where
  pub first : Range
  pub rest : List Range

abbrev pub row : Range → List Range → Row
row a rs = record { first = a; rest = rs }

-- UTF8-tail = %x80-BF
abbrev pub tail : Range
tail = octets 0x80 0xBF

-- UTF8-char = UTF8-1 / UTF8-2 / UTF8-3 / UTF8-4
abbrev pub rows : List Row
rows =
    row (octets 0x00 0x7F) []
    ∷ row (octets 0xC2 0xDF) (tail ∷ [])
    ∷ row (octets 0xE0 0xE0) (octets 0xA0 0xBF ∷ tail ∷ [])
    ∷ row (octets 0xE1 0xEC) (tail ∷ tail ∷ [])
    ∷ row (octets 0xED 0xED) (octets 0x80 0x9F ∷ tail ∷ [])
    ∷ row (octets 0xEE 0xEF) (tail ∷ tail ∷ [])
    ∷ row (octets 0xF0 0xF0) (octets 0x90 0xBF ∷ tail ∷ tail ∷ [])
    ∷ row (octets 0xF1 0xF3) (tail ∷ tail ∷ tail ∷ [])
    ∷ row (octets 0xF4 0xF4) (octets 0x80 0x8F ∷ tail ∷ tail ∷ [])
    ∷ []

-- some row has b as its first octet
unfoldable pub starts : List Row → ℕ → Bool
starts [] b = false
starts (r ∷ rs) b = has r.first b || starts rs b

-- what follows b in that row
unfoldable pub follow : List Row → ℕ → List Range
follow [] b = []
follow (r ∷ rs) b = cond (has r.first b) r.rest (follow rs b)

-- UTF8-octets = *( UTF8-char ); `due` are the ranges of the octets that the character under way still wants
unfoldable pub passes : List Range → List ℕ → Bool
passes [] [] = true
passes (r ∷ due) [] = false
passes [] (b ∷ s) = starts rows b && passes (follow rows b) s
passes (r ∷ due) (b ∷ s) = has r b && passes due s

unfoldable pub is_utf8 : List ℕ → Bool
is_utf8 s = passes [] s
