-- RFC 3629, section 3: what UTF-8 is.
use Rattle.std.specs.Prelude.{◌≡◌, Bool, true, cond, ◌&&◌, ◌||◌, List, [], ◌∷◌, ◌++◌, ℕ, ◌+◌, ◌/◌, ◌%◌, ltb}

-- "characters from the U+0000..U+10FFFF range", without "character numbers between U+D800 and U+DFFF"
unfoldable pub is_scalar : ℕ → Bool
is_scalar n = ltb n 0xD800 || ltb 0xDFFF n && ltb n 0x110000

-- the table "Char. number range" / "UTF-8 octet sequence": each x is a bit of the number, the last six in the last octet
unfoldable pub encode : ℕ → List ℕ
encode n =
    cond (ltb n 0x80) (n ∷ [])
    (cond (ltb n 0x800) ((0xC0 + n / 0x40) ∷ (0x80 + n % 0x40) ∷ [])
    (cond (ltb n 0x10000) ((0xE0 + n / 0x1000) ∷ (0x80 + n / 0x40 % 0x40) ∷ (0x80 + n % 0x40) ∷ [])
    ((0xF0 + n / 0x40000) ∷ (0x80 + n / 0x1000 % 0x40) ∷ (0x80 + n / 0x40 % 0x40) ∷ (0x80 + n % 0x40) ∷ [])))

unfoldable pub encodes : List ℕ → List ℕ
encodes [] = []
encodes (n ∷ ns) = encode n ++ encodes ns

unfoldable pub all_scalar : List ℕ → Bool
all_scalar [] = true
all_scalar (n ∷ ns) = is_scalar n && all_scalar ns

-- a byte string is UTF-8 where it is the concatenation of the encodings of scalar values
pub record Utf8 (s : List ℕ) : Type 0 where
  pub scalars : List ℕ
  pub each : all_scalar scalars ≡ true
  pub is : encodes scalars ≡ s
