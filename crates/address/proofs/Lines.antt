-- Document 01, "Lines to be proved": the lines on addresses, one table under one theorem.
use mathlib.Core.Path.{◌≡◌, refl}
use mathlib.Core.List.{List, [], ◌∷◌}
use Prim.Native.Nat.{ℕ}
use Rattle.laws.specs.All.{All}
use Rattle.words.specs.Numbers.{refusal_of}
use Rattle.le.specs.Le.{le}
use Rattle.utf8.specs.Syntax.{has, starts, follow, passes, is_utf8}
use Rattle.address.specs.Address.{up_to_zero, named, address_of, path_in, refusal_in}

-- an address, the number it is refused with (0: it is not), and the path it shows
pub record Line : Type 0 where
  pub address : List ℕ
  pub no : ℕ
  pub shows : List ℕ

abbrev pub Right : Line → Type 0
Right l = (refusal_of (refusal_in (address_of l.address)) ≡ l.no) × (path_in (address_of l.address) ≡ l.shows)

-- "address 01 00 2F 61 00 62 is "/a"; 01 00: 2; 02 00 61: 12; 01 00 C0 80: 2"
abbrev pub lines : List Line
lines =
    record { address = 0x01 ∷ 0x00 ∷ 0x2F ∷ 0x61 ∷ 0x00 ∷ 0x62 ∷ []; no = 0; shows = 0x2F ∷ 0x61 ∷ [] }
    ∷ record { address = 0x01 ∷ 0x00 ∷ []; no = 2; shows = [] }
    ∷ record { address = 0x02 ∷ 0x00 ∷ 0x61 ∷ []; no = 12; shows = [] }
    ∷ record { address = 0x01 ∷ 0x00 ∷ 0xC0 ∷ 0x80 ∷ []; no = 2; shows = [] }
    ∷ []

pub the_lines : All Right lines
unfolding up_to_zero named address_of path_in refusal_in le has starts follow passes is_utf8
the_lines = ((refl, refl), ((refl, refl), ((refl, refl), ((refl, refl), tt))))
