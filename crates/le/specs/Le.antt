-- Little-endian numbers in a list of bytes, once over the width k in bytes. A number is stored by `lib.Seq.sets l p (bytes k v)`: its bytes
-- from place p on, and every other byte as it was. The 32 bits of a signed number are `mir.Val.of_z w32`, and `to_z w32` reads them back.
use Rattle.std.specs.Prelude.{List, [], ◌∷◌, ℕ, zero, suc, ◌+◌, ◌*◌, ◌/◌, ◌%◌, get_or}

-- the number that the k bytes of l from place p on hold, the least first
unfoldable pub le : ℕ → List ℕ → ℕ → ℕ
le zero l p = 0
le (suc k) l p = get_or l p 0 + 256 * le k l (p + 1)

-- the k bytes of v, the least first
unfoldable pub bytes : ℕ → ℕ → List ℕ
bytes zero v = []
bytes (suc k) v = (v % 256) ∷ bytes k (v / 256)
