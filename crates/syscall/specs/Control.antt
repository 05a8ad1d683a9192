-- Document 01, "Addresses and control bytes", second paragraph, and POSIX's CMSG layout: a control buffer as bytes at places.
use Rattle.std.specs.Prelude.{cond, List, [], ◌∷◌, ◌++◌, ℕ, zero, suc, ◌+◌, ◌-◌, ◌*◌, ◌/◌, ltb, eqb, ℤ, length, Option, Some, None}
use Rattle.std.specs.Int.{w32}
use Rattle.std.proofs.Common.{to_z, of_z}
use Rattle.words.specs.declared.Errno.{Errno}
use Rattle.words.specs.declared.Errno.TheVariants.{EINVAL}
use Rattle.le.specs.Le.{le, bytes}
use Rattle.abi.specs.Size.{rights, rights_count_of}
use Rattle.abi.specs.declared.CmsgHdr.{CmsgHdr}

-- ── What a buffer means ──

-- "u64 length at 0, i32 level at 8, i32 type at 12"
unfoldable pub header_at : List ℕ → CmsgHdr
header_at b = record { cmsg_len = le 8 b 0; cmsg_level = to_z w32 (le 4 b 8); cmsg_type = to_z w32 (le 4 b 12) }

-- the k descriptors, i32 each, from place p on
unfoldable pub descriptors_at : ℕ → List ℕ → ℕ → List ℤ
descriptors_at zero b p = []
descriptors_at (suc k) b p = to_z w32 (le 4 b p) ∷ descriptors_at k b (p + 4)

-- a list of descriptors, or a refusal
pub data Control : Type 0 where
  descriptors : List ℤ → Control
  refused : Errno → Control

unfoldable pub counted : Option ℕ → List ℕ → Control
counted (Some k) b = descriptors (descriptors_at k b 16)
counted None b = refused EINVAL

-- "Empty control: no descriptors. Below 16 bytes, another level or type, length above the buffer, below 16, or length - 16 no multiple of 4: 2. Bytes
-- after the first header's data are ignored." The header's own rules are `abi`'s `rights_count_of`; "i32 descriptors from 16".
unfoldable pub meaning : List ℕ → Control
meaning b =
    cond (eqb (length b) 0) (descriptors [])
    (cond (ltb (length b) 16) (refused EINVAL)
    (counted (rights_count_of (header_at b) (length b)) b))

-- ── What an encoder writes ──

unfoldable pub header_bytes : CmsgHdr → List ℕ
header_bytes h = bytes 8 h.cmsg_len ++ (bytes 4 (of_z w32 h.cmsg_level) ++ bytes 4 (of_z w32 h.cmsg_type))

unfoldable pub descriptor_bytes : List ℤ → List ℕ
descriptor_bytes [] = []
descriptor_bytes (d ∷ ds) = bytes 4 (of_z w32 d) ++ descriptor_bytes ds

-- the header for k descriptors, with level and type 1 and the length 16 + 4k, and the descriptors behind it
unfoldable pub encoding : List ℤ → List ℕ
encoding ds = header_bytes (rights (16 + 4 * length ds)) ++ descriptor_bytes ds

-- "Capacity: 0 below 16 bytes, else (length - 16) / 4 rounded down."
unfoldable pub capacity_of : ℕ → ℕ
capacity_of n = cond (ltb n 16) 0 ((n - 16) / 4)
