-- The answers of the crates below as the numbers that C gets: document 01's number, and beside it 0 wherever that is not 0.
use Rattle.words.specs.declared.Errno.{Errno}
use Rattle.std.specs.Prelude.{◌≡◌, List, ℕ, ℤ, pos, length, take, drop, Option, Some, None, Result, Ok, Err}
use Rattle.words.specs.Numbers.{number_of, refusal_of, answer_value}
use Rattle.words.specs.declared.Errno.TheVariants.{EINVAL}
use Rattle.address.specs.Address.{Address, address_of, path_in}
use Rattle.abi.specs.declared.MsgHdr.{MsgHdr}
use Rattle.abi.specs.declared.ShutdownHow.{ShutdownHow}
use Rattle.abi.specs.declared.CmsgHdr.{CmsgHdr}
use Rattle.eidrovang.specs.declared.plain.EidNumber.{EidNumber}
use Rattle.eidrovang.specs.declared.plain.EidPath.{EidPath}
use Rattle.eidrovang.specs.declared.plain.EidHeader.{EidHeader}

unfoldable pub numbers : Result ℕ Errno → EidNumber
numbers a = record { refusal = refusal_of a; value = answer_value a }

-- ── Promises of functions that write to what is lent ──

-- r is the number of an answer of which P holds
pub record Told (P : Result Unit Errno → Type 0) (r : ℕ) : Type 0 where
  pub verdict : Result Unit Errno
  pub holds : P verdict
  pub told : r ≡ refusal_of verdict

pub record Answered (P : Result ℕ Errno → Type 0) (r : EidNumber) : Type 0 where
  pub answer : Result ℕ Errno
  pub holds : P answer
  pub told : r ≡ numbers answer

-- ── Other answers ──

-- the path stands behind the two bytes of the family
unfoldable pub path_numbers : Address → EidPath
path_numbers (Address.path p) = record { refusal = 0; start = 2; length = length p }
path_numbers (Address.refused e) = record { refusal = number_of e; start = 0; length = 0 }

-- the numbers of an address, and that the part of it which they name is the path
pub record Shown (a : List ℕ) (r : EidPath) : Type 0 where
  pub says : r ≡ path_numbers (address_of a)
  pub part : take r.length (drop r.start a) ≡ path_in (address_of a)

unfoldable pub header_numbers : Result CmsgHdr Errno → EidHeader
header_numbers (Ok h) = record { refusal = 0; cmsg_level = h.cmsg_level; cmsg_type = h.cmsg_type; cmsg_len = h.cmsg_len }
header_numbers (Err e) = record { refusal = number_of e; cmsg_level = pos 0; cmsg_type = pos 0; cmsg_len = 0 }

-- a question about a header that may be too short
unfoldable pub asked : (MsgHdr → Result ℕ Errno) → Result MsgHdr Errno → Result ℕ Errno
asked f (Ok h) = f h
asked f (Err e) = Err e

-- "0 read, 1 write, 2 both"
abbrev pub direction_number : ShutdownHow → ℕ
direction_number ShutdownHow.Read = 0
direction_number ShutdownHow.Write = 1
direction_number ShutdownHow.Both = 2

unfoldable pub how_number : Result ShutdownHow Errno → Result ℕ Errno
how_number (Ok d) = Ok (direction_number d)
how_number (Err e) = Err e

abbrev pub header_of : ℕ → ℤ → ℤ → CmsgHdr
header_of n l t = record { cmsg_len = n; cmsg_level = l; cmsg_type = t }

-- a header that says no count is refused as the parser refuses it
unfoldable pub count_number : Option ℕ → Result ℕ Errno
count_number (Some n) = Ok n
count_number None = Err EINVAL
