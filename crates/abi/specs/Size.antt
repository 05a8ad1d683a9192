-- Document 01, "Addresses and control bytes": the sizes of a control header. "`align`, `len`, `space`, `scm_rights_space` and `scm_rights` answer 2
-- where the exact value passes 2^64 - 1". POSIX: CMSG_ALIGN, CMSG_LEN and CMSG_SPACE of a header of 16 bytes.
use Rattle.words.specs.declared.Errno.{Errno}
use Rattle.std.specs.Prelude.{cond, not, ℕ, zero, suc, ◌+◌, ◌-◌, ◌*◌, ◌/◌, ◌%◌, ◌^◌, ltb, eqb, pos, Option, Some, None, Result, Ok, Err}
use Rattle.words.specs.Integers.{equals}
use Rattle.words.specs.declared.Errno.TheVariants.{EINVAL}
use Rattle.abi.specs.declared.CmsgHdr.{CmsgHdr}

-- the first multiple of 8 among n, n + 1, .., n + k
unfoldable pub first_from : ℕ → ℕ → ℕ
first_from zero n = n
first_from (suc k) n = cond (eqb (n % 8) 0) n (first_from k (n + 1))

-- the least multiple of 8 not below n: it is among the eight numbers from n on
unfoldable pub up8 : ℕ → ℕ
up8 n = first_from 7 n

-- the exact value, or 2 where it passes 2^64 - 1
unfoldable pub exact : ℕ → Result ℕ Errno
exact n = cond (ltb n (2 ^ 64)) (Ok n) (Err EINVAL)

unfoldable pub align_of : ℕ → Result ℕ Errno
align_of n = exact (up8 n)

-- header plus data
unfoldable pub len_of : ℕ → Result ℕ Errno
len_of n = exact (16 + n)

-- header plus padded data
unfoldable pub space_of : ℕ → Result ℕ Errno
space_of n = exact (16 + up8 n)

-- the same for k descriptors of four bytes
unfoldable pub rights_space_of : ℕ → Result ℕ Errno
rights_space_of k = exact (16 + up8 (4 * k))

abbrev pub rights : ℕ → CmsgHdr
rights n = record { cmsg_len = n; cmsg_level = pos 1; cmsg_type = pos 1 }

unfoldable pub rights_of : ℕ → Result CmsgHdr Errno
rights_of k = cond (ltb (16 + 4 * k) (2 ^ 64)) (Ok (rights (16 + 4 * k))) (Err EINVAL)

-- the number of descriptors that a header says, in a control buffer of n bytes: none for "another level or type, length above the buffer, below 16,
-- or length - 16 no multiple of 4"
unfoldable pub rights_count_of : CmsgHdr → ℕ → Option ℕ
rights_count_of h n =
    cond (not (equals h.cmsg_level 1)) None
    (cond (not (equals h.cmsg_type 1)) None
    (cond (ltb n h.cmsg_len) None
    (cond (ltb h.cmsg_len 16) None
    (cond (eqb ((h.cmsg_len - 16) % 4) 0) (Some ((h.cmsg_len - 16) / 4))
    None))))
