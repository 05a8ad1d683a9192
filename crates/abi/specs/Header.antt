-- Document 01, "Addresses and control bytes", last paragraph: a message header is 56 bytes, numbers little-endian at fixed places.
use Rattle.words.specs.declared.Errno.{Errno}
use Rattle.std.specs.Prelude.{cond, ◌&&◌, List, ℕ, ltb, eqb, length, Result, Ok, Err}
use Rattle.words.specs.declared.Errno.TheVariants.{EINVAL, EMSGSIZE, SHORT}
use Rattle.le.specs.Le.{le}
use Rattle.abi.specs.declared.MsgHdr.{MsgHdr}

-- "`MsgHdr` (56 bytes, fewer 18): u64 name at 0, u32 name length at 8, u64 iovec count at 24, u64 control length at 40."
unfoldable pub message_of : List ℕ → Result MsgHdr Errno
message_of b =
    cond (ltb (length b) 56) (Err SHORT)
    (Ok (record { msg_name = le 8 b 0; msg_namelen = le 4 b 8; msg_iovlen = le 8 b 24; msg_controllen = le 8 b 40 }))

-- "Name or its length non-zero: 2; count above 16: 13; else the count."
unfoldable pub iovec_count_of : MsgHdr → Result ℕ Errno
iovec_count_of h =
    cond (eqb h.msg_name 0 && eqb h.msg_namelen 0)
    (cond (ltb 16 h.msg_iovlen) (Err EMSGSIZE) (Ok h.msg_iovlen))
    (Err EINVAL)

-- "Control length above 80: 2, else that length, a separate question."
unfoldable pub control_len_of : MsgHdr → Result ℕ Errno
control_len_of h = cond (ltb 80 h.msg_controllen) (Err EINVAL) (Ok h.msg_controllen)
