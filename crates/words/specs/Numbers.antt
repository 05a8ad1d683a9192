-- Document 01, "Numbers a caller may get back".
use Rattle.std.specs.Prelude.{ℕ, Result, Ok, Err}
use Rattle.words.specs.declared.Errno.{Errno}
use Rattle.words.specs.declared.Errno.TheVariants.{EBADF, EINVAL, EADDRINUSE, EDESTADDRREQ, EISCONN, EOPNOTSUPP, ECONNREFUSED, EAGAIN, ENOTCONN, EPIPE, ENOBUFS, EAFNOSUPPORT, EMSGSIZE, EPROTOTYPE, EPROTONOSUPPORT, ENFILE, ENAMETOOLONG, SHORT, DAMAGED}

abbrev pub number_of : Errno → ℕ
number_of EBADF = 1
number_of EINVAL = 2
number_of EADDRINUSE = 3
number_of EDESTADDRREQ = 4
number_of EISCONN = 5
number_of EOPNOTSUPP = 6
number_of ECONNREFUSED = 7
number_of EAGAIN = 8
number_of ENOTCONN = 9
number_of EPIPE = 10
number_of ENOBUFS = 11
number_of EAFNOSUPPORT = 12
number_of EMSGSIZE = 13
number_of EPROTOTYPE = 14
number_of EPROTONOSUPPORT = 15
number_of ENFILE = 16
number_of ENAMETOOLONG = 17
number_of SHORT = 18
number_of DAMAGED = 19

-- 01's number of an answer. "An accepted call without a value answers 0."
abbrev pub refusal_of : {T : Type 0} → Result T Errno → ℕ
refusal_of (Ok x) = 0
refusal_of (Err e) = number_of e

-- the number that a question asked for, which a refusal does not have
abbrev pub answer_value : Result ℕ Errno → ℕ
answer_value (Ok n) = n
answer_value (Err e) = 0
