-- Document 01: the plain arguments of socket, and the flags of sendmsg and recvmsg.
use Rattle.words.specs.declared.Errno.{Errno}
use Rattle.std.specs.Prelude.{cond, not, ℤ, Result, Ok, Err}
use Rattle.words.specs.Integers.{equals}
use Rattle.words.specs.declared.Errno.TheVariants.{EAFNOSUPPORT, EPROTOTYPE, EPROTONOSUPPORT}

-- "socket (002): domain not 1, 12; type not 1, 14; protocol not 0, 15"
unfoldable pub socket_of : ℤ → ℤ → ℤ → Result Unit Errno
socket_of domain type protocol =
    cond (not (equals domain 1)) (Err EAFNOSUPPORT)
    (cond (not (equals type 1)) (Err EPROTOTYPE)
    (cond (not (equals protocol 0)) (Err EPROTONOSUPPORT)
    (Ok tt)))
