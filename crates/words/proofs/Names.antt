-- No two names of 01 have the same number, and none has the number 0.
use mathlib.Core.Path.{◌≡◌, refl, sym, ◌∙◌, ap}
use mathlib.Core.Logic.{◌≢◌}
use mathlib.Core.Bool.{cond}
use Prim.Native.Nat.{ℕ}
use native.Mathlib.Omega.{arith}
use lib.Dec.{eqb}
use Rattle.words.specs.Numbers.{number_of}
use Rattle.words.specs.declared.Errno.{Errno}
use Rattle.words.specs.declared.Errno.TheVariants.{EBADF, EINVAL, EADDRINUSE, EDESTADDRREQ, EISCONN, EOPNOTSUPP, ECONNREFUSED, EAGAIN, ENOTCONN, EPIPE, ENOBUFS, EAFNOSUPPORT, EMSGSIZE, EPROTOTYPE, EPROTONOSUPPORT, ENFILE, ENAMETOOLONG, SHORT, DAMAGED}

-- the name of a number
name : ℕ → Errno
name n =
    cond (eqb n 1) EBADF (cond (eqb n 2) EINVAL (cond (eqb n 3) EADDRINUSE (cond (eqb n 4) EDESTADDRREQ (cond (eqb n 5) EISCONN (cond (eqb n 6) EOPNOTSUPP (cond (eqb n 7) ECONNREFUSED (cond (eqb n 8) EAGAIN (cond (eqb n 9) ENOTCONN (cond (eqb n 10) EPIPE (cond (eqb n 11) ENOBUFS (cond (eqb n 12) EAFNOSUPPORT (cond (eqb n 13) EMSGSIZE (cond (eqb n 14) EPROTOTYPE (cond (eqb n 15) EPROTONOSUPPORT (cond (eqb n 16) ENFILE (cond (eqb n 17) ENAMETOOLONG (cond (eqb n 18) SHORT DAMAGED)))))))))))))))))

named : (e : Errno) → name (number_of e) ≡ e
unfolding name
named EBADF = refl
named EINVAL = refl
named EADDRINUSE = refl
named EDESTADDRREQ = refl
named EISCONN = refl
named EOPNOTSUPP = refl
named ECONNREFUSED = refl
named EAGAIN = refl
named ENOTCONN = refl
named EPIPE = refl
named ENOBUFS = refl
named EAFNOSUPPORT = refl
named EMSGSIZE = refl
named EPROTOTYPE = refl
named EPROTONOSUPPORT = refl
named ENFILE = refl
named ENAMETOOLONG = refl
named SHORT = refl
named DAMAGED = refl

pub one_name : (a b : Errno) → number_of a ≡ number_of b → a ≡ b
one_name a b e = sym (named a) ∙ ap name e ∙ named b

pub number_some : (e : Errno) → number_of e ≢ 0
unfolding name
number_some e z = let d : e ≡ DAMAGED = sym (named e) ∙ ap name z in let y = sym (ap number_of d) ∙ z in omega arith
