-- Document 01, "One call at a time": "shutdown 0 read, 1 write, 2 both, other 2".
use Rattle.words.specs.declared.Errno.{Errno}
use Rattle.std.specs.Prelude.{cond, ℤ, Result, Ok, Err}
use Rattle.words.specs.Integers.{equals}
use Rattle.words.specs.declared.Errno.TheVariants.{EINVAL}
use Rattle.abi.specs.declared.ShutdownHow.{ShutdownHow}

unfoldable pub how_of : ℤ → Result ShutdownHow Errno
how_of z =
    cond (equals z 0) (Ok ShutdownHow.Read)
    (cond (equals z 1) (Ok ShutdownHow.Write)
    (cond (equals z 2) (Ok ShutdownHow.Both)
    (Err EINVAL)))
