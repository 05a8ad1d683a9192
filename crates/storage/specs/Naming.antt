-- What bind and connect ask of a name, before they look for it.
use Rattle.std.specs.Prelude.{ℕ, List, cond, length, ltb, eqb, Result, Ok, Err}
use Rattle.words.specs.declared.Errno.{Errno}
use Rattle.words.specs.declared.Errno.TheVariants.{EINVAL, ENAMETOOLONG}

-- "name empty 2; name above 255 bytes 17"
unfoldable pub name_refusal : List ℕ → Result Unit Errno
name_refusal m = cond (eqb (length m) 0) (Err EINVAL) (cond (ltb 255 (length m)) (Err ENAMETOOLONG) (Ok tt))
