-- Signed arguments, as domain, type, protocol, shutdown's number, and a control header's level and type: 65,537 is not 1, and no negative number is.
use Rattle.std.specs.Prelude.{Bool, false, ℕ, eqb, ℤ, pos, negsuc}

-- the integer z is the number n
unfoldable pub equals : ℤ → ℕ → Bool
equals (pos m) n = eqb m n
equals (negsuc m) n = false
