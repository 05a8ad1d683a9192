-- The least sizes of what is lent, for any n and c: "N or C out of range 2".
use Rattle.std.specs.Prelude.{ℕ, cond, Result, Ok, Err}
use Rattle.words.specs.Numbers.{number_of}
use Rattle.words.specs.declared.Errno.{Errno}
use Rattle.rules.specs.Run.{in_range}
use Rattle.storage.specs.Layout.{sizes_of}
use Rattle.storage.specs.declared.Sizes.{Sizes}
use Rattle.unix_socket.specs.declared.Least.{Least}

abbrev pub least_with : ℕ → Sizes → Least
least_with e s = record { refusal = e; words = s.words; bytes = s.bytes; tokens = s.tokens; wakes = s.wakes; releases = s.releases }

-- "On a refusal every answered number but the refusal is 0."
abbrev pub none : Sizes
none = record { words = 0; bytes = 0; tokens = 0; wakes = 0; releases = 0 }

unfoldable pub least_of : ℕ → ℕ → Least
least_of n c = cond (in_range n c) (least_with 0 (sizes_of n c)) (least_with 2 none)

-- what C is told of the sizes
abbrev pub least_told : Result Sizes Errno → Least
least_told (Ok s) = least_with 0 s
least_told (Err e) = least_with (number_of e) none
