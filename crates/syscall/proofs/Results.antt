-- Two results that meet a contract of this crate are equal.
use mathlib.Core.Path.{◌≡◌}
use mathlib.Core.List.{List}
use Prim.Native.Nat.{ℕ}
use lib.IntN.{ℤ}
use Rattle.std.specs.Prelude.{Result}
use Rattle.words.specs.declared.Errno.{Errno}
use Rattle.laws.proofs.Unique.{unique}
use Rattle.syscall.specs.Promise.{Parsed, SendParsed, Encoded}

pub parsed_unique : (b : List ℕ) (f g h : List ℤ) (r s : Result ℕ Errno) → Parsed b f g r → Parsed b f h s → (r ≡ s) × (g ≡ h)
parsed_unique b f g h r s x y = (unique x.answer y.answer, unique x.list y.list)

pub send_unique : (z : ℤ) (b : List ℕ) (f g h : List ℤ) (r s : Result ℕ Errno) → SendParsed z b f g r → SendParsed z b f h s → (r ≡ s) × (g ≡ h)
send_unique z b f g h r s x y = (unique x.answer y.answer, unique x.list y.list)

pub encoded_unique : (ds : List ℤ) (a b c : List ℕ) (r s : Result ℕ Errno) → Encoded ds a b r → Encoded ds a c s → (r ≡ s) × (b ≡ c)
encoded_unique ds a b c r s x y = (unique x.answer y.answer, unique x.bytes y.bytes)
