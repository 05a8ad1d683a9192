-- Two results that meet a contract of this crate are equal. All contracts but the writer's are an equation for the result (`laws`, Unique); the
-- writer's is one for the answer and one for the lent address.
use mathlib.Core.Path.{◌≡◌}
use mathlib.Core.List.{List}
use Prim.Native.Nat.{ℕ}
use Rattle.std.specs.Prelude.{Result}
use Rattle.words.specs.declared.Errno.{Errno}
use Rattle.laws.proofs.Unique.{unique}
use Rattle.address.specs.Address.{Wrote}

pub wrote_unique : (p a b c : List ℕ) (r s : Result Unit Errno) → Wrote p a b r → Wrote p a c s → (r ≡ s) × (b ≡ c)
wrote_unique p a b c r s x y = (unique x.answer y.answer, unique x.bytes y.bytes)
