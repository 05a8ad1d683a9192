-- Unique, for making: two results of it, from the same storage and numbers, are equal. Nothing is excepted: what lies behind the slots is as it was.
use Prim.Native.Nat.{ℕ}
use mathlib.Core.Path.{◌≡◌, refl, sym, ap, ◌∙◌}
use mathlib.Core.Logic.{◌≢◌}
use native.Mathlib.Omega.{arith}
use Rattle.std.specs.Prelude.{Result, Ok, Err}
use Rattle.words.specs.Numbers.{number_of, refusal_of}
use Rattle.words.specs.declared.Errno.{Errno}
use Rattle.words.proofs.Names.{one_name}
use Rattle.storage.specs.Rows.{Store}
use Rattle.table.specs.Making.{Makes}

never-zero : (e : Errno) → number_of e ≢ 0
never-zero Errno.EBADF z = omega arith
never-zero Errno.EINVAL z = omega arith
never-zero Errno.EADDRINUSE z = omega arith
never-zero Errno.EDESTADDRREQ z = omega arith
never-zero Errno.EISCONN z = omega arith
never-zero Errno.EOPNOTSUPP z = omega arith
never-zero Errno.ECONNREFUSED z = omega arith
never-zero Errno.EAGAIN z = omega arith
never-zero Errno.ENOTCONN z = omega arith
never-zero Errno.EPIPE z = omega arith
never-zero Errno.ENOBUFS z = omega arith
never-zero Errno.EAFNOSUPPORT z = omega arith
never-zero Errno.EMSGSIZE z = omega arith
never-zero Errno.EPROTOTYPE z = omega arith
never-zero Errno.EPROTONOSUPPORT z = omega arith
never-zero Errno.ENFILE z = omega arith
never-zero Errno.ENAMETOOLONG z = omega arith
never-zero Errno.SHORT z = omega arith
never-zero Errno.DAMAGED z = omega arith

pub one_verdict : (v u : Result Unit Errno) → refusal_of v ≡ refusal_of u → v ≡ u
one_verdict (Ok _) (Ok _) e = refl
one_verdict (Ok _) (Err y) e = absurd (never-zero y (sym e))
one_verdict (Err x) (Ok _) e = absurd (never-zero x e)
one_verdict (Err x) (Err y) e = ap Err (one_name x y e)

pub one_making : (n c : ℕ) (s s₁ s₂ : Store) (r₁ r₂ : Result Unit Errno) → Makes n c s s₁ r₁ → Makes n c s s₂ r₂ → (r₁ ≡ r₂) × (s₁ ≡ s₂)
one_making n c s s₁ s₂ r₁ r₂ p q = (one_verdict r₁ r₂ (p.answers ∙ sym q.answers), p.storage ∙ sym q.storage)
