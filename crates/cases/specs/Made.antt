-- A made table, and which of the calls that follow it has taken.
use Rattle.words.specs.declared.Errno.{Errno}
use Rattle.std.specs.Prelude.{ℕ, ◌≡◌, Bool, cond, List, [], ◌∷◌, ◌++◌, eqb, length, Result}
use Rattle.rules.specs.Outcome.{Call}
use Rattle.storage.specs.Rows.{Store}
use Rattle.table.specs.Admission.{admits}
use Rattle.table.specs.Making.{make_no, Makes}
use Rattle.cases.specs.Step.{Request, Reached}

-- some storage was lent to making, which accepted, and left this one
pub record Made (n c : ℕ) (s : Store) : Type 0 where
  pub before : Store
  pub verdict : Result Unit Errno
  pub makes : Makes n c before s verdict
  pub accepted : make_no n c before ≡ 0

-- the request passes what is asked first: "N or C out of range 2; 18; 19"
unfoldable pub passes : Store → Request → Bool
passes s q = eqb (admits q.n q.c s (length q.lists.wakes) (length q.lists.releases)) 0

-- its call, if it does
unfoldable pub taken : Store → Request → List Call
taken s q = cond (passes s q) (q.call ∷ []) []

-- the calls of a sequence that do, in order
unfoldable pub calls_of : {s₀ s : Store} → Reached s₀ s → List Call
calls_of Reached.start = []
calls_of (Reached.then' {s} p q r a) = calls_of p ++ taken s q
