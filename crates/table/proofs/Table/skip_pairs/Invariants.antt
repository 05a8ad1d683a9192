use Prim.Native.Nat.{◌-◌}
use Rattle.table.specs.OnePass.{ClosedRun}
use Rattle.table.proofs.Table.skip_pairs.Given as goal

-- The slots from the first on up to i are closed.
abbrev pub invariant-loop-i : goal.invariant-loop-i
invariant-loop-i l = ClosedRun l.self.words.now l.self.n l.from l.i

abbrev pub decreases-loop-i : goal.decreases-loop-i
decreases-loop-i l = l.self.n - l.i
