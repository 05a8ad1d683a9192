use Rattle.table.specs.OnePass.{PassRun}
use Rattle.table.proofs.Table.skip_well.Given as goal

-- The slots from the first on up to i are connected and well.
abbrev pub invariant-loop-i : goal.invariant-loop-i
invariant-loop-i l = PassRun l.self.n l.self.c l.self.words.now l.from l.i
