use Prim.Native.Nat.{◌-◌, ◌≤◌}
use Rattle.table.specs.OnePass.{slot_checks}
use Rattle.table.proofs.Conjunctions.{AllBefore}
use Rattle.table.proofs.Table.is_well_formed.Given as goal

-- The slots before i are well.
abbrev pub invariant-loop-i : goal.invariant-loop-i
invariant-loop-i l = (l.i ≤ l.self.n) × AllBefore (slot_checks l.self.n l.self.c l.self.words.now l.bytes) l.i

abbrev pub decreases-loop-i : goal.decreases-loop-i
decreases-loop-i l = l.self.n - l.i
