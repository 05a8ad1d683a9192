use Rattle.std.proofs.Common.{◌≡◌, length, take}
use Rattle.ring.proofs.copy_run.Given as goal

-- As many as src, and the same before the index.
abbrev pub invariant-loop-j : goal.invariant-loop-j
invariant-loop-j g l = (length l.run ≡ length l.src) × (take l.j l.run ≡ take l.j l.src)
