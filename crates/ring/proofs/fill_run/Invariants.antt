use Rattle.std.proofs.Common.{◌≡◌, take, replicate}
use Rattle.ring.proofs.fill_run.Given as goal

-- The elements before the index are v.
abbrev pub invariant-loop-x : goal.invariant-loop-x
invariant-loop-x g l = take l.x-index l.run ≡ replicate l.x-index l.v
