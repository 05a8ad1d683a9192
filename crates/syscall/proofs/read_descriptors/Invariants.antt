use mathlib.Core.Path.{◌≡◌}
use mathlib.Core.List.{◌++◌}
use lib.ListN.{length, drop}
use Rattle.syscall.specs.Control.{descriptors_at}
use Rattle.syscall.proofs.read_descriptors.Given as goal

abbrev pub invariant-loop-i : goal.invariant-loop-i
invariant-loop-i l = (length l.fds ≡ length l.initial.fds) × (l.fds ≡ descriptors_at l.i l.part 0 ++ drop l.i l.initial.fds)
