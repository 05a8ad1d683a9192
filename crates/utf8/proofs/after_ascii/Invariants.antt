use Rattle.std.proofs.Common.{◌≡◌, ◌≤◌, [], length}
use Rattle.utf8.specs.Syntax.{passes}
use Rattle.utf8.proofs.after_ascii.Given as goal

-- What is left passes where the whole does.
abbrev pub invariant-loop-s : goal.invariant-loop-s
invariant-loop-s l = (passes [] l.fn.s ≡ passes [] l.s) × (length l.s ≤ length l.fn.s)

abbrev pub decreases-loop-s : goal.decreases-loop-s
decreases-loop-s l = length l.s
