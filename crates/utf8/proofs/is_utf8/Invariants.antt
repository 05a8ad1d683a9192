use Rattle.std.proofs.Common.{◌≡◌, [], length}
use Rattle.utf8.specs.Syntax.{is_utf8, passes}
use Rattle.utf8.proofs.is_utf8.Given as goal

-- What is left of the string passes where the whole does.
abbrev pub invariant-loop-first : goal.invariant-loop-first
invariant-loop-first l = is_utf8 l.s ≡ passes [] l.left

abbrev pub decreases-loop-first : goal.decreases-loop-first
decreases-loop-first l = length l.left
