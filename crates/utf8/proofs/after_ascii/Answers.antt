use mathlib.Core.Path.{◌∙◌}
use Rattle.std.proofs.Common.{ℕ, arith, length-take, length-drop}
use Rattle.utf8.proofs.Rows.{skips}
use Rattle.utf8.proofs.after_ascii.Goals as goal

pub loop-s-preserved : goal.loop-s-preserved
loop-s-preserved c =
    let within = c.loop-s.invariant.1 in
    (c.loop-s.invariant.0 ∙ skips _ c.in-0-to-127.len_at_least (omega arith) (omega arith), omega (arith, length-take {A = ℕ}, length-drop {A = ℕ}, within))
