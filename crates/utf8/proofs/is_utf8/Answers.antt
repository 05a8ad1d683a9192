use mathlib.Core.Path.{◌∙◌}
use Rattle.utf8.proofs.Rows.{whole, end}
use Rattle.utf8.proofs.is_utf8.Goals as goal

pub loop-first-init : goal.loop-first-init
loop-first-init c = whole _

pub returns : goal.returns
returns c = end _ _ c.in_default.len_below (c.loop-first.invariant ∙ c.after_ascii.ensures.same)
