use Rattle.table.proofs.Runs.{closed_here}
use Rattle.table.proofs.Table.skip_closed.Goals as goal

pub loop-i-preserved : goal.loop-i-preserved
loop-i-preserved c = closed_here _ _ _ _ c.loop-i-test.true c.loop-i.invariant c.if-self-b-ne-CLOSED.false c.if-self-b-gt-LAST_GENERATION.false
