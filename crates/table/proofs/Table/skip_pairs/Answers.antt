use Rattle.table.proofs.Runs.{two_closed}
use Rattle.table.proofs.Table.skip_pairs.Goals as goal

pub loop-i-preserved : goal.loop-i-preserved
loop-i-preserved c = two_closed _ _ _ _ c.loop-i-test.true c.loop-i.invariant c.if-self-b-ne-CLOSED.false c.if-self-b-gt-LAST_GENERATION.false
