use Rattle.table.proofs.Runs.{stops_here, goes_on}
use Rattle.table.proofs.Table.skip_well.Goals as goal

pub returns-then-not-connected_checks : goal.returns-then-not-connected_checks
returns-then-not-connected_checks c = stops_here _ _ _ _ _ c.loop-i.invariant _ c.connected_checks.ensures c.if-not-connected_checks.true

pub loop-i-preserved : goal.loop-i-preserved
loop-i-preserved c = goes_on _ _ _ _ _ c.loop-i.invariant _ c.connected_checks.ensures c.loop-i-test.true c.if-not-connected_checks.false
