use Rattle.std.proofs.Common.{arith}
use Rattle.std.proofs.lemmas.Bool.Decides.{nat_tests}
use Rattle.inbox.specs.Well.{is_well}
use Rattle.inbox.proofs.Inbox.is_well.Goals as goal

pub returns-then-self-le-MAX_PENDING_ATTACHED : goal.returns-then-self-le-MAX_PENDING_ATTACHED
unfolding is_well
returns-then-self-le-MAX_PENDING_ATTACHED c = grind (arith, nat_tests)

pub returns-else-self-le-MAX_PENDING_ATTACHED : goal.returns-else-self-le-MAX_PENDING_ATTACHED
unfolding is_well
returns-else-self-le-MAX_PENDING_ATTACHED c = grind (arith, nat_tests)
