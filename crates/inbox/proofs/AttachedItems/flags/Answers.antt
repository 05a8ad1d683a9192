use Rattle.std.proofs.Common.{rules, tests}
use Rattle.inbox.specs.Promise.{flags_for}
use Rattle.inbox.proofs.AttachedItems.flags.Goals as goal

pub returns-in-Take : goal.returns-in-Take
unfolding flags_for
returns-in-Take c = search (rules, tests)

pub returns-in_default : goal.returns-in_default
unfolding flags_for
returns-in_default c = search (rules, tests)

pub returns-in_default-2 : goal.returns-in_default-2
unfolding flags_for
returns-in_default-2 c = search (rules, tests)
