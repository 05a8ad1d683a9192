use Rattle.std.proofs.Common.{rules}
use Rattle.inbox.specs.Promise.{handed_of}
use Rattle.inbox.proofs.AttachedItems.handed.Goals as goal

pub returns-in-Take : goal.returns-in-Take
unfolding handed_of
returns-in-Take c = search rules

pub returns-in-Drop : goal.returns-in-Drop
unfolding handed_of
returns-in-Drop c = search rules
