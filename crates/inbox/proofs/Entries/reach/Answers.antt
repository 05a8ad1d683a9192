use Rattle.inbox.proofs.Parts.{reach_next, reach_end}
use Rattle.inbox.proofs.Entries.reach.Goals as goal

pub returns-then-g-self : goal.returns-then-g-self
returns-then-g-self c = search reach_next

pub returns-else-g-self : goal.returns-else-g-self
returns-else-g-self c = search reach_end
