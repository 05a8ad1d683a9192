use Rattle.inbox.proofs.Parts.{handed_over}
use Rattle.inbox.proofs.Inbox.hand_over.Goals as goal

pub returns : goal.returns
returns c = search handed_over
