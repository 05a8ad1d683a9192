use Rattle.inbox.proofs.Parts.{discarded}
use Rattle.std.proofs.Common.{rules}
use Rattle.inbox.proofs.Inbox.discard.Goals as goal

pub returns : goal.returns
returns c = search (discarded, rules)
