use Rattle.inbox.proofs.Parts.{distance_at}
use Rattle.inbox.proofs.Entries.distance.Goals as goal

pub returns : goal.returns
returns c = search distance_at
