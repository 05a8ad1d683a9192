use Rattle.inbox.proofs.Offsets.{dist_wraps}
use Rattle.inbox.proofs.distance.Goals as goal

pub returns : goal.returns
returns c = search dist_wraps
