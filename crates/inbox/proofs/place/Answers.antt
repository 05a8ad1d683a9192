use Rattle.inbox.proofs.Parts.{place_mod}
use Rattle.inbox.proofs.place.Goals as goal

pub returns : goal.returns
returns c = search place_mod
