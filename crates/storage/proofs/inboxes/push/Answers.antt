use Rattle.storage.proofs.Lending.{pushes_at}
use Rattle.storage.proofs.inboxes.push.Goals as goal

pub returns : goal.returns
returns c =
    let pre = c.requires in
    let p = c.push in
    pushes_at pre.roomy.0 pre.roomy.1 p.auto.places p.auto.ring p.auto.tokens p.ensures
