use Rattle.std.proofs.Common.{refl, rules}
use Rattle.inbox.proofs.Parts.{pushes}
use Rattle.inbox.proofs.Inbox.push.Goals as goal

pub returns : goal.returns
returns c =
    let a = c.args in
    let pre = c.requires in
    let room = c.room in
    let k = c.min-k in
    let n = c.queued in
    pushes _ _ _ _ _ _ _ _ a.self k.result n.result room.result _ pre.well pre.may_push pre.rings.0 (search rules) pre.rings.1 (search rules) pre.rings.2 (search rules)
    room.ensures k.ensures n.ensures c.write.ensures c.fill.ensures c.write-2.ensures refl
