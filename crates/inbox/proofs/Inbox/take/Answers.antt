use Rattle.std.proofs.Common.{rules}
use Rattle.inbox.proofs.Shows.{reach_le}
use Rattle.inbox.proofs.Parts.{takes}
use Rattle.inbox.proofs.Inbox.take.Goals as goal

pub read-requires-clause-enough : goal.read-requires-clause-enough
read-requires-clause-enough c =
    let z = reach_le c.args.places.now c.args.self c.group-g.result c.requires.well.rising in
    search rules

pub returns : goal.returns
returns c =
    let a = c.args in
    let pre = c.requires in
    let g = c.group-g in
    let r = c.reach in
    let k = c.min-k in
    let m = c.handed-m in
    let f = c.flags in
    takes _ _ _ _ _ _ _ _ _ a.policy a.self c.moved_on.result g.result r.result k.result m.result f.result pre.well pre.rings.1 pre.rings.2 pre.rings.3
    g.ensures.0 g.ensures.1 r.ensures k.ensures m.ensures c.read.ensures c.hand_over.ensures f.ensures c.moved_on.ensures
