use Rattle.std.proofs.Common.{refl}
use Rattle.ring.proofs.Copying.{fill_one, fill_two}
use Rattle.ring.proofs.fill.Goals as goal

pub returns-then-k-room : goal.returns-then-k-room
returns-then-k-room g c =
    let a = c.args in
    let p = c.place_behind-p in
    fill_one a.ring.now _ a.head a.n a.k p.result a.v p.ensures.0 c.requires.head_in c.requires.room c.if-k-room.true c.fill_run.ensures

pub returns-else-k-room : goal.returns-else-k-room
returns-else-k-room g c =
    let a = c.args in
    let p = c.place_behind-p in
    fill_two a.ring.now _ _ a.head a.n a.k p.result _ a.v p.ensures.0 c.requires.head_in c.requires.room refl c.if-k-room.false c.fill_run-else-k-room.ensures c.fill_run-else-k-room-2.ensures
