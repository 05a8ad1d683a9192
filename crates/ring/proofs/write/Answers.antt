use Rattle.std.proofs.Common.{length, sym, refl, ◌∙◌, arith}
use Rattle.std.proofs.Math.Seq.{take-length}
use Rattle.ring.proofs.Copying.{in_one, in_two}
use Rattle.ring.proofs.write.Goals as goal

pub returns-then-k-room : goal.returns-then-k-room
returns-then-k-room g c =
    let a = c.args in
    let p = c.place_behind-p in
    in_one a.ring.now _ a.src.now a.head a.n (length a.src.now) p.result p.ensures.0 c.requires.head_in c.requires.room (omega arith) c.if-k-room.true (c.copy_run.ensures ∙ sym (take-length a.src.now))

pub returns-else-k-room : goal.returns-else-k-room
returns-else-k-room g c =
    let a = c.args in
    let p = c.place_behind-p in
    in_two a.ring.now _ _ a.src.now a.head a.n (length a.src.now) p.result _ p.ensures.0 c.requires.head_in c.requires.room (omega arith) refl c.if-k-room.false
    c.copy_run-else-k-room.ensures c.copy_run-else-k-room-2.ensures
