use Rattle.std.proofs.Common.{length, refl, ◌∙◌, arith, rules, tests}
use Rattle.ring.proofs.Copying.{out_none, out_one, out_two}
use Rattle.ring.proofs.read.Goals as goal

pub returns-then-is_empty : goal.returns-then-is_empty
returns-then-is_empty g c = search (out_none, rules, tests)

pub returns-then-k-room : goal.returns-then-k-room
returns-then-k-room g c =
    let a = c.args in
    c.copy_run.ensures ∙ out_one a.ring.now a.head (length a.buf.now) _ (omega arith) c.if-k-room.true

pub returns-else-k-room : goal.returns-else-k-room
returns-else-k-room g c =
    let a = c.args in
    out_two a.ring.now a.buf.now _ _ a.head (length a.buf.now) _ refl c.if-k-room.false refl
    c.copy_run-else-k-room.ensures c.copy_run-else-k-room-2.ensures
