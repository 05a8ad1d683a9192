use Rattle.inbox.specs.View.{count}
use Rattle.inbox.proofs.Parts.{no_room, no_items, no_bytes, too_many, may-push}
use Rattle.std.proofs.Common.{arith}
use Rattle.inbox.proofs.Inbox.push_refusal.Goals as goal

pub returns-then-room-eq0 : goal.returns-then-room-eq0
returns-then-room-eq0 c =
    let a = c.args in
    let r = c.room in
    no_room a.c (count a.self) a.bytes a.self.items a.items r.result r.ensures (omega arith) (omega arith)

pub returns-then-items-eq0 : goal.returns-then-items-eq0
returns-then-items-eq0 c =
    let a = c.args in
    let r = c.room in
    no_items a.c (count a.self) a.bytes a.self.items a.items r.result r.ensures (omega arith) c.if-room-eq0.false (omega arith)

pub returns-then-bytes-eq0 : goal.returns-then-bytes-eq0
returns-then-bytes-eq0 c =
    let a = c.args in
    let r = c.room in
    no_bytes a.c (count a.self) a.bytes a.self.items a.items r.result r.ensures (omega arith) c.if-room-eq0.false c.if-items-eq0.false (omega arith)

pub returns-then-self-items : goal.returns-then-self-items
returns-then-self-items c =
    let a = c.args in
    let r = c.room in
    too_many a.c (count a.self) a.bytes a.self.items a.items r.result r.ensures (omega arith) c.if-room-eq0.false c.if-items-eq0.false c.if-bytes-eq0.false (omega arith) (omega arith)

pub returns : goal.returns
returns c =
    let a = c.args in
    let r = c.room in
    may-push a.c (count a.self) a.bytes a.self.items a.items r.result r.ensures (omega arith) c.if-room-eq0.false c.if-items-eq0.false c.if-bytes-eq0.false (omega arith) (omega arith)
