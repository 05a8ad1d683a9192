use mathlib.Core.Path.{refl}
use Rattle.promise.specs.Promise.{lists}
use Rattle.draining.proofs.Draining.{recvmsg_stale, recvmsg_empty, recvmsg_drains}
use mathlib.Core.Path.{ap}
use mathlib.Core.Bool.{not}
use Rattle.draining.proofs.recvmsg_admitted.Goals as goal

pub returns-then-not-is_live : goal.returns-then-not-is_live
returns-then-not-is_live c =
    let a = c.args in
    let pre = c.requires in
    let f = c.is_live in
    let m = recvmsg_stale pre a.h.0 f.result f.ensures a.buf.now a.items.now (lists a.wakes.now a.releases.now) _ (ap not c.if-not-is_live.true) refl in
    record { runs = m.0; fills = m.1 }

pub returns-then-is_empty : goal.returns-then-is_empty
returns-then-is_empty c =
    let a = c.args in
    let pre = c.requires in
    let f = c.is_live in
    let m = recvmsg_empty pre a.h.0 f.result f.ensures (ap not c.if-not-is_live.false) a.buf.now a.items.now (lists a.wakes.now a.releases.now) _ _ c.is_empty.ensures c.if-is_empty.true refl in
    record { runs = m.0; fills = m.1 }

pub returns : goal.returns
returns c =
    let a = c.args in
    let pre = c.requires in
    let f = c.is_live in
    let m = recvmsg_drains pre a.h.0 f.result f.ensures (ap not c.if-not-is_live.false) a.buf.now _ a.items.now _ (lists a.wakes.now a.releases.now) _ _ _ _ c.is_empty.ensures c.if-is_empty.false c.drain.ensures in
    record { runs = m.0; fills = m.1 }
