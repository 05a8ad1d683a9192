use Rattle.unix_socket.proofs.Entered.{refused_first, then_shutdown}
use mir.Facts.{to_z-of_z}
use Rattle.storage.specs.Rows.{lent}
use Rattle.promise.specs.Promise.{lists}
use Rattle.unix_socket.proofs.shutdown.Goals as goal

pub returns-in_err-admission : goal.returns-in_err-admission
returns-in_err-admission c =
    refused_first _ _ _ _ _ c.admission.ensures _ c.in_err-admission.was _ _ c.from_residual.ensures.1

pub returns : goal.returns
returns c =
    let a = c.args in
    let f = c.ranges in
    let v = c.admission in
    let d = c.shutdown_admitted in
    then_shutdown a.n a.c (lent a.words.now a.bytes.now a.tokens.now) (lists a.wakes.now a.releases.now) v.result v.ensures c.in_ok-admission.was a.h.0 a.how _ _ _ _
    (to_z-of_z f.how) d.ensures
