use mir.Facts.{to_z-of_z}
use mathlib.Core.Path.{ap}
use mathlib.Core.Bool.{not}
use Rattle.storage.specs.Rows.{lent}
use Rattle.promise.specs.Promise.{lists}
use Rattle.promise.proofs.Answering.{passed_on}
use Rattle.shutting.proofs.Shutting.{shutdown_stale, shutdown_refused, shutdown_shuts}
use Rattle.shutting.proofs.shutdown_admitted.Goals as goal

pub returns-then-not-is_live : goal.returns-then-not-is_live
returns-then-not-is_live c = search shutdown_stale

pub returns-in_err-try_from : goal.returns-in_err-try_from
returns-in_err-try_from c =
    let a = c.args in
    let f = c.is_live in
    let x = c.try_from in
    shutdown_refused a.n a.c (lent a.words.now a.bytes.now a.tokens.now) a.h.0 a.how f.result f.ensures (ap not c.if-not-is_live.false) _ (to_z-of_z c.ranges.how) x.result x.ensures (lists a.wakes.now a.releases.now) _ _ c.in_err-try_from.was (passed_on _ _ c.from_residual.ensures.1)

pub returns : goal.returns
returns c =
    let a = c.args in
    let f = c.is_live in
    let x = c.try_from in
    shutdown_shuts a.n a.c (lent a.words.now a.bytes.now a.tokens.now) a.h.0 a.how f.result f.ensures (ap not c.if-not-is_live.false) _ (to_z-of_z c.ranges.how) x.result x.ensures _ c.in_ok-try_from.was _ c.from-ends.ensures _ _ _ _ c.shut.ensures
