use native.Mathlib.Omega.{arith}
use Rattle.promise.proofs.Asked.{own_in}
use Rattle.ending.proofs.Ended.{begun, going_first, going_on, going_done, serves_next, slots_next, rows_next, wakes_next, releases_next, heads, own_within}
use Rattle.ending.proofs.end_listener.Goals as goal

pub leave-requires : goal.leave-requires
leave-requires c = search own_in

pub loop-k-init : goal.loop-k-init
loop-k-init c = search going_first

pub overflow_add-listener : goal.overflow_add-listener
overflow_add-listener c = let p = c.requires in let z = heads p.admitted c.args.h.0 c.args.listener p.live p.listens.0 in let l = c.loop-k in omega (arith, z.0, z.1, z.2, c.loop-k.auto.k-end)

pub place-requires : goal.place-requires
place-requires c = let p = c.requires in let z = heads p.admitted c.args.h.0 c.args.listener p.live p.listens.0 in omega (arith, z.0, z.1, z.2, c.loop-k-test.true)

pub entry-server-requires : goal.entry-server-requires
entry-server-requires c =
    let a = c.args in
    let p = c.requires in
    let i = c.slot_of-i in
    let g = begun p.admitted i.result a.h.0 a.generation a.listener p.live p.listens.0 i.ensures p.listens.1 _ a.wakes.now a.releases.now c.leave.ensures in
    search (own_within, rows_next)

pub end_server-done-requires : goal.end_server-done-requires
end_server-done-requires c =
    let a = c.args in
    let p = c.requires in
    let i = c.slot_of-i in
    let g = begun p.admitted i.result a.h.0 a.generation a.listener p.live p.listens.0 i.ensures p.listens.1 _ a.wakes.now a.releases.now c.leave.ensures in
    search (serves_next, slots_next, wakes_next, releases_next)

pub loop-k-preserved : goal.loop-k-preserved
loop-k-preserved c = search going_on

pub returns : goal.returns
returns c = search (going_done, begun)
