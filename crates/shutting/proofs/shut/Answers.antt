use Rattle.promise.proofs.Asked.{own_in}
use Rattle.shutting.proofs.Shutting.{shuts_apart, drop_asked, shuts_alone, peer_still, shuts_both}
use Rattle.shutting.proofs.shut.Goals as goal

pub load-slot-requires : goal.load-slot-requires
load-slot-requires c = search own_in

pub returns-in_default : goal.returns-in_default
returns-in_default c = search shuts_apart

pub drop_queued-left-requires : goal.drop_queued-left-requires
drop_queued-left-requires c =
    let a = c.args in
    let pre = c.requires in
    let i = c.slot_of-i in
    let s = c.load-slot in
    let k = c.in-Connected.is in
    let m = drop_asked pre.admitted a.h.0 pre.live i.result i.ensures s.result s.ensures c.in-Connected.connection (search k) in
    record { roomy = m.0; inbox_in = m.1 }

pub store-requires : goal.store-requires
store-requires c = search own_in

pub returns-then-not-peer_open : goal.returns-then-not-peer_open
returns-then-not-peer_open c = search shuts_alone

pub end_peer-requires : goal.end_peer-requires
end_peer-requires c = search peer_still

pub returns : goal.returns
returns c = search shuts_both
