use Rattle.promise.proofs.Known.{known}
use Rattle.pairing.proofs.Reaching.{found_handle, reach_none, reach_other, reach_full, reach_no_slot, join_asks, reach_made}
use Rattle.pairing.proofs.reach.Goals as goal

pub returns-in_default : goal.returns-in_default
returns-in_default c = search (reach_none, known)

pub returns-in_default-state : goal.returns-in_default-state
returns-in_default-state c = search (reach_other, known, c.in_default-state.not-Listening)

pub returns-then-listener : goal.returns-then-listener
returns-then-listener c = search (reach_full, known)

pub returns-in_default-lowest_free : goal.returns-in_default-lowest_free
returns-in_default-lowest_free c = search (reach_no_slot, known)

pub join-requires : goal.join-requires
join-requires c =
    let m = join_asks _ _ _ _ _ (known c.requires.admitted) c.requires.caller _ c.find.ensures _ c.in-Some.is _ c.load-found.ensures _ c.in-Listening.is c.if-listener.false _ c.lowest_free.ensures _ c.in-Some-lowest_free.is in
    record { slots_in = m.0; numbers_fit = m.1 }

pub handle-requires : goal.handle-requires
handle-requires c = found_handle _ _ _ _ _ (known c.requires.admitted) c.requires.caller _ c.find.ensures _ c.in-Some.is _ c.load-found.ensures

pub returns : goal.returns
returns c = search (reach_made, known)
