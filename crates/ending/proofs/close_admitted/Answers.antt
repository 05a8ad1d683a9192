use Rattle.promise.proofs.Known.{known}
use Rattle.promise.proofs.Asked.{live-in, slots_in}
use Rattle.ending.proofs.Ended.{stale, closed_never, unbound_closed, bound_closed, is_state, generation_is, socket_fits, socket_within, connected_closed, wakes_room, releases_room}
use Rattle.ending.proofs.close_admitted.Goals as goal

pub returns-then-not-is_live : goal.returns-then-not-is_live
returns-then-not-is_live c = search stale

pub load-generation-requires : goal.load-generation-requires
load-generation-requires c = search live-in

pub leave-requires : goal.leave-requires
leave-requires c = search live-in

pub leave-requires-in-Bound : goal.leave-requires-in-Bound
leave-requires-in-Bound c = search live-in

pub end_listener-requires-clause-listens : goal.end_listener-requires-clause-listens
end_listener-requires-clause-listens c = search (is_state, generation_is)

pub end-done-requires : goal.end-done-requires
end-done-requires c = search (socket_within, socket_fits, slots_in, wakes_room, releases_room, known)

pub returns-in-Closed : goal.returns-in-Closed
returns-in-Closed c = search (closed_never, known)

pub returns-in-Unbound : goal.returns-in-Unbound
returns-in-Unbound c = search (unbound_closed, known)

pub returns-in-Bound : goal.returns-in-Bound
returns-in-Bound c = search (bound_closed, known)

pub returns-in-Connected : goal.returns-in-Connected
returns-in-Connected c = search (connected_closed, known)
