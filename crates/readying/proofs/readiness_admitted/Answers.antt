use Rattle.readying.proofs.Readying.{stale, closed_never, of_nothing, of_empty, of_waiting, of_connected}
use Rattle.promise.proofs.Known.{known}
use Rattle.promise.proofs.Asked.{live-in}
use Rattle.readying.proofs.readiness_admitted.Goals as goal

pub returns-then-not-is_live : goal.returns-then-not-is_live
returns-then-not-is_live c = search stale

pub load-slot-requires : goal.load-slot-requires
load-slot-requires c = search live-in

pub returns-in-Closed : goal.returns-in-Closed
returns-in-Closed c = search (closed_never, known)

pub returns-in-Unbound : goal.returns-in-Unbound
returns-in-Unbound c = search (of_nothing, known)

pub returns-in-Listening : goal.returns-in-Listening
returns-in-Listening c = search (of_empty, known)

pub returns-in-Listening-2 : goal.returns-in-Listening-2
returns-in-Listening-2 c = search (of_waiting, known)

pub returns-in-Connected : goal.returns-in-Connected
returns-in-Connected c = search (of_connected, known)
