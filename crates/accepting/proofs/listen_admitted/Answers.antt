use Rattle.promise.proofs.Known.{known}
use Rattle.accepting.proofs.Listening.{listen_stale, listen_closed, listen_unbound, listen_connected, listen_bound, listen_more, listen_less}
use Rattle.accepting.proofs.listen_admitted.Goals as goal

pub returns-then-not-is_live : goal.returns-then-not-is_live
returns-then-not-is_live c = search listen_stale

pub returns-then-listener-backlog : goal.returns-then-listener-backlog
returns-then-listener-backlog c = search (listen_more, known)

pub returns-in-Closed : goal.returns-in-Closed
returns-in-Closed c = search listen_closed

pub returns-in-Unbound : goal.returns-in-Unbound
returns-in-Unbound c = search listen_unbound

pub returns-in-Bound : goal.returns-in-Bound
returns-in-Bound c = search (listen_bound, known)

pub returns-else-listener-backlog : goal.returns-else-listener-backlog
returns-else-listener-backlog c = search (listen_less, known)

pub returns-in-Connected : goal.returns-in-Connected
returns-in-Connected c = search listen_connected
