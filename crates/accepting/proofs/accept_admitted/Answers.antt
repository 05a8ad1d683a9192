use Rattle.promise.proofs.Known.{known}
use Rattle.accepting.proofs.Accepting.{entry_in, next_in, next_fits, server_in, server_still_in, accept_stale, accept_not, accept_none, accept_damaged, accept_made}
use Rattle.accepting.proofs.accept_admitted.Goals as goal

pub returns-then-not-is_live : goal.returns-then-not-is_live
returns-then-not-is_live c = search accept_stale

pub returns-in_default : goal.returns-in_default
returns-in_default c = search (accept_not, c.in_default.not-Listening)

pub returns-then-listener-eq0 : goal.returns-then-listener-eq0
returns-then-listener-eq0 c = search accept_none

pub load-pending-requires : goal.load-pending-requires
load-pending-requires c = search server_in

pub returns-in_default-state : goal.returns-in_default-state
returns-in_default-state c = search (accept_damaged, known, c.in_default-state.not-Connected)

pub entry-server-requires : goal.entry-server-requires
entry-server-requires c = entry_in c.requires _ _ c.is_live.ensures (search) _ c.slot_of-i.ensures _ c.load-slot.ensures c.in-Listening.listener c.in-Listening.is

pub overflow_add-listener : goal.overflow_add-listener
overflow_add-listener c = record { fits = search next_fits }

pub place-requires : goal.place-requires
place-requires c = search next_in

pub store-requires-2 : goal.store-requires-2
store-requires-2 c = search server_still_in

pub returns : goal.returns
returns c = search (accept_made, known)
