use mir.Facts.{to_z-of_z}
use Rattle.promise.proofs.Answering.{passed_on}
use Rattle.promise.proofs.Known.{known}
use Rattle.opening.proofs.Socketing.{found_fits, found_handle, socket_refused, socket_full, socket_made}
use Rattle.opening.proofs.socket_admitted.Goals as goal

pub returns-in_err-socket_refusal : goal.returns-in_err-socket_refusal
returns-in_err-socket_refusal c = search (socket_refused, to_z-of_z, passed_on, c.in_err-socket_refusal.was)

pub returns-in_default : goal.returns-in_default
returns-in_default c = search (socket_full, to_z-of_z, c.in_ok-socket_refusal.was)

pub overflow_add-generation : goal.overflow_add-generation
overflow_add-generation c = record { fits = search found_fits }

pub handle-requires : goal.handle-requires
handle-requires c = found_handle c.requires _ _ c.lowest_free.ensures c.in-Some.is _ c.load-generation.ensures

pub returns : goal.returns
returns c = search (socket_made, known, to_z-of_z, c.in_ok-socket_refusal.was)
