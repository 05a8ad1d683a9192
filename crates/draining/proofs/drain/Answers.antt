use Rattle.promise.proofs.Asked.{own_in}
use Rattle.draining.proofs.Draining.{slot_within, all_roomy, releases_long, take_well, drains_apart, drains_none, drains_taken}
use Rattle.draining.proofs.drain.Goals as goal

pub load-slot-requires : goal.load-slot-requires
load-slot-requires c = search own_in

pub returns-in_default : goal.returns-in_default
returns-in_default c = search drains_apart

pub returns-then-queued-eq0 : goal.returns-then-queued-eq0
returns-then-queued-eq0 c = search drains_none

pub take-taken-requires : goal.take-taken-requires
take-taken-requires c = search (slot_within, all_roomy, releases_long, take_well)

pub store_inbox-requires : goal.store_inbox-requires
store_inbox-requires c = search own_in

pub returns : goal.returns
returns c = search drains_taken
