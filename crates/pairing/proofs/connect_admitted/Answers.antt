use Rattle.promise.proofs.Answering.{passed_on}
use Rattle.pairing.proofs.Reaching.{connect_stale, connect_unnamed, connect_closed, connect_bound, connect_listening, connect_connected, may_reach}
use Rattle.pairing.proofs.connect_admitted.Goals as goal

pub returns-then-not-is_live : goal.returns-then-not-is_live
returns-then-not-is_live c = search connect_stale

pub returns-in_err-refusal : goal.returns-in_err-refusal
returns-in_err-refusal c = search (connect_unnamed, passed_on, c.in_err-refusal.was)

pub reach-requires : goal.reach-requires
reach-requires c = record { admitted = c.requires; caller = search (may_reach, c.in_ok-refusal.was) }

pub returns-in-Closed : goal.returns-in-Closed
returns-in-Closed c = search (connect_closed, c.in_ok-refusal.was)

pub returns-in-Bound : goal.returns-in-Bound
returns-in-Bound c = search (connect_bound, c.in_ok-refusal.was)

pub returns-in-Listening : goal.returns-in-Listening
returns-in-Listening c = search (connect_listening, c.in_ok-refusal.was)

pub returns-in-Connected : goal.returns-in-Connected
returns-in-Connected c = search (connect_connected, c.in_ok-refusal.was)
