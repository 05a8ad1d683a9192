use Rattle.promise.proofs.Answering.{passed_on}
use Rattle.promise.proofs.Known.{known}
use Rattle.opening.proofs.Binding.{bind_stale, bind_unnamed, bind_again, bind_taken, bind_made}
use Rattle.opening.proofs.bind_admitted.Goals as goal

pub returns-then-not-is_live : goal.returns-then-not-is_live
returns-then-not-is_live c = search bind_stale

pub returns-in_err-refusal : goal.returns-in_err-refusal
returns-in_err-refusal c = search (bind_unnamed, passed_on, c.in_err-refusal.was)

pub returns-in_default : goal.returns-in_default
returns-in_default c = search (bind_again, c.in_ok-refusal.was, c.in_default.not-Unbound)

pub returns-then-is_some : goal.returns-then-is_some
returns-then-is_some c = search (bind_taken, c.in_ok-refusal.was)

pub returns : goal.returns
returns c = search (bind_made, known, c.in_ok-refusal.was)
