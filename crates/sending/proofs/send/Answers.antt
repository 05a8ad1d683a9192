use Rattle.promise.proofs.Answering.{passed_on}
use Rattle.promise.proofs.Known.{known}
use Rattle.sending.proofs.Sending.{peer_less, push_fits, push_well, push_may, sends_damaged, sends_refused, sends_pushed}
use Rattle.sending.proofs.send.Goals as goal

pub returns-in_default : goal.returns-in_default
returns-in_default c = search (sends_damaged, c.in_default.not-Connected)

pub push-pushed-requires : goal.push-pushed-requires
push-pushed-requires c = record { roomy = (search peer_less, (known c.requires.admitted).roomy); well = search push_well; may_push = search (push_may, c.in_ok-push_refusal.was) }

pub returns-in_err-push_refusal : goal.returns-in_err-push_refusal
returns-in_err-push_refusal c = search (sends_refused, passed_on, c.in_err-push_refusal.was)

pub push_refusal-requires : goal.push_refusal-requires
push_refusal-requires c = push_fits c.requires.admitted _ c.requires.peer_open _ c.slot_of-j.ensures _ c.load-slot.ensures c.in-Connected.peer c.in-Connected.is

pub returns : goal.returns
returns c = search (sends_pushed, c.in_ok-push_refusal.was)
