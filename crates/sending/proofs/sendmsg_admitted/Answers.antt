use Rattle.sending.proofs.Sending.{sendmsg_stale, sendmsg_apart, sendmsg_shut, sendmsg_gone, sendmsg_sends}
use Rattle.sending.proofs.sendmsg_admitted.Goals.{then-connection-via-then-connection, then-connection-via-else-connection+then-not-is_open}
use Rattle.sending.proofs.sendmsg_admitted.Goals as goal

pub returns-then-not-is_live : goal.returns-then-not-is_live
returns-then-not-is_live c = search sendmsg_stale

pub returns-in_default : goal.returns-in_default
returns-in_default c = search (sendmsg_apart, c.in_default.not-Connected)

pub returns-then-connection : goal.returns-then-connection
returns-then-connection c =
    elim c.then-connection.branch [
      | then-connection-via-then-connection w ↦ search sendmsg_shut
      | then-connection-via-else-connection+then-not-is_open w ↦ search sendmsg_gone
    ]

pub returns : goal.returns
returns c = search sendmsg_sends
