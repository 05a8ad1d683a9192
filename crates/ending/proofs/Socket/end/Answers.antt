use Rattle.ending.proofs.Ended.{ends_woken, ends_silent}
use Rattle.ending.proofs.Socket.end.Goals as goal

pub returns-then-not-peer_open : goal.returns-then-not-peer_open
returns-then-not-peer_open c = search ends_silent

pub returns : goal.returns
returns c = search ends_woken
