use Rattle.ending.proofs.Ended.{serves_always, server_fits, server_within, server_ended}
use Rattle.ending.proofs.end_server.Goals as goal

pub returns-in_default : goal.returns-in_default
returns-in_default c = absurd (search serves_always)

pub end-requires : goal.end-requires
end-requires c = search (server_within, server_fits)

pub returns : goal.returns
returns c = search server_ended
