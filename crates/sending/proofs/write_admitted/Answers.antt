use Rattle.sending.proofs.Sending.{write_sends}
use Rattle.sending.proofs.write_admitted.Goals as goal

pub returns : goal.returns
returns c = search write_sends
