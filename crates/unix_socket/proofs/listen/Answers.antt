use Rattle.unix_socket.proofs.Entered.{refused_first, then_runs}
use Rattle.unix_socket.proofs.listen.Goals as goal

pub returns-in_err-admission : goal.returns-in_err-admission
returns-in_err-admission c =
    refused_first _ _ _ _ _ c.admission.ensures _ c.in_err-admission.was _ _ c.from_residual.ensures.1

pub returns : goal.returns
returns c = then_runs _ _ _ _ _ c.admission.ensures c.in_ok-admission.was _ _ _ _ c.listen_admitted.ensures
