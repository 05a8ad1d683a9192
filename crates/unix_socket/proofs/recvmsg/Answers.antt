use Rattle.unix_socket.proofs.Entered.{refused_first, then_runs, refused_fills, then_fills}
use Rattle.unix_socket.proofs.recvmsg.Goals as goal

pub returns-in_err-admission : goal.returns-in_err-admission
returns-in_err-admission c =
    record {
      promise = refused_first _ _ _ _ _ c.admission.ensures _ c.in_err-admission.was _ _ c.from_residual.ensures.1;
      promise_fills = refused_fills _ _ _ _ _ c.admission.ensures _ c.in_err-admission.was _ _ _;
    }

pub returns : goal.returns
returns c =
    record {
      promise = then_runs _ _ _ _ _ c.admission.ensures c.in_ok-admission.was _ _ _ _ c.recvmsg_admitted.ensures.runs;
      promise_fills = then_fills _ _ _ _ _ c.admission.ensures c.in_ok-admission.was _ _ _ _ _ c.recvmsg_admitted.ensures.fills;
    }
