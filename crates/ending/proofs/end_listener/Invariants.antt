use Rattle.ending.proofs.Ended.{Going}
use Rattle.ending.proofs.end_listener.Given as goal

abbrev pub invariant-loop-k : goal.invariant-loop-k
invariant-loop-k l = Going l.n l.c l.i l.listener l.bytes l.tokens l.initial.words l.initial.wakes l.initial.releases l.initial.done l.k l.words l.wakes l.releases l.done
