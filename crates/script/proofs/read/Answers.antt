use Rattle.std.proofs.Common.{arith}
use Rattle.script.proofs.Taken.{all_taken}
use Rattle.script.proofs.read.Goals as goal

pub returns-then-count-lt-TOO_MANY_BYTES-clause-whole :
    goal.returns-then-count-lt-TOO_MANY_BYTES-clause-whole
returns-then-count-lt-TOO_MANY_BYTES-clause-whole g c =
    all_taken g.R.Read.remaining c.args.reader _ c.take.result _ _
    c.take.ensures.limit c.take.ensures.inner c.new-script.ensures.items c.in_ok-count.ensures.bytes (grind (arith, c.in_ok-count.ensures.ok, c.new-script.ensures.len, c.if-count-lt-TOO_MANY_BYTES.true))
