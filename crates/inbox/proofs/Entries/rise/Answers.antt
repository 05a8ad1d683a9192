use Rattle.std.proofs.Common.{◌≡◌, ◌+◌, false, drop, arith, rules, ◌∙◌}
use Rattle.inbox.specs.View.{distances}
use Rattle.inbox.specs.Well.{rises}
use Rattle.inbox.proofs.Parts.{rises_inside, rises_outside, rises_end}
use Rattle.inbox.proofs.Entries.rise.Goals as goal

pub returns-then-left-further : goal.returns-then-left-further
returns-then-left-further c =
    let no : false ≡ rises c.loop-i.low c.queued-n.result (drop c.loop-i.i (distances c.args.self.now.inbox c.args.self.now.places.now)) = search (rises_outside, rules) in
    cc

pub loop-i-preserved : goal.loop-i-preserved
loop-i-preserved c =
    let on : rises c.loop-i.low c.queued-n.result (drop c.loop-i.i (distances c.args.self.now.inbox c.args.self.now.places.now)) ≡ rises c.distance-d.result c.queued-n.result (drop (c.loop-i.i + 1) (distances c.args.self.now.inbox c.args.self.now.places.now)) = search (rises_inside, rules) in
    (omega (arith, c.loop-i.invariant.0, c.if-left-further.false), c.loop-i.invariant.1 ∙ on)

pub returns : goal.returns
returns c = search (rises_end, rules)
