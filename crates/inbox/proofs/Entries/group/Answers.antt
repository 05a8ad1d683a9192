use Rattle.std.proofs.Common.{◌≡◌, ◌≢◌, get_or, refl, arith, rules, tests}
use Rattle.std.proofs.lemmas.Iterator.{IsFirst-from_position, YieldsList-from_range}
use Rattle.inbox.specs.View.{distances}
use Rattle.inbox.proofs.Shows.{length-distances}
use Rattle.inbox.proofs.Parts.{group_found}
use Rattle.inbox.proofs.Entries.group.Goals as goal

pub returns : goal.returns
returns c =
    let e = c.args.self.now in
    let ds = distances e.inbox e.places.now in
    let n = e.inbox.items in
    let first = IsFirst-from_position _ _ c.position.result (λ i. get_or ds i 0 ≢ 0) (λ i. get_or ds i 0 ≡ 0) c.position.ensures.ran (YieldsList-from_range 0 n n refl (omega arith)) (λ x q k. search (rules, tests)) (λ x q k. search (rules, tests)) in
    group_found ds n c.unwrap_or.result c.position.result (length-distances e.places.now e.inbox (search rules) e.items_in.0 e.items_in.1) first c.unwrap_or.ensures
