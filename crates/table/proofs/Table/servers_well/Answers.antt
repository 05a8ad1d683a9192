use mathlib.Core.Path.{◌≡◌}
use mathlib.Core.Bool.{true, false}
use Rattle.std.proofs.Common.{rules}
use Rattle.std.proofs.lemmas.Iterator.{YieldsList-from_range, cases_from_all}
use borrow.Author.Tests.{tests}
use Rattle.table.specs.Formed.{tied_state}
use Rattle.table.specs.OnePass.{entry_well}
use Rattle.table.proofs.Conjunctions.{every_by_all}
use Rattle.table.proofs.Table.servers_well.Goals as goal

pub returns : goal.returns
unfolding tied_state
returns c =
    let a = c.args in
    let p = entry_well a.self.now.n a.self.now.words.now a.i a.listener in
    let m = a.listener.pending in
    every_by_all m p _
    (cases_from_all _ _ _ (λ k. p k ≡ true) (λ k. p k ≡ false) c.all.ensures.ran (YieldsList-from_range 0 m m (search rules) (search rules)) (λ x q k. search (rules, tests)) (λ x q k. search (rules, tests)))
