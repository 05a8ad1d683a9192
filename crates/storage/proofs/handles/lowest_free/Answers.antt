use borrow.Author.Rules.{rules}
use borrow.Author.Tests.{tests}
use Prim.Native.Nat.{ℕ}
use mathlib.Core.Bool.{true, false}
use mathlib.Core.Path.{◌≡◌}
use Rattle.std.proofs.lemmas.Iterator.{first_from_Range}
use Rattle.storage.specs.Cells.{cell_at}
use Rattle.storage.specs.Finding.{free_cell}
use Rattle.storage.proofs.Finds.{lowest_found}
use Rattle.storage.proofs.handles.lowest_free.Goals as goal

pub returns : goal.returns
returns c =
    let a = c.args in
    let p = λ (i : ℕ). free_cell (cell_at a.words.now i) in
    lowest_found a.n p c.find.result (first_from_Range _ _ _ c.find.result (λ i. p i ≡ true) (λ i. p i ≡ false) c.find.ensures.ran (λ x q k. search (rules, tests)) (λ x q k. search (rules, tests)))
