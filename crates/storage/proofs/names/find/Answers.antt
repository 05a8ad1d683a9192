use borrow.Author.Rules.{rules}
use borrow.Author.Tests.{tests}
use Prim.Native.Nat.{ℕ}
use mathlib.Core.Bool.{true, false}
use mathlib.Core.Path.{◌≡◌}
use Rattle.std.proofs.lemmas.Iterator.{first_from_Range}
use Rattle.storage.specs.Layout.{part, name_base}
use Rattle.storage.specs.Cells.{cell_at}
use Rattle.storage.specs.Finding.{holds_cell}
use Rattle.storage.proofs.Finds.{lowest_found}
use Rattle.storage.proofs.names.find.Goals as goal

pub returns : goal.returns
returns c =
    let a = c.args in
    let p = λ (i : ℕ). holds_cell (cell_at a.words.now i) (part (name_base a.n a.c i) 255 a.bytes.now) a.name.now in
    lowest_found a.m p c.find.result (first_from_Range _ _ _ c.find.result (λ i. p i ≡ true) (λ i. p i ≡ false) c.find.ensures.ran (λ x q k. search (rules, tests)) (λ x q k. search (rules, tests)))
