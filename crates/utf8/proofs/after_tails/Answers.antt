use Rattle.std.proofs.Common.{ℕ, arith, rules, length-take, length-drop}
use Rattle.std.proofs.lemmas.Iterator.{YieldsList-from_slice}
use Rattle.std.proofs.lemmas.Iterator.Search.{all_from_yields_List}
use borrow.Author.Tests.{tests}
use Rattle.utf8.specs.Syntax.{has, tail}
use Rattle.utf8.proofs.Passing.{short, too_low, too_high, told}
use Rattle.utf8.proofs.after_tails.Goals as goal
use Rattle.utf8.proofs.after_tails.Goals.{then-second-low-via-then-second-low, then-second-low-via-else-second-low+then-high-second}

pub returns-in_default : goal.returns-in_default
returns-in_default c = short _ _ _ (omega arith)

pub returns-then-second-low : goal.returns-then-second-low
returns-then-second-low c = elim c.then-second-low.branch [
  | then-second-low-via-then-second-low w ↦ too_low _ _ _ _ w.if-second-low.true
  | then-second-low-via-else-second-low+then-high-second w ↦ too_high _ _ _ _ w.if-high-second.true
]

pub returns-in_err-tails : goal.returns-in_err-tails
returns-in_err-tails c = rw c.from_residual.ensures (short _ _ _ (omega (arith, length-take {A = ℕ}, length-drop {A = ℕ}, c.in_err-tails.ensures.cases)))

pub returns : goal.returns
unfolding has
returns c =
    let all = all_from_yields_List (has tail) _ _ c.all.result c.all.ensures.ran (YieldsList-from_slice c.in_ok-tails.tails.now cc) (λ x b q k. search (rules, tests)) in
    rw c.then_some.ensures (told _ _ _ c.args.s.now c.in_ok-tails.tails.now c.in_ok-tails.rest c.in-len1-up.len_at_least c.in_ok-tails.ensures.cases c.if-second-low.false c.if-high-second.false c.all.result all)
