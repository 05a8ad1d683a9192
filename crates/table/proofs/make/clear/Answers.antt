use native.Mathlib.Omega.{arith}
use lib.ListN.{length-set}
use Rattle.table.proofs.Fresh.{cleared}
use Rattle.table.proofs.make.clear.Goals as goal

pub bounds-words-1 : goal.bounds-words-1
bounds-words-1 c = let a = c.args in omega (arith, length-set a.words.now 0 a.n)

pub returns : goal.returns
returns c =
    let a = c.args in
    cleared a.n a.c a.words.now _ (omega arith) (c.fill.ensures.after (λ y e. e))
