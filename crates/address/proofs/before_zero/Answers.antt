use Rattle.std.proofs.Common.{rules, tests, eqb}
use Rattle.std.proofs.lemmas.Iterator.{YieldsList-from_slice}
use Rattle.std.proofs.lemmas.Iterator.Search.{position_from_yields_List}
use Rattle.address.proofs.Zeros.{found, none}
use Rattle.address.proofs.before_zero.Goals as goal

pub returns-in-Some : goal.returns-in-Some
returns-in-Some c = found _ _ (position_from_yields_List (λ b. eqb b 0) _ _ c.position.result c.position.ensures.ran (YieldsList-from_slice _ c.iter.ensures.rest) (λ x b q k. search (rules, tests))) _ c.in-Some.is

pub returns-in-None : goal.returns-in-None
returns-in-None c = none _ _ (position_from_yields_List (λ b. eqb b 0) _ _ c.position.result c.position.ensures.ran (YieldsList-from_slice _ c.iter.ensures.rest) (λ x b q k. search (rules, tests))) c.in-None.is
