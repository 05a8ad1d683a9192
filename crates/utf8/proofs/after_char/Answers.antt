use Rattle.std.proofs.Common.{arith}
use Rattle.utf8.proofs.Rows.{ascii, C2-DF, E0, E1-EC, ED, EE-EF, F0, F1-F3, F4, none, past, one, more, stop}
use Rattle.utf8.proofs.after_char.Goals as goal
use Rattle.utf8.proofs.after_char.Goals.{then-first-lt194, else-first-lt194+else-first-lt224, in_default-first-via-then-first-lt224-2, in_default-first-via-else-first-lt224-2+else-first-lt237+else-first-lt240+else-first-lt244}

-- The octet is in the row of its arm.
pub returns-then-first-lt128 : goal.returns-then-first-lt128
returns-then-first-lt128 c = one _ _ (ascii _ (omega arith))

pub returns-in-194-to-223 : goal.returns-in-194-to-223
returns-in-194-to-223 c = more _ _ (C2-DF _ (omega arith) (omega arith)) _ c.after_tails.ensures

pub returns-in-224 : goal.returns-in-224
returns-in-224 c = more _ _ (E0 c.in-224.is) _ c.after_tails-in-224.ensures

pub returns-in-225-to-236 : goal.returns-in-225-to-236
returns-in-225-to-236 c = more _ _ (E1-EC _ (omega arith) (omega arith)) _ c.after_tails-in-225-to-236.ensures

pub returns-in-237 : goal.returns-in-237
returns-in-237 c = more _ _ (ED c.in-237.is) _ c.after_tails-in-237.ensures

pub returns-in-238-to-239 : goal.returns-in-238-to-239
returns-in-238-to-239 c = more _ _ (EE-EF _ (omega arith) (omega arith)) _ c.after_tails-in-238-to-239.ensures

pub returns-in-240 : goal.returns-in-240
returns-in-240 c = more _ _ (F0 c.in-240.is) _ c.after_tails-in-240.ensures

pub returns-in-241-to-243 : goal.returns-in-241-to-243
returns-in-241-to-243 c = more _ _ (F1-F3 _ (omega arith) (omega arith)) _ c.after_tails-in-241-to-243.ensures

pub returns-in-244 : goal.returns-in-244
returns-in-244 c = more _ _ (F4 c.in-244.is) _ c.after_tails-in-244.ensures

pub returns-in_default-first : goal.returns-in_default-first
returns-in_default-first c = elim c.in_default-first.branch [
  | in_default-first-via-then-first-lt224-2 w ↦ elim c.if-first-lt194.branch [
    | then-first-lt194 v ↦ stop _ _ (none _ (omega arith) (omega arith))
    | else-first-lt194+else-first-lt224 v ↦ stop _ _ (none _ (omega arith) (omega arith))
  ]
  | in_default-first-via-else-first-lt224-2+else-first-lt237+else-first-lt240+else-first-lt244 w ↦ stop _ _ (past _ (omega arith))
]
