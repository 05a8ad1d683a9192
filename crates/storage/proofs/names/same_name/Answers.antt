use mathlib.Core.Path.{◌∙◌}
use Rattle.storage.proofs.Finds.{other_first, other_last}
use Rattle.storage.proofs.names.same_name.Goals as goal
use Rattle.storage.proofs.names.same_name.Goals.{then-eq, else-eq, then-eq-2, else-eq-2}

pub returns-else-eq-3 : goal.returns-else-eq-3
returns-else-eq-3 c =
    elim c.if-eq-2.branch [
      | then-eq-2 w ↦
          other_last 2 _ _ _ _ _ w.last_chunk-then-eq-2.ensures.cases w.last_chunk-then-eq-2-2.ensures.cases (w.value-is ∙ w.eq-then-eq-2.ensures) c.if-eq-3.false
      | else-eq-2 w ↦
          elim c.if-eq.branch [
            | then-eq v ↦ other_last 8 _ _ _ _ _ v.last_chunk.ensures.cases v.last_chunk-then-eq.ensures.cases (w.value-is ∙ v.value-is ∙ v.eq-then-eq.ensures) c.if-eq-3.false
            | else-eq v ↦ other_first _ _ _ _ _ c.first_chunk.ensures.cases c.first_chunk-2.ensures.cases (w.value-is ∙ v.value-is ∙ c.eq.ensures) c.if-eq-3.false
          ]
    ]
