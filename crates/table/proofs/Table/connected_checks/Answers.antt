use Rattle.std.proofs.Common.{arith}
use Rattle.std.proofs.lemmas.Grind.{common_steps}
use Rattle.storage.specs.Cells.{cell_at, state_of}
use Rattle.table.specs.Formed.{fields_well, pair_fields}
use Rattle.table.specs.OnePass.{generation_well, slot_checks}
use Rattle.table.proofs.Table.connected_checks.Goals as goal

pub returns-then-flags_well : goal.returns-then-flags_well
unfolding cell_at state_of slot_checks generation_well fields_well pair_fields
returns-then-flags_well c = grind (arith, common_steps)

pub returns-else-flags_well : goal.returns-else-flags_well
unfolding cell_at state_of slot_checks generation_well fields_well pair_fields
returns-else-flags_well c = grind (arith, common_steps)
