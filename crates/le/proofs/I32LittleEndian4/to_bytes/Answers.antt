use Rattle.std.proofs.Common.{of_z, ◌∙◌, ap}
use Rattle.std.specs.Int.{w32}
use Rattle.std.proofs.lemmas.Int.{to_z-of_z}
use Rattle.le.specs.Le.{bytes}
use Rattle.le.proofs.Widths.{to_le_bytes-is}
use Rattle.le.proofs.I32LittleEndian4.to_bytes.Goals as goal

pub returns : goal.returns
returns c = c.to_le_bytes.ensures ∙ to_le_bytes-is 4 _ ∙ ap (λ z. bytes 4 (of_z w32 z)) (to_z-of_z w32 c.args.self c.ranges.self)
