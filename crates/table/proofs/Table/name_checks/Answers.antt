use Rattle.std.proofs.Common.{rules}
use Rattle.table.proofs.Pass.{name_first}
use Rattle.table.proofs.Table.name_checks.Goals as goal

pub returns : goal.returns
returns c =
    let e = name_first _ _ _ _ _ _ _ (search rules) (search rules) c.find.ensures in
    search rules
