use Rattle.eidrovang.proofs.Parts.{has_path, no_path}
use borrow.Author.Rules.{rules}
use Rattle.eidrovang.proofs.plain.eid_address_path.Goals as goal

pub returns-in-Ok : goal.returns-in-Ok
returns-in-Ok c = has_path _ _ c.in-Ok.ensures

pub returns-in-Err : goal.returns-in-Err
returns-in-Err c = no_path _ _ c.in-Err.ensures _ _ _ c.number.ensures (search rules) (search rules)
