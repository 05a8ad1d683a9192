use Rattle.std.proofs.Common.{◌∙◌, ap}
use Rattle.le.proofs.Widths.{le_first}
use Rattle.le.proofs.get.Goals as goal

pub returns : goal.returns
returns g c =
    let chunk = rw c.unwrap.ensures at c.first_chunk.ensures.cases in
    c.from_bytes.ensures ∙ ap g.T.LittleEndian.number (le_first g.row.N c.args.s.now _ c.args.at c.requires chunk)
