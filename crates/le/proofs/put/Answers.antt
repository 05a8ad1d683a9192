use Rattle.le.proofs.Widths.{put_mid-sets, length-bytes}
use Rattle.le.proofs.put.Goals as goal

pub returns : goal.returns
returns g c = rw (c.copy_from_slice.ensures.after, c.to_bytes.ensures) (put_mid-sets c.args.s.now _ c.args.at g.row.N c.requires (length-bytes g.row.N _))
