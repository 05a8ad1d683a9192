use mathlib.Core.Path.{refl}
use Rattle.storage.proofs.Lending.{mid-paste}
use Rattle.storage.specs.Layout.{name_base}
use Rattle.storage.proofs.names.put_name.Goals as goal

pub returns : goal.returns
returns c =
    let a = c.args in
    rw c.copy_from_slice.ensures.after (mid-paste a.bytes.now a.name.now (name_base a.n a.c a.i) _ refl)
