use Prim.Native.Nat.{◌+◌, ◌*◌}
use Rattle.storage.proofs.Lending.{takes_at}
use Rattle.storage.proofs.inboxes.take.Goals as goal

pub returns : goal.returns
returns c =
    let a = c.args in
    takes_at a.bytes.now a.words.now a.tokens.now _ _ _ _ _ _ _ (a.c * a.i) a.c (8 + 16 * a.n + 256 * a.i) (256 * a.i) _ _ c.take.ensures
