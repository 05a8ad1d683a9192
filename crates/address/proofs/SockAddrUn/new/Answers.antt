use Rattle.address.proofs.Addresses.{wrote}
use mathlib.Core.Path.{refl, ap}
use mathlib.Core.Bool.{not}
use borrow.Author.Rules.{rules}
use Rattle.address.proofs.SockAddrUn.new.Goals as goal

-- The family, then the path, then zeros.
pub returns : goal.returns
returns c =
    wrote _ _ (search rules) (search rules) _ c.is_utf8.ensures (ap not c.if-not-is_utf8.false) _ refl _ _ _ c.put.ensures c.copy_from_slice.ensures.after (c.fill.ensures.after (λ y e. e))
