use mathlib.Core.Path.{sym}
use borrow.Author.Tests.{eqb-true, eqb-false}
use Rattle.std.proofs.Common.{rules}
use Rattle.address.proofs.Addresses.{says_empty, says_bad, says_path}
use Rattle.address.proofs.SockAddrUn.path.Goals.{then-is_empty-via-then-is_empty, then-is_empty-via-else-is_empty+then-not-is_utf8}
use Rattle.address.proofs.SockAddrUn.path.Goals as goal

pub returns-then-is_empty : goal.returns-then-is_empty
returns-then-is_empty c =
    elim c.then-is_empty.branch [
      | then-is_empty-via-then-is_empty w ↦ says_empty _ _ (search rules) _ c.get.ensures (search rules) c.before_zero-path.ensures (eqb-true _ 0 (sym w.if-is_empty.ensures))
      | then-is_empty-via-else-is_empty+then-not-is_utf8 w ↦ says_bad _ _ (search rules) _ c.get.ensures (search rules) c.before_zero-path.ensures (sym w.if-not-is_utf8.ensures)
    ]

pub returns : goal.returns
returns c = says_path _ _ (search rules) _ c.get.ensures (search rules) c.before_zero-path.ensures (eqb-false _ 0 (sym c.if-is_empty.ensures)) (sym c.if-not-is_utf8.ensures)
