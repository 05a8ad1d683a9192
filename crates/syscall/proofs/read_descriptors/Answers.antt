use borrow.Author.Rules.{sfits_of}
use lib.ListN.{length-set}
use mathlib.Core.Path.{◌∙◌}
use native.Mathlib.Omega.{arith}
use Rattle.syscall.proofs.Bytes.{read_next}
use Rattle.syscall.proofs.read_descriptors.Goals as goal

pub loop-i-preserved : goal.loop-i-preserved
loop-i-preserved c = (simp length-set (omega arith), read_next _ _ _ c.loop-i.i _ (sfits_of c.number.type_inv) (omega arith) c.loop-i.invariant.1 (c.number.ensures ∙ c.read_descriptor.ensures))
