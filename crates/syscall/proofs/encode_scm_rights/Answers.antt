use native.Mathlib.Omega.{arith}
use Rattle.syscall.proofs.Encoding.{none, too_many, enough, header_held, space_held, lesser}
use borrow.Author.Rules.{rules}
use Rattle.syscall.proofs.encode_scm_rights.Goals as goal

pub returns-then-n-scm_rights_capacity : goal.returns-then-n-scm_rights_capacity
returns-then-n-scm_rights_capacity c = search too_many

pub returns-then-n-eq0 : goal.returns-then-n-eq0
returns-then-n-eq0 c = search none

pub returns-in_err-hdr : goal.returns-in_err-hdr
returns-in_err-hdr c = header_held _ _ _ c.scm_rights_capacity.ensures (search rules) c.if-n-eq0.false (omega arith) _ _ _ _ c.scm_rights.ensures c.in_err-hdr.was

pub returns-in_err-space : goal.returns-in_err-space
returns-in_err-space c = space_held _ _ _ c.scm_rights_capacity.ensures (search rules) c.if-n-eq0.false (omega arith) _ _ _ _ c.scm_rights_space.ensures c.in_err-space.was

pub write_header-requires : goal.write_header-requires
write_header-requires c = let a = c.args in omega (arith, enough a.fds.now a.control.now _ c.scm_rights_capacity.ensures (search rules) c.if-n-eq0.false)

pub write_descriptors-requires : goal.write_descriptors-requires
write_descriptors-requires c = let a = c.args in omega (arith, enough a.fds.now a.control.now _ c.scm_rights_capacity.ensures (search rules) c.if-n-eq0.false)

pub returns : goal.returns
returns c = lesser _ _ _ c.scm_rights_capacity.ensures (search rules) c.if-n-eq0.false _ _ c.scm_rights.ensures c.in_ok-hdr.was (omega arith) _ _ c.write_header.ensures c.write_descriptors.ensures _ _ c.scm_rights_space.ensures c.in_ok-space.was _ (search rules)
