use mathlib.Core.Path.{sym}
use borrow.Author.Tests.{eqb-true, eqb-false}
use mathlib.Core.List.{[]}
use native.Mathlib.Omega.{arith}
use Rattle.syscall.proofs.Parsing.{no_control, under_16, not_rights, says, short_list, fits_list, parsed}
use borrow.Author.Rules.{rules}
use Rattle.syscall.proofs.parse_scm_rights.Goals as goal

pub returns-then-is_empty : goal.returns-then-is_empty
returns-then-is_empty c = no_control _ _ (eqb-true _ 0 (sym c.if-is_empty.ensures))

pub returns-then-control-lt16 : goal.returns-then-control-lt16
returns-then-control-lt16 c = under_16 _ _ (eqb-false _ 0 (sym c.if-is_empty.ensures)) (search rules)

pub returns-in_default : goal.returns-in_default
returns-in_default c = not_rights _ _ (eqb-false _ 0 (sym c.if-is_empty.ensures)) (search rules) _ c.read_header-hdr.ensures _ c.scm_rights_count.ensures c.in_default.is

pub returns-then-n-fds : goal.returns-then-n-fds
returns-then-n-fds c = short_list _ _ (eqb-false _ 0 (sym c.if-is_empty.ensures)) (search rules) _ c.read_header-hdr.ensures _ _ c.scm_rights_count.ensures c.in-Some.is (search rules)

pub slice_bounds-read_descriptors-count : goal.slice_bounds-read_descriptors-count
slice_bounds-read_descriptors-count c = omega (arith, says _ [] (eqb-false _ 0 (sym c.if-is_empty.ensures)) (search rules) _ c.read_header-hdr.ensures _ _ c.scm_rights_count.ensures c.in-Some.is)

pub slice_bounds-read_descriptors-start : goal.slice_bounds-read_descriptors-start
slice_bounds-read_descriptors-start c = omega (arith, says _ [] (eqb-false _ 0 (sym c.if-is_empty.ensures)) (search rules) _ c.read_header-hdr.ensures _ _ c.scm_rights_count.ensures c.in-Some.is)

pub slice_bounds-read_descriptors-end : goal.slice_bounds-read_descriptors-end
slice_bounds-read_descriptors-end c = omega (arith, says _ [] (eqb-false _ 0 (sym c.if-is_empty.ensures)) (search rules) _ c.read_header-hdr.ensures _ _ c.scm_rights_count.ensures c.in-Some.is)

pub read_descriptors-requires : goal.read_descriptors-requires
read_descriptors-requires c = fits_list _ c.args.fds.now (eqb-false _ 0 (sym c.if-is_empty.ensures)) (search rules) _ c.read_header-hdr.ensures _ _ c.scm_rights_count.ensures c.in-Some.is (search rules)

pub returns : goal.returns
returns c = parsed _ _ (eqb-false _ 0 (sym c.if-is_empty.ensures)) (search rules) _ c.read_header-hdr.ensures _ _ c.scm_rights_count.ensures c.in-Some.is (search rules) _ c.read_descriptors.ensures
