use native.Mathlib.Omega.{arith}
use Rattle.storage.specs.Rows.{lent}
use Rattle.table.proofs.Admitting.{in_range_so, roomy_so}
use Rattle.table.proofs.Fresh.{make_range, make_short, make_done}
use mathlib.Core.Path.{ap}
use mathlib.Core.Bool.{not}
use Rattle.table.proofs.make.make.Goals as goal

pub returns-then-not-in_range : goal.returns-then-not-in_range
returns-then-not-in_range c = search make_range

pub storage_fits-requires : goal.storage_fits-requires
storage_fits-requires c =
    let a = c.args in
    let i = c.in_range in
    let z = in_range_so a.n a.c i.result i.ensures (ap not c.if-not-in_range.false) in
    (z.few, z.small)

pub returns-then-not-storage_fits : goal.returns-then-not-storage_fits
returns-then-not-storage_fits c = search make_short

pub clear-requires : goal.clear-requires
clear-requires c =
    let a = c.args in
    let i = c.in_range in
    let f = c.storage_fits in
    let z = roomy_so a.n a.c i.result i.ensures (lent a.words.now a.bytes.now a.tokens.now) f.result (ap not c.if-not-in_range.false) f.ensures (ap not c.if-not-storage_fits.false) in
    (z.few, let w = z.words in omega arith)

pub returns : goal.returns
returns c = search make_done
