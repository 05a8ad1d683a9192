use Rattle.table.proofs.Admitting.{in_range_so, roomy_so, out_of_range, storage_short, list_short, damaged, let_pass}
use Rattle.storage.specs.Rows.{lent}
use borrow.Author.Rules.{rules}
use mathlib.Core.Path.{ap}
use mathlib.Core.Bool.{not}
use Rattle.table.proofs.admission.Goals as goal

pub returns-then-not-in_range : goal.returns-then-not-in_range
returns-then-not-in_range c = search out_of_range

pub storage_fits-requires : goal.storage_fits-requires
storage_fits-requires c =
    let a = c.args in
    let i = c.in_range in
    let z = in_range_so a.n a.c i.result i.ensures (ap not c.if-not-in_range.false) in
    search rules

pub returns-then-not-storage_fits : goal.returns-then-not-storage_fits
returns-then-not-storage_fits c = search storage_short

pub lists_fit-requires : goal.lists_fit-requires
lists_fit-requires c =
    let a = c.args in
    let i = c.in_range in
    let z = in_range_so a.n a.c i.result i.ensures (ap not c.if-not-in_range.false) in
    search rules

pub returns-then-not-lists_fit : goal.returns-then-not-lists_fit
returns-then-not-lists_fit c = search list_short

pub well_formed-requires : goal.well_formed-requires
well_formed-requires c =
    let a = c.args in
    let i = c.in_range in
    let f = c.storage_fits in
    let z = roomy_so a.n a.c i.result i.ensures (lent a.words.now a.bytes.now a.tokens.now) f.result (ap not c.if-not-in_range.false) f.ensures (ap not c.if-not-storage_fits.false) in
    search rules

pub returns-then-not-well_formed : goal.returns-then-not-well_formed
returns-then-not-well_formed c = search damaged

pub returns : goal.returns
returns c = search let_pass
