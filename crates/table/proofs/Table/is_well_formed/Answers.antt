use mathlib.Core.Path.{sym, ap, ◌∙◌}
use mathlib.Core.Bool.{not}
use Rattle.table.proofs.Conjunctions.{all_yet, all_here}
use Rattle.table.proofs.Pass.{slot_fails, slots_pass}
use Rattle.table.proofs.Runs.{closed_pass, run_passes}
use Rattle.table.proofs.Table.is_well_formed.Goals as goal

pub loop-i-init : goal.loop-i-init
loop-i-init c =
    let r = c.skip_closed-i.ensures in
    (r.inside, closed_pass _ _ _ _ 0 _ (all_yet _) r)

pub returns-then-not-slot_checks : goal.returns-then-not-slot_checks
returns-then-not-slot_checks c =
    let h = c.header_well in
    let s = c.slot_checks in
    slot_fails _ _ _ _ _ _ h.ensures (ap not c.if-not-header_well.false) _ c.if-i-self.true s.ensures (ap not c.if-not-slot_checks.true)

pub loop-i-preserved-then-i-self : goal.loop-i-preserved-then-i-self
loop-i-preserved-then-i-self c =
    let l = c.loop-i in
    let r = c.skip_well-i.ensures in
    let s = c.slot_checks in
    let z = c.skip_closed-i-then-i-self.ensures in
    (z.inside, closed_pass _ _ _ _ _ _ (all_here _ _ (run_passes _ _ _ _ _ _ l.invariant.1 r.run) (sym s.ensures ∙ c.if-not-slot_checks.false)) z)

pub returns : goal.returns
returns c =
    let h = c.header_well in
    let l = c.loop-i in
    slots_pass _ _ _ _ _ _ h.ensures (ap not c.if-not-header_well.false) c.loop-i-test.false l.invariant.1
