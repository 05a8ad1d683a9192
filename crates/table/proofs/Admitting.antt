-- What admission leaves at each return.
use mathlib.Core.Path.{◌≡◌, sym, ap, ◌∙◌}
use mathlib.Core.Bool.{Bool, true, false, cond, not, ◌&&◌}
use Prim.Native.Nat.{ℕ}
use borrow.Author.Tests.{not-true, not-false}
use Rattle.rules.specs.Run.{in_range, admission}
use Rattle.rules.specs.WellFormed.{every}
use Rattle.storage.specs.Rows.{Store, Roomy}
use Rattle.table.specs.Formed.{header_well}
use Rattle.table.specs.OnePass.{slot_checks, checks}
use Rattle.table.specs.Admission.{storage_fits, lists_fit, admits}
use Rattle.table.proofs.Facts.{Ranged, ranged, fits}
use Rattle.table.proofs.Equal.{admits_by_checks}

module _ (n c : ℕ) (p : Bool) (ep : p ≡ in_range n c) where
  pub in_range_so : not p ≡ false → Ranged n c
  in_range_so tp = ranged n c (sym ep ∙ not-false p tp)

  pub roomy_so : (s : Store) (q : Bool) → not p ≡ false → q ≡ storage_fits n c s → not q ≡ false → Roomy n c s
  roomy_so s q tp eq tq = fits n c s (sym ep ∙ not-false p tp) (sym eq ∙ not-false q tq)

  module _ (s : Store) (k m : ℕ) where
    pub out_of_range : not p ≡ true → 2 ≡ admits n c s k m
    unfolding admits admission
    out_of_range tp = rw (sym ep ∙ not-true p tp)

    module _ (tp : not p ≡ false) (q : Bool) (eq : q ≡ storage_fits n c s) where
      pub storage_short : not q ≡ true → 18 ≡ admits n c s k m
      unfolding admits admission
      storage_short tq = rw (sym ep ∙ not-false p tp, sym eq ∙ not-true q tq)

      module _ (tq : not q ≡ false) (r : Bool) (er : r ≡ lists_fit n c k m) where
        pub list_short : not r ≡ true → 18 ≡ admits n c s k m
        unfolding admits admission
        list_short tr = rw (sym ep ∙ not-false p tp, sym eq ∙ not-false q tq, sym er ∙ not-true r tr)

        module _ (tr : not r ≡ false) (d : Bool) (ed : d ≡ header_well n c s.words && every n (slot_checks n c s.words s.bytes)) where
          by_pass : cond d 0 19 ≡ admits n c s k m
          unfolding admission checks
          by_pass = sym (rw (sym ep ∙ not-false p tp, sym eq ∙ not-false q tq, sym er ∙ not-false r tr, sym ed)) ∙ admits_by_checks n c s k m

          pub damaged : not d ≡ true → 19 ≡ admits n c s k m
          damaged td = ap (λ (x : Bool). cond x 0 19) (sym (not-true d td)) ∙ by_pass

          pub let_pass : not d ≡ false → 0 ≡ admits n c s k m
          let_pass td = ap (λ (x : Bool). cond x 0 19) (sym (not-false d td)) ∙ by_pass
