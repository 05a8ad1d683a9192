-- Along calls at the table's own N and C the storage shows the model's tables, and each answer is the model's.
use mathlib.Core.Path.{◌≡◌, sym, ap₂, ◌∙◌, subst}
use mathlib.Core.Bool.{true}
use mathlib.Core.List.{List, [], ◌∷◌}
use Prim.Native.Nat.{ℕ}
use lib.ListN.{length}
use Rattle.rules.specs.Table.{Table, fresh}
use Rattle.rules.specs.Outcome.{Call, Outcome}
use Rattle.rules.specs.Run.{run, after}
use Rattle.storage.specs.Rows.{Store, Roomy}
use Rattle.storage.specs.View.{view}
use Rattle.storage.proofs.Around.{roomy_around}
use Rattle.table.specs.Formed.{formed}
use Rattle.table.specs.Admission.{admits}
use Rattle.promise.specs.Promise.{Done, Filled}
use Rattle.cases.specs.Step.{Request, Result}
use Rattle.cases.specs.Made.{Made, passes, taken}
use Rattle.cases.specs.Leads.{Called, Leads}
use Rattle.cases.proofs.Reachable.{outcome_passed, Next, Fitting, taken_done, step_next, made_well, made_fresh, made_large}
use Rattle.cases.proofs.WakeUp.{let_in}

-- a storage of n slots of capacity c that shows this table
pub record Stands (n c : ℕ) (s : Store) (t : Table) : Type 0 where
  pub well : formed n c s ≡ true
  pub large : Roomy n c s
  pub shows : view n c s ≡ t

-- ── One call ──

module _ (n c : ℕ) (x : Call) (s : Store) (t : Table) (here : Stands n c s t) (k : Called n c x s) where
  abbrev q : Request
  q = k.request

  abbrev r : Result
  r = k.result

  fitted : Fitting n c s q
  fitted =
      let a = k.asks in
      let w : ℕ = length q.lists.wakes in
      let y : ℕ = length q.lists.releases in
      record {
        slots = a.slots;
        capacity = a.capacity;
        admits_it = ap₂ (λ (i j : ℕ). admits i j s w y) a.slots a.capacity ∙ let_in n c s w y here.well here.large a.large;
      }

  -- its answer and both lists
  pub called_done : Done (run t x) n c s r.store q.lists r.lists r.answer
  called_done =
      subst (λ (y : Table). Done (run y x) n c s r.store q.lists r.lists r.answer) here.shows
      (subst (λ (y : Call). Done (run (view n c s) y) n c s r.store q.lists r.lists r.answer) k.asks.call_is
      (taken_done n c s here.well q r k.allowed fitted))

  -- the caller's buffer and item list
  pub called_fills : Filled (run t x) q.buf r.buf q.items r.items
  called_fills =
      let at_it : run (view q.n q.c s) q.call ≡ run t x =
      ap₂ (λ (i j : ℕ). run (view i j s) q.call) k.asks.slots k.asks.capacity ∙ ap₂ run here.shows k.asks.call_is in
      subst (λ (o : Outcome). Filled o q.buf r.buf q.items r.items) (outcome_passed q.n q.c s q.lists q.call fitted.admits_it ∙ at_it)
      k.allowed.fills

  taken_one : after (view n c s) (taken s q) ≡ (run (view n c s) q.call).next
  unfolding taken passes after
  taken_one = rw fitted.admits_it

  -- the table after it
  pub called_next : Stands n c r.store (run t x).next
  called_next =
      let e : Next n c s q r.store = step_next n c s here.well q r k.allowed in
      record {
        well = e.well;
        large = roomy_around e.around here.large;
        shows = e.shows ∙ taken_one ∙ ap₂ (λ (y : Table) (z : Call). (run y z).next) here.shows k.asks.call_is;
      }

-- ── Calls one after another ──

pub followed : (n c : ℕ) (s s' : Store) (t : Table) (cs : List Call) → Stands n c s t → Leads n c s cs s' → Stands n c s' (after t cs)
unfolding after
followed n c s s' t [] here e = subst (λ (y : Store). Stands n c y t) (sym e) here
followed n c s s' t (x ∷ cs) here l = followed n c l.0.result.store s' (run t x).next cs (called_next n c x s t here l.0) l.1

-- from a made storage
pub from_made : (n c : ℕ) (s₀ s : Store) (cs : List Call) → Made n c s₀ → Leads n c s₀ cs s → Stands n c s (after (fresh n c) cs)
from_made n c s₀ s cs m l =
    followed n c s₀ s (fresh n c) cs (record { well = made_well n c s₀ m; large = made_large n c s₀ m; shows = made_fresh n c s₀ m }) l
