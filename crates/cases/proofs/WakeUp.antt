-- No lost wake-up, over lent storage: the call after which a sleeper would no longer be refused with EAGAIN leaves what the sleeper waits for in its wake list.
use mathlib.Core.Path.{◌≡◌, sym, ap, ◌∙◌, subst}
use mathlib.Core.Logic.{◌≢◌}
use mathlib.Core.Bool.{Bool, true, false, cond, ◌&&◌}
use mathlib.Core.List.{Memᴰ}
use Prim.Native.Nat.{ℕ, ◌+◌, ◌≤◌}
use native.Mathlib.Decide.{ℕ_discrete as dec_eq}
use native.Mathlib.Omega.{arith}
use lib.ListN.{length, take}
use borrow.Author.Tests.{le-leb}
use Rattle.rules.specs.Table.{Table}
use Rattle.rules.specs.Outcome.{Call, Outcome}
use Rattle.rules.specs.Run.{run, in_range, admission}
use Rattle.rules.specs.Demand.{sleeps_on, Still}
use Rattle.rules.proofs.Wake.{no_lost_wake}
use Rattle.storage.specs.Layout.{sizes_of}
use Rattle.storage.specs.Rows.{Store, Roomy}
use Rattle.storage.specs.View.{view}
use Rattle.storage.proofs.Around.{roomy_around}
use Rattle.table.specs.Formed.{formed}
use Rattle.table.specs.Admission.{storage_fits, lists_fit, admits, Admitted}
use Rattle.table.proofs.Facts.{admitted, roomy}
use Rattle.promise.specs.Promise.{Lists, outcome}
use Rattle.promise.proofs.Known.{known}
use Rattle.cases.specs.Step.{Request, Result, Allowed, Reached}
use Rattle.cases.specs.Made.{Made}
use Rattle.cases.specs.Sleeper.{Sleeps, Stirs, Asleep, Woken}
use Rattle.cases.proofs.Reachable.{outcome_passed, outcome_barred, table_formed, range_in, Next, Fitting, fitting, barred_same, taken_done, step_next}
use Rattle.cases.proofs.Entries.{first_entries, wake_room}

-- ── What is asked first ──

not_8 : (a b d : Bool) → ◌≡◌ {A = ℕ} (cond a (cond b (cond d 0 19) 18) 2) 8 → ⊥
not_8 true true true e = let z : ◌≡◌ {A = ℕ} 0 8 = e in omega arith
not_8 true true false e = let z : ◌≡◌ {A = ℕ} 19 8 = e in omega arith
not_8 true false d e = let z : ◌≡◌ {A = ℕ} 18 8 = e in omega arith
not_8 false b d e = let z : ◌≡◌ {A = ℕ} 2 8 = e in omega arith

admits_not_8 : (n c : ℕ) (s : Store) (w r : ℕ) → admits n c s w r ≢ 8
unfolding admits admission
admits_not_8 n c s w r e = not_8 (in_range n c) (storage_fits n c s && lists_fit n c w r) (formed n c s) e

-- a call that answers EAGAIN has been let in
pub sleeper_in : (n c : ℕ) (s : Store) (l : Lists) (x : Call) → (outcome n c s l x).no ≡ 8 → admits n c s (length l.wakes) (length l.releases) ≡ 0
sleeper_in n c s l x e =
    elim (dec_eq (admits n c s (length l.wakes) (length l.releases)) 0) [
      | yes z ↦ z
      | no z ↦ absurd (admits_not_8 n c s (length l.wakes) (length l.releases) (sym (ap (λ (o : Outcome). o.no) (outcome_barred n c s l x z)) ∙ e))
    ]

pub storage-fits : (n c : ℕ) (s : Store) → Roomy n c s → storage_fits n c s ≡ true
unfolding storage_fits
storage-fits n c s f = rw (le-leb (sizes_of n c).words (length s.words) f.words, le-leb (sizes_of n c).bytes (length s.bytes) f.bytes, le-leb (sizes_of n c).tokens (length s.tokens) f.tokens)

pub let_in : (n c : ℕ) (s : Store) (w r : ℕ) → formed n c s ≡ true → Roomy n c s → lists_fit n c w r ≡ true → admits n c s w r ≡ 0
unfolding admits admission
let_in n c s w r e f l = rw (range_in n c s e, storage-fits n c s f, l, e)

-- ── One call ──

module _ (n c : ℕ) (x : Call) (s : Store) (a : Sleeps n c x s) where
  enters : Admitted n c s (length a.lists.wakes) (length a.lists.releases)
  enters = admitted n c s _ _ (sleeper_in n c s a.lists x a.again)

  blocks : (run (view n c s) x).no ≡ 8
  blocks = sym (ap (λ (o : Outcome). o.no) (outcome_passed n c s a.lists x (sleeper_in n c s a.lists x a.again))) ∙ a.again

  module _ (q : Request) (r : Result) (p : Allowed s q r) where
    after_it : Next n c s q r.store
    after_it = step_next n c s enters.is_formed q r p

    stirred : Stirs n c x r.store → (run (view n c r.store) x).no ≢ 8
    stirred b e =
        b.otherwise
        (ap (λ (o : Outcome). o.no)
        (outcome_passed n c r.store b.lists x
        (let_in n c r.store _ _ after_it.well (roomy_around after_it.around (roomy n c s _ _ enters)) b.large))
        ∙ e)

    -- a storage that has not changed would still refuse
    changed : Stirs n c x r.store → r.store ≢ s
    changed b e = stirred b (ap (λ (y : Store). (run (view n c y) x).no) e ∙ blocks)

    -- the wakes of a call that was taken are the first entries of its list
    listed : Fitting n c s q → take r.answer.wakes r.lists.wakes ≡ (run (view n c s) q.call).wakes
    listed f =
        let d = taken_done n c s enters.is_formed q r p f in
        let w = (run (view n c s) q.call).wakes in
        let long : q.n + 1 ≤ length q.lists.wakes = (admitted q.n q.c s _ _ f.admits_it).wake_list in
        let few : length w ≤ n + 1 = wake_room n c s (known enters) q.call in
        let same = f.slots in
        ap (λ (k : ℕ). take k r.lists.wakes) d.wake_count ∙ ap (take (length w)) d.wake_list ∙ first_entries w q.lists.wakes (omega arith)

    told : Fitting n c s q → Stirs n c x r.store → Still (view n c r.store) x → Woken x r
    told f b still =
        let d = taken_done n c s enters.is_formed q r p f in
        elim (dec_eq (run (view n c s) q.call).no 0) [
          | yes z ↦
              subst (Memᴰ (sleeps_on x)) (sym (listed f))
              (no_lost_wake (view n c s) (table_formed n c s enters.is_formed).sound.wf x q.call blocks
              (subst (λ (t : Table). Still t x) (d.accepted z).shows still)
              (subst (λ (t : Table). (run t x).no ≢ 8) (d.accepted z).shows (stirred b)))
          | no z ↦ absurd (changed b (d.refused z))
        ]

    -- at any storage, by any request with any result that the promise allows
    pub woken : Stirs n c x r.store → Still (view n c r.store) x → Woken x r
    woken b still =
        elim (dec_eq (admits q.n q.c s (length q.lists.wakes) (length q.lists.releases)) 0) [
          | yes z ↦ told (fitting n c s enters.is_formed q z) b still
          | no z ↦ absurd (changed b (barred_same n c s enters.is_formed q r p z))
        ]

-- ── Any calls ──

-- the sleeper is refused with EAGAIN at the end as well
still_asleep : {n c : ℕ} {x : Call} {s s' : Store} → Asleep n c x s s' → Sleeps n c x s'
still_asleep (Asleep.falls a) = a
still_asleep (Asleep.stays p q r g a) = a

-- x answers EAGAIN at a storage reached from a made one, and would after each call of a sequence, and after the next call would not
pub no_lost_wake_up : (n c : ℕ) {s₀ s s' : Store} → Made n c s₀ → Reached s₀ s → (x : Call) → Asleep n c x s s' → (q : Request) (r : Result) → Allowed s' q r
    → Stirs n c x r.store → Still (view n c r.store) x → Woken x r
no_lost_wake_up n c {s₀} {s} {s'} m p x a q r g b still = woken n c x s' (still_asleep a) q r g b still
