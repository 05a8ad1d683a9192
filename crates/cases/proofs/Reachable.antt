-- Reachable is well-formed: every storage reached from a made one, by any calls with any N, C, lists and handles, refused ones included, and any results that
-- the promise allows.
use mathlib.Core.Path.{◌≡◌, refl, sym, ap, ◌∙◌, subst}
use mathlib.Core.Logic.{◌≢◌}
use mathlib.Core.Bool.{Bool, true, false, cond}
use mathlib.Core.List.{List, [], ◌∷◌, ◌++◌}
use Prim.Native.Nat.{ℕ, ◌+◌, ◌≤◌}
use native.Mathlib.Decide.{ℕ_discrete as dec_eq}
use native.Mathlib.Nat.{le_of_eq}
use native.Mathlib.Omega.{arith}
use lib.Dec.{leb, eqb}
use lib.ListN.{length, get_or, replicate, length-replicate}
use borrow.Author.Tests.{eqb-true, ne_eqb, le-leb}
use Rattle.std.specs.Prelude.{Ok}
use Rattle.laws.proofs.Tests.{and_three}
use Rattle.rules.specs.Table.{Table, fresh}
use Rattle.rules.specs.Outcome.{Call, Outcome, refuse, refuse_if}
use Rattle.rules.specs.Run.{run, after, in_range, entry}
use Rattle.rules.specs.WellFormed.{every, well_formed}
use Rattle.rules.proofs.Formed.{Formed}
use Rattle.rules.proofs.YesNo.{agree}
use Rattle.rules.proofs.Notifies.{refused_silent}
use Rattle.storage.specs.Layout.{sizes_of}
use Rattle.storage.specs.Rows.{Store, lent, Roomy, Around}
use Rattle.storage.specs.View.{view}
use Rattle.storage.proofs.Viewed.{size_view}
use Rattle.storage.proofs.Around.{around_same, around_then, roomy_around}
use Rattle.table.specs.Formed.{header_well, slot_formed, formed}
use Rattle.table.specs.Admission.{storage_fits, admits}
use Rattle.table.specs.Making.{make_no, fresh_words, made}
use Rattle.table.proofs.Facts.{fits, admitted}
use Rattle.table.proofs.Fresh.{made_roomy, make_done}
use Rattle.promise.specs.Promise.{Lists, outcome, Done}
use Rattle.promise.specs.declared.Answer.{Answer}
use Rattle.cases.specs.Step.{Request, Result, Allowed, Reached}
use Rattle.cases.specs.Made.{Made, passes, taken, calls_of}

-- ── What is asked first ──

module _ (n c : ℕ) (s : Store) (l : Lists) (call : Call) where
  pub outcome_passed : admits n c s (length l.wakes) (length l.releases) ≡ 0 → outcome n c s l call ≡ run (view n c s) call
  unfolding entry admits refuse_if
  outcome_passed e = rw e

  pub outcome_barred : admits n c s (length l.wakes) (length l.releases) ≢ 0 → outcome n c s l call ≡ refuse (view n c s) (admits n c s (length l.wakes) (length l.releases))
  unfolding entry admits refuse_if
  outcome_barred ne = rw (ne_eqb (admits n c s (length l.wakes) (length l.releases)) 0 ne)

-- ── The header settles N and C ──

header_in : (n c : ℕ) (s : Store) → formed n c s ≡ true → header_well n c s.words ≡ true
unfolding formed
header_in n c s e = (and_three (header_well n c s.words) (every n (slot_formed n c s.words)) (well_formed (view n c s)) e).0

well_in : (n c : ℕ) (s : Store) → formed n c s ≡ true → well_formed (view n c s) ≡ true
unfolding formed
well_in n c s e = (and_three (header_well n c s.words) (every n (slot_formed n c s.words)) (well_formed (view n c s)) e).2

-- the table that a well-formed storage shows
pub table_formed : (n c : ℕ) (s : Store) → formed n c s ≡ true → Formed (view n c s)
table_formed n c s e = (agree (view n c s)).0 (well_in n c s e)

pub range_in : (n c : ℕ) (s : Store) → formed n c s ≡ true → in_range n c ≡ true
unfolding view
range_in n c s e = subst (λ (k : ℕ). in_range k c ≡ true) (size_view n c s) (table_formed n c s e).range

pub few_in : (n c : ℕ) (s : Store) → formed n c s ≡ true → length (view n c s).slots ≤ 1024
few_in n c s e = (table_formed n c s e).sound.wf.sized

header_numbers : (n c : ℕ) (w : List ℕ) → header_well n c w ≡ true → (get_or w 0 0 ≡ n) × (get_or w 1 0 ≡ c)
unfolding header_well
header_numbers n c w e =
    let p = and_three (eqb (get_or w 0 0) n) (eqb (get_or w 1 0) c) (every 6 (λ k. eqb (get_or w (2 + k) 0) 0)) e in
    (eqb-true (get_or w 0 0) n p.0, eqb-true (get_or w 1 0) c p.1)

-- a storage is well-formed for one N and one C
pub one_header : (n c n' c' : ℕ) (s : Store) → formed n c s ≡ true → formed n' c' s ≡ true → (n' ≡ n) × (c' ≡ c)
one_header n c n' c' s e e' =
    let p = header_numbers n c s.words (header_in n c s e) in
    let p' = header_numbers n' c' s.words (header_in n' c' s e') in
    (sym p'.0 ∙ p.0, sym p'.1 ∙ p.1)

-- ── One call ──

-- what an allowed result of a request leaves of a storage of n slots of capacity c
pub record Next (n c : ℕ) (s : Store) (q : Request) (s' : Store) : Type 0 where
  pub well : formed n c s' ≡ true
  pub around : Around n c s s'
  pub shows : view n c s' ≡ after (view n c s) (taken s q)

-- the request is asked at the N and C that the storage has
pub record Fitting (n c : ℕ) (s : Store) (q : Request) : Type 0 where
  pub slots : q.n ≡ n
  pub capacity : q.c ≡ c
  pub admits_it : admits q.n q.c s (length q.lists.wakes) (length q.lists.releases) ≡ 0

at_numbers : (n c n' c' : ℕ) (s s' : Store) (l l' : Lists) (a : Answer) (call : Call) → n' ≡ n → c' ≡ c → Done (run (view n' c' s) call) n' c' s s' l l' a
    → Done (run (view n c s) call) n c s s' l l' a
at_numbers n c n' c' s s' l l' a call en ec d =
    subst (λ (k : ℕ). Done (run (view n k s) call) n k s s' l l' a) ec (subst (λ (k : ℕ). Done (run (view k c' s) call) k c' s s' l l' a) en d)

module _ (n c : ℕ) (s : Store) (e : formed n c s ≡ true) (q : Request) where
  pub fitting : admits q.n q.c s (length q.lists.wakes) (length q.lists.releases) ≡ 0 → Fitting n c s q
  fitting z =
      let p = one_header n c q.n q.c s e (admitted q.n q.c s _ _ z).is_formed in
      record { slots = p.0; capacity = p.1; admits_it = z }

  -- a request that is not taken leaves everything
  pub barred_same : (r : Result) → Allowed s q r → admits q.n q.c s (length q.lists.wakes) (length q.lists.releases) ≢ 0 → r.store ≡ s
  barred_same r a ne = a.promise.refused (λ z. ne (sym (ap (λ (o : Outcome). o.no) (outcome_barred q.n q.c s q.lists q.call ne)) ∙ z))

  -- one that is taken has the model's outcome
  pub taken_done : (r : Result) → Allowed s q r → Fitting n c s q → Done (run (view n c s) q.call) n c s r.store q.lists r.lists r.answer
  taken_done r a f =
      at_numbers n c q.n q.c s r.store q.lists r.lists r.answer q.call f.slots f.capacity
      (subst (λ (o : Outcome). Done o q.n q.c s r.store q.lists r.lists r.answer) (outcome_passed q.n q.c s q.lists q.call f.admits_it) a.promise)

  module _ (r : Result) (a : Allowed s q r) where
    same_next : r.store ≡ s → after (view n c s) (taken s q) ≡ view n c s → Next n c s q r.store
    same_next es et =
        record {
          well = ap (formed n c) es ∙ e;
          around = subst (Around n c s) (sym es) (around_same n c s);
          shows = ap (view n c) es ∙ sym et;
        }

    barred_next : admits q.n q.c s (length q.lists.wakes) (length q.lists.releases) ≢ 0 → Next n c s q r.store
    unfolding taken passes after
    barred_next ne = same_next (barred_same r a ne) (rw (ne_eqb (admits q.n q.c s (length q.lists.wakes) (length q.lists.releases)) 0 ne))

    taken_next : Fitting n c s q → Next n c s q r.store
    unfolding taken passes after
    taken_next f = go (dec_eq (run (view n c s) q.call).no 0)
      where
        d : Done (run (view n c s) q.call) n c s r.store q.lists r.lists r.answer
        d = taken_done r a f

        goes : after (view n c s) (taken s q) ≡ (run (view n c s) q.call).next
        goes = rw f.admits_it

        go : Dec ((run (view n c s) q.call).no ≡ 0) → Next n c s q r.store
        go (yes z) = let t = d.accepted z in record { well = t.well; around = t.around; shows = t.shows ∙ sym goes }
        go (no z) = same_next (d.refused z) (goes ∙ ap (λ (o : Outcome). o.next) (refused_silent (view n c s) (few_in n c s e) q.call z))

    pub step_next : Next n c s q r.store
    step_next =
        elim (dec_eq (admits q.n q.c s (length q.lists.wakes) (length q.lists.releases)) 0)
        [ yes z ↦ taken_next (fitting z) | no z ↦ barred_next z ]

-- ── A made storage ──

module _ (n c : ℕ) (s : Store) (m : Made n c s) where
  made_tests : (a b : Bool) → ◌≡◌ {A = ℕ} (cond a (cond b 0 18) 2) 0 → (a ≡ true) × (b ≡ true)
  made_tests true true z = (refl, refl)
  made_tests true false z = absurd (let y : ◌≡◌ {A = ℕ} 18 0 = z in omega arith)
  made_tests false b z = absurd (let y : ◌≡◌ {A = ℕ} 2 0 = z in omega arith)

  pub made_range : in_range n c ≡ true
  unfolding make_no
  made_range = (made_tests (in_range n c) (storage_fits n c m.before) m.accepted).0

  pub made_well : formed n c s ≡ true
  made_well = m.makes.well m.accepted

  pub made_fresh : view n c s ≡ fresh n c
  made_fresh = m.makes.shows m.accepted

  pub made_large : Roomy n c s
  unfolding make_no
  made_large =
      let f : Roomy n c m.before = fits n c m.before made_range (made_tests (in_range n c) (storage_fits n c m.before) m.accepted).1 in
      subst (Roomy n c) (sym (m.makes.storage ∙ ap (λ (k : ℕ). cond (eqb k 0) (made n c m.before) m.before) m.accepted)) (made_roomy n c m.before f)

-- whatever is lent, and is large enough, can be made; so there is a made storage of every N and C in range
pub can_make : (n c : ℕ) (s : Store) → in_range n c ≡ true → storage_fits n c s ≡ true → Made n c (made n c s)
unfolding make_no
can_make n c s r f =
    record {
      before = s;
      verdict = Ok tt;
      makes = make_done n c s.words s.bytes s.tokens true (sym r) refl true (sym f) (fresh_words n c s.words) refl refl;
      accepted = rw (r, f);
    }

abbrev pub zeroed : ℕ → ℕ → Store
zeroed n c = lent (replicate (sizes_of n c).words 0) (replicate (sizes_of n c).bytes 0) (replicate (sizes_of n c).tokens 0)

long : (k : ℕ) → leb k (length (replicate {A = ℕ} k 0)) ≡ true
long k = le-leb k _ (le_of_eq (sym (length-replicate k 0)))

pub some_made : (n c : ℕ) → in_range n c ≡ true → Made n c (made n c (zeroed n c))
unfolding storage_fits
some_made n c r = can_make n c (zeroed n c) r (rw (long (sizes_of n c).words, long (sizes_of n c).bytes, long (sizes_of n c).tokens))

-- ── Any calls ──

after_then : (t : Table) (cs ds : List Call) → after t (cs ++ ds) ≡ after (after t cs) ds
unfolding after
after_then t [] ds = refl
after_then t (x ∷ cs) ds = after_then (run t x).next cs ds

pub record Reachable {s₀ s : Store} (n c : ℕ) (p : Reached s₀ s) : Type 0 where
  -- it passes the check
  pub well : formed n c s ≡ true
  -- its sizes, its header and all beyond the least sizes are as they were
  pub around : Around n c s₀ s
  -- it shows the model's table after the calls that were taken
  pub shows : view n c s ≡ after (fresh n c) (calls_of p)

pub reachable : {s₀ s : Store} (n c : ℕ) → Made n c s₀ → (p : Reached s₀ s) → Reachable n c p
unfolding calls_of after
reachable {s₀} n c m Reached.start = record { well = made_well n c s₀ m; around = around_same n c s₀; shows = made_fresh n c s₀ m }
reachable {s₀} n c m (Reached.then' {s} p q r a) =
    let k = reachable n c m p in
    let x = step_next n c s k.well q r a in
    record {
      well = x.well;
      around = around_then k.around x.around;
      shows = x.shows ∙ ap (λ (t : Table). after t (taken s q)) k.shows ∙ sym (after_then (fresh n c) (calls_of p) (taken s q));
    }

-- it has all that its N and C ask for
pub reachable_large : {s₀ s : Store} (n c : ℕ) → Made n c s₀ → Reached s₀ s → Roomy n c s
reachable_large {s₀} n c m p = roomy_around (reachable n c m p).around (made_large n c s₀ m)
