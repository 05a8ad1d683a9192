-- "Each pending server is in one queue, once" as a count over all queues, and what it says of each queue.
use mathlib.Core.Path.{◌≡◌, refl, sym, subst}
use mathlib.Core.Logic.{◌≢◌, ⊎_elim}
use Prim.Native.Nat.{ℕ, zero, suc, ◌+◌, ◌≤◌, ◌<◌}
use native.Mathlib.Omega.{arith}
use native.Mathlib.Decide.{ℕ_discrete}
use mathlib.Core.Bool.{cond}
use mathlib.Core.List.Memᴰ
use mathlib.Core.List.{List, [], ◌∷◌, Memᴰ}
use lib.Dec.{eqb}
use borrow.Author.Tests.{eq-eqb, ne_eqb}
use Rattle.rules.specs.WellFormed.{count, queued_in}
use Rattle.rules.proofs.Model.{Table, at, queued}
use Rattle.rules.proofs.Queues.{Once}

-- ── One queue ──

pub count-mem : (s : ℕ) (q : List ℕ) → Memᴰ s q → 1 ≤ count s q
unfolding count
count-mem s [] m = absurd (Memᴰ.not-nil m)
count-mem s (x ∷ q) m = ⊎_elim (λ e. rw (eq-eqb x s (sym e)) (omega arith)) (λ n. let h = count-mem s q n in omega arith) (Memᴰ.cases_cons m)

pub mem-count : (s : ℕ) (q : List ℕ) → 1 ≤ count s q → Memᴰ s q
unfolding count
mem-count s [] h = absurd (omega arith)
mem-count s (x ∷ q) h = go (ℕ_discrete x s) (mem-count s q)
  where
    go : Dec (x ≡ s) → (1 ≤ count s q → Memᴰ s q) → Memᴰ s (x ∷ q)
    go (yes e) f = Memᴰ.head (sym e)
    go (no n) f = let k : 1 ≤ 0 + count s q = rw (ne_eqb x s n) at h in Memᴰ.tail (f (omega arith))

none-mem : (s : ℕ) (q : List ℕ) → (Memᴰ s q → ⊥) → count s q ≡ 0
none-mem s q n = go (count s q) refl
  where
    go : (k : ℕ) → count s q ≡ k → count s q ≡ 0
    go zero e = e
    go (suc k) e = absurd (n (mem-count s q (omega arith)))

pub once_count : (s : ℕ) (q : List ℕ) → Once q → Memᴰ s q → count s q ≡ 1
unfolding count
once_count s [] o m = absurd (Memᴰ.not-nil m)
once_count s (x ∷ q) o m = go (ℕ_discrete x s) (once_count s q o.1)
  where
    go : Dec (x ≡ s) → (Memᴰ s q → count s q ≡ 1) → cond (eqb x s) 1 0 + count s q ≡ 1
    go (yes e) f = let z = none-mem s q (λ n. o.0 (subst (λ (k : ℕ). Memᴰ k q) (sym e) n)) in rw (eq-eqb x s e) (omega arith)
    go (no n) f = ⊎_elim (λ e. absurd (n (sym e))) (λ m'. let z = f m' in rw (ne_eqb x s n) (omega arith)) (Memᴰ.cases_cons m)

pub count_once : (q : List ℕ) → ((s : ℕ) → Memᴰ s q → count s q ≤ 1) → Once q
unfolding count
count_once [] f = tt
count_once (x ∷ q) f = (
  λ m. let h = count-mem x q m in let g : cond (eqb x x) 1 0 + count x q ≤ 1 = f x (Memᴰ.head refl) in let k : 1 + count x q ≤ 1 = rw (eq-eqb x x refl) at g in omega arith,
  count_once q (λ s m. let g : cond (eqb x s) 1 0 + count s q ≤ 1 = f s (Memᴰ.tail m) in omega arith),
)

-- ── All queues ──

module _ (t : Table) (s : ℕ) where
  abbrev in_slot : ℕ → ℕ
  in_slot i = count s (queued (at t i).state)

  pub slot_below : (n i : ℕ) → i < n → in_slot i ≤ queued_in t n s
  unfolding queued_in
  slot_below zero i h = absurd (omega arith)
  slot_below (suc n) i h = go (ℕ_discrete i n) (slot_below n i)
    where
      go : Dec (i ≡ n) → (i < n → in_slot i ≤ queued_in t n s) → in_slot i ≤ in_slot n + queued_in t n s
      go (yes e) f = rw e (omega arith)
      go (no z) f = let k = f (omega arith) in omega arith

  -- two slots hold it: it is counted twice
  pub two_slots : (n i j : ℕ) → i < j → j < n → in_slot i + in_slot j ≤ queued_in t n s
  unfolding queued_in
  two_slots zero i j a b = absurd (omega arith)
  two_slots (suc n) i j a b = go (ℕ_discrete j n) (two_slots n i j a)
    where
      go : Dec (j ≡ n) → (j < n → in_slot i + in_slot j ≤ queued_in t n s) → in_slot i + in_slot j ≤ in_slot n + queued_in t n s
      go (yes e) f = let k : in_slot i ≤ queued_in t n s = slot_below n i (omega arith) in rw e (omega arith)
      go (no z) f = let k = f (omega arith) in omega arith

  -- some slot holds it
  pub some_slot : (n : ℕ) → 1 ≤ queued_in t n s → (i : ℕ) × (i < n) × Memᴰ s (queued (at t i).state)
  unfolding queued_in
  some_slot zero h = absurd (omega arith)
  some_slot (suc n) h = go (in_slot n) refl (some_slot n)
    where
      go : (k : ℕ) → in_slot n ≡ k → (1 ≤ queued_in t n s → (i : ℕ) × (i < n) × Memᴰ s (queued (at t i).state)) → (i : ℕ) × (i < suc n) × Memᴰ s (queued (at t i).state)
      go zero e f = let r = f (omega arith) in (r.0, (let l = r.1 in omega arith), r.2)
      go (suc k) e f = (n, omega arith, mem-count s (queued (at t n).state) (omega arith))

  -- one slot holds it, and once: it is counted once
  none_here : (n : ℕ) → ((j : ℕ) → j < n → Memᴰ s (queued (at t j).state) → ⊥) → queued_in t n s ≡ 0
  unfolding queued_in
  none_here zero f = refl
  none_here (suc n) f = let a = none-mem s _ (f n (omega arith)) in let b = none_here n (λ j h. f j (omega arith)) in omega arith

  pub one_slot : (n i : ℕ) → i < n → in_slot i ≡ 1 → ((j : ℕ) → j ≢ i → Memᴰ s (queued (at t j).state) → ⊥) → queued_in t n s ≡ 1
  unfolding queued_in
  one_slot zero i h e f = absurd (omega arith)
  one_slot (suc n) i h e f = go (ℕ_discrete i n) (λ l. one_slot n i l e f)
    where
      go : Dec (i ≡ n) → (i < n → queued_in t n s ≡ 1) → in_slot n + queued_in t n s ≡ 1
      go (yes z) g = let a = none_here n (λ j l. f j (λ w. omega arith)) in let b : in_slot n ≡ 1 = rw (← z) e in omega arith
      go (no z) g = let a = none-mem s _ (f n (λ w. z (sym w))) in let b = g (omega arith) in omega arith
