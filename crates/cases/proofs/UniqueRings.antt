-- Rings that show the same hold the same where something is queued; groups tell the items and their places; an index tells its row.
use Prim.Native.Nat.{ℕ, zero, suc, ◌+◌, ◌-◌, ◌*◌, ◌/◌, ◌%◌, ◌^◌, ◌≤◌, ◌<◌}
use native.Mathlib.Nat.{not-suc-le-zero, div-lt_iff_lt-mul, mod-lt, mod-add-div, mul_comm, zero-mul}
use native.Mathlib.Omega.{arith}
use mathlib.Core.Path.{◌≡◌, refl, sym, ap, ◌∙◌, subst}
use mathlib.Core.Logic.{◌⊎◌, inl, inr}
use mathlib.Core.Bool.{cond}
use mathlib.Core.List.{List, [], ◌∷◌, ◌++◌}
use lib.Dec.{leb, eqb}
use lib.ListN.{length, get_or, replicate}
use borrow.Author.Tests.{le-leb, lt-leb, eqb-true}
use Rattle.laws.proofs.Tests.{cond_both, less_or}
use Rattle.ring.specs.Ring.{queued}
use Rattle.ring.proofs.Queued.{Place, queued_at}
use Rattle.inbox.specs.View.{dist, join, groups_of}
use Rattle.rules.specs.Table.{Group}
use Rattle.table.specs.Formed.{ahead}

-- ── Places in a ring of n ──

-- j lies as far behind a as `ahead` says
pub record Ahead (n a j : ℕ) : Type 0 where
  pub far : ahead n a j < n
  pub there : Place n (a + ahead n a j) j

pub ahead_there : (n a j : ℕ) → a < n → j < n → Ahead n a j
unfolding ahead
ahead_there n a j ha hj = go (less_or j a)
  where
    go : (j < a) ⊎ (a ≤ j) → Ahead n a j
    go (inl h) =
        let e : cond (leb a j) (j - a) (j + n - a) ≡ j + n - a = rw (lt-leb a j h) in
        record { far = omega arith; there = record { low = λ l. omega arith; high = λ u. omega arith } }
    go (inr h) =
        let e : cond (leb a j) (j - a) (j + n - a) ≡ j - a = rw (le-leb a j h) in
        record { far = omega arith; there = record { low = λ l. omega arith; high = λ u. omega arith } }

-- what stands at place j of a ring, among what is queued from h on
pub ring_at : (r : List ℕ) (c h m j : ℕ) → length r ≡ c → h < c → m ≤ c → j < c → ahead c h j < m → get_or (queued r h m) (ahead c h j) 0 ≡ get_or r j 0
ring_at r c h m j l hh hm hj ha = queued_at r h (omega arith) m (ahead c h j) j ha (omega arith) (subst (λ (x : ℕ). Place x (h + ahead c h j) j) (sym l) (ahead_there c h j hh hj).there)

pub ring_same : (r r' : List ℕ) (c h m j : ℕ) → length r ≡ c → length r' ≡ c → h < c → m ≤ c → j < c → ahead c h j < m → queued r h m ≡ queued r' h m → get_or r j 0 ≡ get_or r' j 0
ring_same r r' c h m j l l' hh hm hj ha e =
    sym (ring_at r c h m j l hh hm hj ha) ∙ ap (λ (x : List ℕ). get_or x (ahead c h j) 0) e ∙ ring_at r' c h m j l' hh hm hj ha

-- ── Groups ──

-- the place of each item
spread : List Group → List ℕ
spread [] = []
spread (g ∷ gs) = replicate (length g.items) g.place ++ spread gs

spread_join : (d t : ℕ) (gs : List Group) → spread (join d t gs) ≡ d ∷ spread gs
unfolding join spread
spread_join d t [] = refl
spread_join d t (g ∷ gs) =
    cond_both (λ r. spread r ≡ d ∷ spread (g ∷ gs)) (eqb g.place d)
    (λ e. ap (λ (x : ℕ). d ∷ (replicate (length g.items) x ++ spread gs)) (sym (eqb-true g.place d e)))
    (λ e. refl)

spread_all : (ds ts : List ℕ) → length ds ≡ length ts → spread (groups_of ds ts) ≡ ds
unfolding groups_of spread
spread_all [] ts e = refl
spread_all (d ∷ ds) [] e = let z : 1 ≤ 0 = omega arith in absurd (not-suc-le-zero z)
spread_all (d ∷ ds) (t ∷ ts) e = spread_join d t (groups_of ds ts) ∙ ap (λ (r : List ℕ). d ∷ r) (spread_all ds ts (omega arith))

pub same_places : (ds ts ds' ts' : List ℕ) → length ds ≡ length ts → length ds' ≡ length ts' → groups_of ds ts ≡ groups_of ds' ts' → ds ≡ ds'
same_places ds ts ds' ts' l l' e = sym (spread_all ds ts l) ∙ ap spread e ∙ spread_all ds' ts' l'

-- offsets at one distance from one offset
pub dist_once : (p p' r : ℕ) → p < 2 ^ 64 → p' < 2 ^ 64 → dist p r ≡ dist p' r → p ≡ p'
unfolding dist
dist_once p p' r h h' e = omega arith

-- ── Rows of length k, one behind the other ──

pub record Row (k m x : ℕ) : Type 0 where
  pub row : x / k < m
  pub place : x % k < k
  pub is : x ≡ k * (x / k) + x % k

pub row_of : (k m x : ℕ) → x < k * m → Row k m x
row_of zero m x h = absurd (not-suc-le-zero (subst (λ (y : ℕ). x < y) (zero-mul m) h))
row_of (suc k) m x h =
    let pos : 0 < suc k = omega arith in
    record {
      row = (div-lt_iff_lt-mul pos).1 (subst (λ (y : ℕ). x < y) (mul_comm (suc k) m) h);
      place = mod-lt x pos;
      is = let e = mod-add-div x (suc k) in omega arith;
    }
