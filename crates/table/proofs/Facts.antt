-- A call that admission lets pass has what `Admitted` says.
use mathlib.Core.Path.{◌≡◌, refl}
use mathlib.Core.Logic.{◌≢◌}
use mathlib.Core.Bool.{Bool, true, false, cond, ◌&&◌}
use Prim.Native.Nat.{ℕ, suc, ◌≤◌}
use native.Mathlib.Omega.{arith}
use lib.Dec.{leb}
use lib.ListN.{length}
use borrow.Author.Tests.{leb-true}
use Rattle.laws.proofs.Tests.{and_left, and_right, and_three, and_four}
use Rattle.rules.specs.Run.{in_range, admission}
use Rattle.storage.specs.Layout.{sizes_of}
use Rattle.storage.specs.Rows.{Store, Roomy}
use Rattle.table.specs.Formed.{formed}
use Rattle.table.specs.Admission.{storage_fits, lists_fit, admits, Admitted}

never : (n : ℕ) → suc n ≢ 0
never n e = omega arith

-- the three tests of admission
all_three : (a b d : Bool) → ◌≡◌ {A = ℕ} (cond a (cond b (cond d 0 19) 18) 2) 0 → (a ≡ true) × (b ≡ true) × (d ≡ true)
all_three true true true e = (refl, refl, refl)
all_three true true false e = absurd (never 18 e)
all_three true false d e = absurd (never 17 e)
all_three false b d e = absurd (never 1 e)

-- the numbers in range
pub record Ranged (n c : ℕ) : Type 0 where
  pub some_slot : 1 ≤ n
  pub few : n ≤ 1024
  pub some_byte : 1 ≤ c
  pub small : c ≤ 65536

pub ranged : (n c : ℕ) → in_range n c ≡ true → Ranged n c
unfolding in_range
ranged n c e =
    let l = and_four (leb 1 n) (leb n 1024) (leb 1 c) (leb c 65536) e in
    record { some_slot = leb-true _ _ l.0; few = leb-true _ _ l.1; some_byte = leb-true _ _ l.2; small = leb-true _ _ l.3 }

-- the sizes
pub fits : (n c : ℕ) (s : Store) → in_range n c ≡ true → storage_fits n c s ≡ true → Roomy n c s
unfolding storage_fits
fits n c s r e =
    let l = and_three (leb (sizes_of n c).words (length s.words)) (leb (sizes_of n c).bytes (length s.bytes)) (leb (sizes_of n c).tokens (length s.tokens)) e in
    let k = ranged n c r in
    record { few = k.few; small = k.small; words = leb-true _ _ l.0; bytes = leb-true _ _ l.1; tokens = leb-true _ _ l.2 }

pub admitted : (n c : ℕ) (s : Store) (wakes releases : ℕ) → admits n c s wakes releases ≡ 0 → Admitted n c s wakes releases
unfolding admits admission lists_fit
admitted n c s wakes releases e =
    let t = all_three (in_range n c) (storage_fits n c s && lists_fit n c wakes releases) (formed n c s) e in
    let k = ranged n c t.0 in
    let f = fits n c s t.0 (and_left (storage_fits n c s) (lists_fit n c wakes releases) t.1) in
    let l : leb (sizes_of n c).wakes wakes && leb (sizes_of n c).releases releases ≡ true = and_right (storage_fits n c s) (lists_fit n c wakes releases) t.1 in
    record {
      some_slot = k.some_slot;
      few = k.few;
      some_byte = k.some_byte;
      small = k.small;
      words = f.words;
      bytes = f.bytes;
      tokens = f.tokens;
      wake_list = leb-true _ _ (and_left (leb (sizes_of n c).wakes wakes) _ l);
      release_list = leb-true _ _ (and_right (leb (sizes_of n c).wakes wakes) _ l);
      is_formed = t.2;
    }

-- the rows of an admitted storage
pub roomy : (n c : ℕ) (s : Store) (wakes releases : ℕ) → Admitted n c s wakes releases → Roomy n c s
roomy n c s wakes releases a = record { few = a.few; small = a.small; words = a.words; bytes = a.bytes; tokens = a.tokens }
