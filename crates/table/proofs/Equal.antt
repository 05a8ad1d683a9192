-- The test that the code makes, slot by slot, is `formed`.
use mathlib.Core.Path.{◌≡◌, refl, ap}
use mathlib.Core.Bool.{Bool, true, false, cond, ◌&&◌}
use Prim.Native.Nat.{ℕ}
use Rattle.laws.proofs.Tests.{and_left, and_right}
use Rattle.rules.specs.Run.{in_range, admission}
use Rattle.rules.specs.WellFormed.{every, well_formed}
use Rattle.storage.specs.Rows.{Store, Roomy}
use Rattle.storage.specs.View.{view}
use Rattle.table.specs.Formed.{header_well, slot_formed, formed}
use Rattle.table.specs.OnePass.{slot_checks, checks}
use Rattle.table.specs.Admission.{storage_fits, lists_fit, admits}
use Rattle.table.proofs.Facts.{fits}
use Rattle.table.proofs.EqualDown.{down}
use Rattle.table.proofs.EqualUp.{up}
use Rattle.table.proofs.EqualTests.{same_test}

-- a test under another one
under : (h a b d : Bool) → (a ≡ true → b && d ≡ true) → (b ≡ true → d ≡ true → a ≡ true) → h && a ≡ h && b && d
under true a b d f g = same_test a (b && d) f (λ e. g (and_left b d e) (and_right b d e))
under false a b d f g = refl

pub equal : (n c : ℕ) (s : Store) → in_range n c ≡ true → Roomy n c s → checks n c s ≡ formed n c s
unfolding checks formed
equal n c s r f =
    under (header_well n c s.words) (every n (slot_checks n c s.words s.bytes)) (every n (slot_formed n c s.words)) (well_formed (view n c s))
    (λ e. down n c s f e r) (λ a w. up n c s f a w)

-- with the sizes asked first: where they do not fit, the table is not looked at
pub admits_by_checks : (n c : ℕ) (s : Store) (wakes releases : ℕ) → admission n c (storage_fits n c s && lists_fit n c wakes releases) (checks n c s) ≡ admits n c s wakes releases
unfolding admits admission
admits_by_checks n c s wakes releases = go (in_range n c) (storage_fits n c s && lists_fit n c wakes releases) refl refl
  where
    go : (r l : Bool) → in_range n c ≡ r → storage_fits n c s && lists_fit n c wakes releases ≡ l
        → ◌≡◌ {A = ℕ} (cond (in_range n c) (cond (storage_fits n c s && lists_fit n c wakes releases) (cond (checks n c s) 0 19) 18) 2)
        (cond (in_range n c) (cond (storage_fits n c s && lists_fit n c wakes releases) (cond (formed n c s) 0 19) 18) 2)
    go true true er el = rw (er, el) (ap (λ (b : Bool). cond b 0 19) (equal n c s er (fits n c s er (and_left (storage_fits n c s) (lists_fit n c wakes releases) el))))
    go true false er el = rw (er, el)
    go false l er el = rw er
