-- What the parts of a call ask of an admitted table.
use mathlib.Core.Path.{◌≡◌, refl, sym, ap}
use mathlib.Core.Bool.{Bool, true, false, not}
use mathlib.Core.List.{List}
use Prim.Native.Nat.{ℕ, ◌+◌, ◌*◌, ◌^◌, ◌≤◌, ◌<◌}
use native.Mathlib.Omega.{arith}
use lib.ListN.{length}
use Rattle.storage.specs.Cells.{cell_at}
use Rattle.storage.specs.Rows.{Store, lent}
use Rattle.rules.specs.Table.{slot_of}
use Rattle.storage.specs.Finding.{least, free_cell, live_in}
use Rattle.storage.specs.declared.Slot.{Slot}
use Rattle.storage.proofs.Coding.{loaded_at}
use Rattle.table.specs.Admission.{Admitted}
use Rattle.promise.proofs.Free.{free_found}
use Rattle.promise.proofs.Live.{live}

pub slots_in : {n c : ℕ} {w b t : List ℕ} {x y : ℕ} → Admitted n c (lent w b t) x y → 8 + 16 * n ≤ length w
slots_in a = let z = a.words in omega arith

pub slot_in : {n c : ℕ} {w b t : List ℕ} {x y : ℕ} → Admitted n c (lent w b t) x y → (i : ℕ) → i < n → 8 + 16 * i + 16 ≤ length w
slot_in a i h = let z = a.words in omega arith

pub some_wake : {n c : ℕ} {s : Store} {x y : ℕ} → Admitted n c s x y → 0 < x
some_wake a = let z = a.wake_list in omega arith

-- of the slot for a new socket
module _ {n c : ℕ} {w b t : List ℕ} {x y : ℕ} (a : Admitted n c (lent w b t) x y) (i : ℕ) (e : i ≡ least n (λ j. free_cell (cell_at w j))) (ne : i ≡ n → ⊥) where
  module _ (s : Slot) (es : s ≡ loaded_at w i) where
    pub next_fits : s.generation + 1 < 2 ^ 64
    next_fits = let z = (free_found n c (lent w b t) i e ne).young in let y = ap (λ (q : Slot). q.generation) es in omega arith

    pub next_handle : (s.generation + 1 ≤ 4294967295) × (i < 65536)
    next_handle =
        let f = free_found n c (lent w b t) i e ne in
        let z = f.young in
        let h = f.within in
        let m = a.few in
        let y = ap (λ (q : Slot). q.generation) es in
        (omega arith, omega arith)

-- the slot of a live handle
pub live-in : {n c : ℕ} {w b t : List ℕ} {x y : ℕ} → Admitted n c (lent w b t) x y → (h : ℕ) (r : Bool) → r ≡ live_in n w h → not r ≡ false → (j : ℕ) → j ≡ slot_of h → 8 + 16 * j + 16 ≤ length w
live-in {n} {c} {w} {b} {t} a h r e d j ej = let l = (live n c (lent w b t) h r e d).within in slot_in a j (omega arith)

pub own_in : {n c : ℕ} {w b t : List ℕ} {x y : ℕ} → Admitted n c (lent w b t) x y → (h : ℕ) → live_in n w h ≡ true → (j : ℕ) → j ≡ slot_of h → 8 + 16 * j + 16 ≤ length w
own_in a h e j ej = live-in a h true (sym e) refl j ej
