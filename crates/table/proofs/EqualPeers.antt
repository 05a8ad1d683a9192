-- The peer of a connected socket: the test on the words is the test on the table that they show.
use mathlib.Core.Path.{◌≡◌, refl, sym, ap, ap₂, ◌∙◌}
use mathlib.Core.Logic.{◌⊎◌, inl, inr}
use mathlib.Core.Bool.{Bool, true, false, cond, not, ◌&&◌}
use Prim.Native.Nat.{ℕ, ◌+◌, ◌*◌, ◌/◌, ◌%◌, ◌≤◌, ◌<◌}
use native.Mathlib.Decide.{ℕ_discrete as dec_eq}
use native.Mathlib.Omega.{arith}
use lib.Dec.{leb, eqb}
use borrow.Author.Tests.{lt-ltb, le-ltb, le-leb, lt-leb, eq-eqb, ne_eqb}
use Rattle.laws.proofs.Tests.{less_or}
use Rattle.rules.specs.Table as model
use Rattle.rules.specs.Table.{slot_of, handle, handle_at, is_open}
use Rattle.rules.specs.WellFormed.{implies, points_at, linked_well}
use Rattle.storage.specs.Cells.{cell_at, state_of}
use Rattle.storage.specs.Rows.{Store, Row, row_at}
use Rattle.storage.specs.View.{show_in, view}
use Rattle.storage.specs.Finding.{occupied, open_in}
use Rattle.storage.specs.declared.State.{State}
use Rattle.storage.specs.declared.State.TheVariants.{Closed, Unbound, Bound, Listening, Connected}
use Rattle.storage.proofs.Viewed.{seen, at_none, gen_at, open_view}
use Rattle.table.specs.OnePass.{points_back, peer_checks}

-- ── A handle and its generation ──

gen_same : (g h : ℕ) → eqb (handle g (slot_of h)) h ≡ eqb (h / 65536) g
gen_same g h =
    elim (dec_eq (h / 65536) g) [
      | yes e ↦ let z : g * 65536 + h % 65536 ≡ h = omega arith in eq-eqb (handle g (slot_of h)) h z ∙ sym (eq-eqb (h / 65536) g e)
      | no ne ↦ ne_eqb (handle g (slot_of h)) h (λ z. ne (omega arith)) ∙ sym (ne_eqb (h / 65536) g ne)
    ]

gen_past : (g h : ℕ) → leb (h / 65536) g ≡ leb h (handle g (slot_of h))
gen_past g h = go (less_or g (h / 65536))
  where
    go : (g < h / 65536) ⊎ (h / 65536 ≤ g) → leb (h / 65536) g ≡ leb h (handle g (slot_of h))
    go (inl l) = let z : g * 65536 + h % 65536 < h = omega arith in lt-leb (h / 65536) g l ∙ sym (lt-leb h (handle g (slot_of h)) z)
    go (inr l) = let z : h ≤ g * 65536 + h % 65536 = omega arith in le-leb (h / 65536) g l ∙ sym (le-leb h (handle g (slot_of h)) z)

-- ── Pointing back ──

points : (me : ℕ) (c : Bool) (x : Bool) (r : Row) (g : ℕ) (σ : State) → cond x (points_back me c σ) true ≡ implies (x && occupied σ) (points_at me c (show_in r g σ).state)
unfolding points_back implies points_at show_in
points me c true r g Closed = refl
points me c true r g Unbound = refl
points me c true r g (Bound m) = refl
points me c true r g (Listening l) = refl
points me c true r g (Connected k) = refl
points me c false r g σ = refl

no_slot : (p y : ℕ) (a : Bool) → p % 65536 ≡ y → leb 1 (p / 65536) && leb p (0 + y) && a ≡ false
no_slot p y a e = go (less_or (p / 65536) 1)
  where
    go : (p / 65536 < 1) ⊎ (1 ≤ p / 65536) → leb 1 (p / 65536) && leb p (0 + y) && a ≡ false
    go (inl l) = rw (lt-leb 1 (p / 65536) l)
    go (inr l) = let z : 0 + y < p = omega arith in rw (lt-leb p (0 + y) z, le-leb 1 (p / 65536) l)

-- ── The peer ──

module _ (n c : ℕ) (s : Store) (i p : ℕ) (closed : Bool) (hi : i < n) where
  abbrev me : ℕ
  me = handle (cell_at s.words i).generation i

  me_is : me ≡ handle_at (view n c s) i
  me_is = ap (λ (g : ℕ). handle g i) (sym (gen_at n c s i hi))

  back : slot_of p < n → cond (eqb (p / 65536) (cell_at s.words (slot_of p)).generation) (points_back me closed (state_of (cell_at s.words (slot_of p)))) true
      ≡ implies (is_open (view n c s) p) (points_at (handle_at (view n c s) i) closed (model.state_of (view n c s) p))
  unfolding open_in model.state_of
  back hp =
      let g : ℕ = (cell_at s.words (slot_of p)).generation in
      let σ : State = state_of (cell_at s.words (slot_of p)) in
      let op : eqb (p / 65536) g && occupied σ ≡ is_open (view n c s) p =
      ap (λ (b : Bool). b && occupied σ) (sym (gen_same g p)) ∙ ap (λ (b : Bool). b && eqb (handle g (slot_of p)) p && occupied σ) (sym (lt-ltb (slot_of p) n hp)) ∙ open_view n c s p in
      points me closed (eqb (p / 65536) g) (row_at n c s (slot_of p)) g σ
      ∙ ap₂ implies op (ap₂ (λ (x : ℕ) (y : model.Slot). points_at x closed y.state) me_is (sym (seen n c s (slot_of p) σ hp refl)))

  inside : slot_of p < n → peer_checks n s.words me p closed ≡ linked_well (view n c s) i p closed
  unfolding peer_checks linked_well
  inside hp =
      ap₂ ◌&&◌
      (ap₂ ◌&&◌
      (ap₂ ◌&&◌ (ap (λ (b : Bool). b && leb 1 (p / 65536)) (lt-ltb (slot_of p) n hp))
      (gen_past (cell_at s.words (slot_of p)).generation p ∙ ap (λ (g : ℕ). leb p (handle g (slot_of p))) (sym (gen_at n c s (slot_of p) hp))))
      (ap (λ (x : ℕ). not (eqb p x)) me_is))
      (back hp)

  outside : n ≤ slot_of p → peer_checks n s.words me p closed ≡ linked_well (view n c s) i p closed
  unfolding peer_checks linked_well
  outside hp =
      rw (le-ltb (slot_of p) n hp)
      (sym
      (ap (λ (b : Bool). b && implies (is_open (view n c s) p) (points_at (handle_at (view n c s) i) closed (model.state_of (view n c s) p)))
      (ap (λ (x : model.Slot). leb 1 (p / 65536) && leb p (handle x.gen (slot_of p)) && not (eqb p (handle_at (view n c s) i))) (at_none n c s (slot_of p) hp)
      ∙ no_slot p (slot_of p) (not (eqb p (handle_at (view n c s) i))) refl)))

  pub peers : peer_checks n s.words me p closed ≡ linked_well (view n c s) i p closed
  peers = go (less_or (slot_of p) n)
    where
      go : (slot_of p < n) ⊎ (n ≤ slot_of p) → peer_checks n s.words me p closed ≡ linked_well (view n c s) i p closed
      go (inl h) = inside h
      go (inr h) = outside h
