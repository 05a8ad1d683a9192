-- What the pass over the header and the slots needs.
use mathlib.Core.Path.{◌≡◌, refl, sym, ap, ◌∙◌}
use mathlib.Core.Bool.{Bool, true, false, not, ◌&&◌, and_comm, and-true}
use mathlib.Core.List.{List}
use Prim.Native.Nat.{ℕ, ◌+◌, ◌-◌, ◌≤◌, ◌<◌}
use lib.Dec.{leb, eqb}
use lib.ListN.{get_or, take, drop}
use lib.Seq.{take-take}
use lib.Bits.{bit_or}
use borrow.Author.Tests.{le-leb, not-true}
use Rattle.std.specs.Prelude.{Option}
use Rattle.std.specs.Option.{is_none}
use Rattle.std.proofs.Common.{arith}
use Rattle.std.proofs.lemmas.Bool.Decides.{nat_tests}
use Rattle.laws.proofs.Bits.{or-eqb}
use Rattle.rules.specs.WellFormed.{every}
use Rattle.storage.specs.Layout.{part, cell_base, name_base}
use Rattle.storage.specs.Cells.{cell_at, state_of}
use Rattle.storage.specs.Finding.{least, lowest, holds_cell}
use Rattle.storage.specs.declared.Cell.{Cell}
use Rattle.storage.specs.declared.State.TheVariants.{Closed}
use Rattle.storage.proofs.Finds.{least-below}
use Rattle.storage.proofs.Lending.{span}
use Rattle.table.specs.Formed.{header_well}
use Rattle.table.specs.OnePass.{name_checks, state_checks, generation_well, slot_checks}
use Rattle.table.proofs.OwnNumbers.{fields_closed}
use Rattle.table.proofs.Conjunctions.{last_of_two, AllBefore, all_done, one_fails}

-- ── The header ──

pub six_zeros : (w : List ℕ)
    → eqb (bit_or (bit_or (bit_or (bit_or (bit_or (get_or w 2 0) (get_or w 3 0)) (get_or w 4 0)) (get_or w 5 0)) (get_or w 6 0)) (get_or w 7 0)) 0 ≡ every 6 (λ k. eqb (get_or w (2 + k) 0) 0)
unfolding every
six_zeros w =
    rw (or-eqb (bit_or (bit_or (bit_or (bit_or (get_or w 2 0) (get_or w 3 0)) (get_or w 4 0)) (get_or w 5 0)) (get_or w 6 0)) (get_or w 7 0), or-eqb (bit_or (bit_or (bit_or (get_or w 2 0) (get_or w 3 0)) (get_or w 4 0)) (get_or w 5 0)) (get_or w 6 0), or-eqb (bit_or (bit_or (get_or w 2 0) (get_or w 3 0)) (get_or w 4 0)) (get_or w 5 0), or-eqb (bit_or (get_or w 2 0) (get_or w 3 0)) (get_or w 4 0), or-eqb (get_or w 2 0) (get_or w 3 0))
    (go (eqb (get_or w 2 0) 0) (eqb (get_or w 3 0) 0) (eqb (get_or w 4 0) 0) (eqb (get_or w 5 0) 0) (eqb (get_or w 6 0) 0) (eqb (get_or w 7 0) 0))
  where
    go : (a b c d e f : Bool) → a && b && c && d && e && f ≡ f && (e && (d && (c && (b && (a && true)))))
    go a b c d e f =
        and_comm (a && b && c && d && e) f ∙ ap (λ (x : Bool). f && x)
        (and_comm (a && b && c && d) e ∙ ap (λ (x : Bool). e && x)
        (and_comm (a && b && c) d ∙ ap (λ (x : Bool). d && x) (and_comm (a && b) c ∙ ap (λ (x : Bool). c && x) (and_comm a b ∙ ap (λ (x : Bool). b && x) (sym (and-true a))))))

-- ── Names ──

none_below : (n : ℕ) (p : ℕ → Bool) → is_none (lowest n p) ≡ eqb (least n p) n
unfolding lowest
none_below n p = let h = least-below n p in grind (arith, nat_tests)

pub name_first : (n c : ℕ) (w b : List ℕ) (i m : ℕ) (r : Option ℕ) → 1 ≤ m → m ≤ 255
    → r ≡ lowest i (λ j. holds_cell (cell_at w j) (part (name_base n c j) 255 b) (part (name_base n c i) (name_base n c i + m - name_base n c i) b))
    → is_none r ≡ name_checks n c w b i m
unfolding name_checks
name_first n c w b i m r h l e =
    let z : part (name_base n c i) (name_base n c i + m - name_base n c i) b ≡ take m (part (name_base n c i) 255 b) = ap (λ (k : ℕ). part (name_base n c i) k b) (span (name_base n c i) m) ∙ sym (take-take m 255 (drop (name_base n c i) b) l) in
    ap is_none (e ∙ ap (λ (y : List ℕ). lowest i (λ j. holds_cell (cell_at w j) (part (name_base n c j) 255 b) y)) z)
    ∙ none_below i (λ j. holds_cell (cell_at w j) (part (name_base n c j) 255 b) (take m (part (name_base n c i) 255 b)))
    ∙ rw (le-leb 1 m h, le-leb m 255 l)

-- ── A slot ──

closed_state : (k : Cell) → k.tag ≡ 0 → state_of k ≡ Closed
unfolding state_of
closed_state k e = rw e

on_three : (a : Bool) → a ≡ a && true && true && true
on_three true = refl
on_three false = refl

pub slot_closed : (n c : ℕ) (w b : List ℕ) (i : ℕ) → get_or w (cell_base i + 1) 0 ≡ 0 → leb (get_or w (cell_base i + 0) 0) 4294967295 ≡ slot_checks n c w b i
unfolding slot_checks generation_well state_checks cell_at
slot_closed n c w b i e =
    rw (closed_state (cell_at w i) e, sym (fields_closed (cell_at w i) e)) (on_three (leb (get_or w (cell_base i + 0) 0) 4294967295))

-- ── All slots ──

module _ (n c : ℕ) (w b : List ℕ) (i : ℕ) (h : Bool) (eh : h ≡ header_well n c w) (th : not h ≡ false) where
  pub slot_fails : (p : Bool) → i < n → p ≡ slot_checks n c w b i → not p ≡ true → false ≡ header_well n c w && every n (slot_checks n c w b)
  slot_fails p l e t = last_of_two (header_well n c w) (every n (slot_checks n c w b)) h false eh th (one_fails n (slot_checks n c w b) i l (sym e ∙ not-true p t))

  pub slots_pass : n ≤ i → AllBefore (slot_checks n c w b) i → true ≡ header_well n c w && every n (slot_checks n c w b)
  slots_pass l a = last_of_two (header_well n c w) (every n (slot_checks n c w b)) h true eh th (all_done n (slot_checks n c w b) i l a)
