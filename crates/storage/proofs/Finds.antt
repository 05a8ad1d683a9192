-- What the searches and the tests leave at each return.
use mathlib.Core.Path.{◌≡◌, refl, sym, ap, ◌∙◌}
use mathlib.Core.Logic.{◌⊎◌, inl, inr}
use mathlib.Core.Bool.{Bool, true, false, cond, false≢true}
use mathlib.Core.List.{List}
use Prim.Native.Nat.{ℕ, zero, suc, ◌+◌, ◌-◌, ◌≤◌, ◌<◌, min}
use native.Mathlib.Nat.{not-suc-le-zero}
use native.Mathlib.Decide.{ℕ_discrete as dec_eq}
use native.Mathlib.Omega.{arith}
use lib.Pointwise.{pointwise, bytes_decides}
use lib.Dec.{eqb, ltb}
use Rattle.std.specs.Prelude.{Option, Some, None}
use denote.Ref.{Bor}
use Rattle.std.specs.Array.{IsFirstChunk, IsWholeChunk}
use Rattle.std.specs.Option.{MatchOption, option_eq}
use Rattle.std.proofs.lemmas.Option.{cond_some, none-some}
use lib.ListN.{length, take, drop, get_or}
use lib.Seq.{take-take, take_all}
use borrow.Author.Tests.{lt-ltb, le-ltb, ltb-true, ne_eqb}
use Rattle.laws.proofs.Tests.{less_or, and_three}
use Rattle.rules.specs.Table.{slot_of, handle, same}
use Rattle.rules.proofs.Wf.{same_refl, same_eq}
use Rattle.storage.specs.Layout.{part, cell_base}
use Rattle.storage.specs.Cells.{cell_at, state_of, connection_of}
use Rattle.storage.specs.Finding.{least, lowest, occupied, open_in, named, holds_cell}
use Rattle.storage.specs.declared.Cell.{Cell}
use Rattle.storage.specs.declared.State.TheVariants.{Closed, Unbound, Connected}
use Rattle.storage.proofs.Pasted.{length_part}

-- ── The least that passes ──

pub least_at : (n : ℕ) (p : ℕ → Bool) (i : ℕ) → i < n → p i ≡ true → ((j : ℕ) → j < i → p j ≡ false) → least n p ≡ i
unfolding least
least_at zero p i h e f = absurd (not-suc-le-zero h)
least_at (suc n) p zero h e f = rw e
least_at (suc n) p (suc i) h e f = rw (f zero (omega arith)) (ap suc (least_at n (λ k. p (suc k)) i (omega arith) e (λ j l. f (suc j) (omega arith))))

pub least_none : (n : ℕ) (p : ℕ → Bool) → ((j : ℕ) → j < n → p j ≡ false) → least n p ≡ n
unfolding least
least_none zero p f = refl
least_none (suc n) p f = rw (f zero (omega arith)) (ap suc (least_none n (λ k. p (suc k)) (λ j l. f (suc j) (omega arith))))

pub least-below : (n : ℕ) (p : ℕ → Bool) → least n p ≤ n
unfolding least
least-below zero p = omega arith
least-below (suc n) p = go (p zero) (least-below n (λ k. p (suc k)))
  where
    go : (b : Bool) → least n (λ k. p (suc k)) ≤ n → cond b zero (suc (least n (λ k. p (suc k)))) ≤ suc n
    go true h = omega arith
    go false h = omega arith

-- what a search over `0..n` has found
pub lowest_found : (n : ℕ) (p : ℕ → Bool) (r : Option ℕ)
    → MatchOption r ((k : ℕ) → 0 ≤ k → k < n → p k ≡ false) (λ i. (0 ≤ i) × (i < n) × (p i ≡ true) × ((k : ℕ) → 0 ≤ k → k < i → p k ≡ false))
    → r ≡ lowest n p
unfolding lowest
lowest_found n p None f = rw (least_none n p (λ j h. f j (omega arith) h), le-ltb n n (omega arith))
lowest_found n p (Some i) f = rw (least_at n p i f.1 f.2 (λ j h. f.3 j (omega arith) h), lt-ltb i n f.1)

-- what its answer says of `least`
pub lowest-some : (n : ℕ) (p : ℕ → Bool) (r : Option ℕ) (i : ℕ) → r ≡ lowest n p → r ≡ Some i → (i ≡ least n p) × (i < n)
unfolding lowest
lowest-some n p r i e h =
    let z = cond_some (ltb (least n p) n) (least n p) i (sym e ∙ h) in
    let l = ltb-true (least n p) n z.0 in
    let s = z.1 in
    (sym s, omega arith)

pub lowest-none : (n : ℕ) (p : ℕ → Bool) (r : Option ℕ) → r ≡ lowest n p → r ≡ None → least n p ≡ n
unfolding lowest
lowest-none n p r e h = go (less_or (least n p) n)
  where
    go : (least n p < n) ⊎ (n ≤ least n p) → least n p ≡ n
    go (inl l) = absurd (none-some (least n p) (sym h ∙ e ∙ rw (lt-ltb (least n p) n l)))
    go (inr l) = let b = least-below n p in omega arith

-- ── Handles ──

-- an open handle's slot is one of n
pub open_slot : (n : ℕ) (w : List ℕ) (h : ℕ) → open_in n w h ≡ true → slot_of h < n
unfolding open_in
open_slot n w h e = ltb-true (slot_of h) n (and_three (ltb (slot_of h) n) _ _ e).0

pub open_used_in : (n : ℕ) (w : List ℕ) (h : ℕ) → open_in n w h ≡ true → occupied (state_of (cell_at w (slot_of h))) ≡ true
unfolding open_in
open_used_in n w h e = (and_three (ltb (slot_of h) n) (eqb (handle (cell_at w (slot_of h)).generation (slot_of h)) h) (occupied (state_of (cell_at w (slot_of h)))) e).2

-- ── Free slots ──

-- ── Names ──

pub same_is : (a b : List ℕ) (r : Bool) → (r ≡ true → a ≡ b) × (a ≡ b → r ≡ true) → r ≡ same a b
same_is a b r f = go r (same a b) refl refl
  where
    go : (x y : Bool) → r ≡ x → same a b ≡ y → r ≡ same a b
    go true y e d = e ∙ sym (ap (same a) (sym (f.0 e)) ∙ same_refl a)
    go false true e d = absurd (false≢true (sym e ∙ f.1 (same_eq a b d)))
    go false false e d = e ∙ sym d

pub apart : (a b : List ℕ) → (a ≡ b → ⊥) → false ≡ same a b
apart a b ne = go (same a b) refl
  where
    go : (x : Bool) → same a b ≡ x → false ≡ same a b
    go true e = absurd (ne (same_eq a b e))
    go false e = sym e

-- what `==` answers of two names, and of what their ends alone show
pub equal_is : (a b : List ℕ) (r : Bool) → r ≡ pointwise eqb a b → r ≡ same a b
equal_is a b r e = e ∙ same_is a b (pointwise eqb a b) (bytes_decides a b)

pub other_length : (a b : List ℕ) → (length a ≡ length b → ⊥) → false ≡ same a b
other_length a b ne = apart a b (λ e. ne (ap length e))

-- the first eight and the last k bytes, where there are so many
abbrev FirstOf : List ℕ → Option (Bor (List ℕ)) → Type 0
FirstOf l o = MatchOption o (length l < 8) (λ y. IsFirstChunk l y.now 8)

abbrev LastOf : ℕ → List ℕ → Option (Bor (List ℕ)) → Type 0
LastOf k l o = MatchOption o (length l < k) (λ y. (k ≤ length l) × IsWholeChunk (drop (length l - k) l) y.now k)

abbrev equal_chunks : Option (Bor (List ℕ)) → Option (Bor (List ℕ)) → Bool
equal_chunks = option_eq (λ x y. pointwise eqb x.now y.now)

pub other_first : (a b : List ℕ) (o p : Option (Bor (List ℕ))) (r : Bool) → FirstOf a o → FirstOf b p → r ≡ equal_chunks o p → r ≡ false → r ≡ same a b
other_first a b None None r ea eb e f = absurd (false≢true (sym f ∙ e))
other_first a b None (Some y) r ea eb e f = let l = eb.enough in f ∙ other_length a b (λ z. omega arith)
other_first a b (Some x) None r ea eb e f = let l = ea.enough in f ∙ other_length a b (λ z. omega arith)
other_first a b (Some x) (Some y) r ea eb e f =
    f ∙ apart a b (λ z. false≢true (sym f ∙ e ∙ (bytes_decides x.now y.now).1 (ea.same ∙ ap (take 8) z ∙ sym eb.same)))

pub other_last : (k : ℕ) (a b : List ℕ) (o p : Option (Bor (List ℕ))) (r : Bool) → LastOf k a o → LastOf k b p → r ≡ equal_chunks o p → r ≡ false → r ≡ same a b
other_last k a b None None r ea eb e f = absurd (false≢true (sym f ∙ e))
other_last k a b None (Some y) r ea eb e f = f ∙ other_length a b (λ z. omega arith)
other_last k a b (Some x) None r ea eb e f = f ∙ other_length a b (λ z. omega arith)
other_last k a b (Some x) (Some y) r ea eb e f =
    f ∙ apart a b (λ z. false≢true (sym f ∙ e ∙ (bytes_decides x.now y.now).1 (ea.1.same ∙ ap (λ (l : List ℕ). drop (length l - k) l) z ∙ sym eb.1.same)))

-- no name, of the five tags
not_named : (k : Cell) → (k.tag ≡ 2 → ⊥) → (k.tag ≡ 3 → ⊥) → named (state_of k) ≡ false
unfolding state_of
not_named k n2 n3 = rw (ne_eqb k.tag 2 n2, ne_eqb k.tag 3 n3) (go (eqb k.tag 1) (eqb k.tag 4))
  where
    go : (x y : Bool) → named (cond x Unbound (cond y (Connected (connection_of k)) Closed)) ≡ false
    go true y = refl
    go false true = refl
    go false false = refl

pub low_tag : (w : List ℕ) (i : ℕ) (room m : List ℕ) → get_or w (cell_base i + 1) 0 < 2 → false ≡ holds_cell (cell_at w i) room m
unfolding holds_cell cell_at
low_tag w i room m h = rw (not_named (cell_at w i) (λ e. omega arith) (λ e. omega arith))

pub high_tag : (w : List ℕ) (i : ℕ) (room m : List ℕ) → 3 < get_or w (cell_base i + 1) 0 → false ≡ holds_cell (cell_at w i) room m
unfolding holds_cell cell_at
high_tag w i room m h = rw (not_named (cell_at w i) (λ e. omega arith) (λ e. omega arith))

pub room_take : (a z : ℕ) (l : List ℕ) → a + 255 ≤ length l → take z (part a 255 l) ≡ part a (min z 255) l
room_take a z l h = go (less_or z 255)
  where
    go : (z < 255) ⊎ (255 ≤ z) → take z (part a 255 l) ≡ part a (min z 255) l
    go (inl x) = let e : min z 255 ≡ z = omega arith in take-take z 255 (drop a l) (omega arith) ∙ ap (λ (k : ℕ). part a k l) (sym e)
    go (inr x) = let e : min z 255 ≡ 255 = omega arith in take_all z (part a 255 l) (omega (arith, length_part a 255 l h)) ∙ ap (λ (k : ℕ). part a k l) (sym e)

by_name : (k : Cell) (room m : List ℕ) (o : Bool) → 2 ≤ k.tag → k.tag ≤ 3 → o ≡ same (take k.name room) m → o ≡ holds_cell k room m
unfolding holds_cell state_of
by_name k room m o l h e = go (dec_eq k.tag 2)
  where
    go : Dec (k.tag ≡ 2) → o ≡ holds_cell k room m
    go (yes z) = rw z e
    go (no z) = let x : k.tag ≡ 3 = omega arith in rw x e

pub holds_by_name : (w : List ℕ) (i : ℕ) (b m : List ℕ) (o : Bool) (x a : ℕ) → a + 255 ≤ length b → 2 ≤ get_or w (cell_base i + 1) 0 → get_or w (cell_base i + 1) 0 ≤ 3
    → x ≡ min (get_or w (cell_base i + 2) 0) 255 → o ≡ same (part a (a + x - a) b) m → o ≡ holds_cell (cell_at w i) (part a 255 b) m
unfolding cell_at
holds_by_name w i b m o x a hb l h ex eo =
    let e : a + x - a ≡ min (get_or w (cell_base i + 2) 0) 255 = omega arith in
    by_name (cell_at w i) (part a 255 b) m o l h (eo ∙ ap (λ (y : List ℕ). same y m) (ap (λ (y : ℕ). part a y b) e ∙ sym (room_take a (get_or w (cell_base i + 2) 0) b hb)))

-- another name is not the slot's
pub holds_no_other : (w : List ℕ) (i : ℕ) (b m : List ℕ) (o : Bool) (x a : ℕ) → a + 255 ≤ length b → x ≡ min (get_or w (cell_base i + 2) 0) 255 → o ≡ same (part a (a + x - a) b) m → o ≡ false
    → o ≡ holds_cell (cell_at w i) (part a 255 b) m
holds_no_other w i b m o x a hb ex eo f = go (less_or (get_or w (cell_base i + 1) 0) 2) (less_or 3 (get_or w (cell_base i + 1) 0))
  where
    t : ℕ
    t = get_or w (cell_base i + 1) 0

    go : (t < 2) ⊎ (2 ≤ t) → (3 < t) ⊎ (t ≤ 3) → o ≡ holds_cell (cell_at w i) (part a 255 b) m
    go (inl l) r = f ∙ low_tag w i (part a 255 b) m l
    go (inr l) (inl h) = f ∙ high_tag w i (part a 255 b) m h
    go (inr l) (inr h) = holds_by_name w i b m o x a hb l h ex eo
