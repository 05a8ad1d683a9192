-- A made table is fresh and well-formed; and what making leaves at each return.
use mathlib.Core.Path.{◌≡◌, refl, sym, ap, ap₂, ◌∙◌}
use mathlib.Core.Logic.{◌≢◌}
use mathlib.Core.Bool.{Bool, true, false, not, ◌&&◌}
use mathlib.Core.List.{List, [], ◌∷◌, ◌++◌}
use Prim.Native.Nat.{ℕ, zero, suc, ◌+◌, ◌-◌, ◌*◌, ◌≤◌, ◌<◌}
use native.Mathlib.Nat.{not-suc-le-zero}
use native.Mathlib.Omega.{arith}
use lib.Dec.{eqb}
use lib.ListN.{length, get_or, take, drop, set, replicate, length-append, length-replicate, length-drop, get_or-replicate, take-append-drop, get_or-append}
use lib.Seq.{paste, length-take-le, take-take, take-add, drop-drop, ext_get_or}
use borrow.Rule.Slice.PartMut.{put_mid}
use borrow.Author.Tests.{eq-eqb, not-true, not-false}
use Rattle.std.specs.Prelude.{Ok, Err}
use Rattle.words.specs.declared.Errno.TheVariants.{EINVAL, SHORT}
use Rattle.rules.specs.Table as model
use Rattle.rules.specs.Table.{at, vacant, fresh}
use Rattle.rules.specs.Run.{in_range}
use Rattle.rules.specs.WellFormed.{every}
use Rattle.rules.proofs.YesNo.{at_every}
use Rattle.storage.specs.Layout.{part, cell_base}
use Rattle.storage.specs.Cells.{cell_at, words_of, state_of, plain_cell}
use Rattle.storage.specs.Rows.{Store, lent, Roomy, row_at}
use Rattle.storage.specs.View.{show_in, view}
use Rattle.storage.specs.declared.Cell.{Cell}
use Rattle.storage.proofs.Pasted.{length_part, part_at, cell_here}
use Rattle.storage.proofs.Viewed.{size_view, at_view}
use Rattle.table.specs.Formed.{header_well, fields_well, formed}
use Rattle.table.specs.OnePass.{generation_well, state_checks, slot_checks, checks}
use Rattle.table.specs.Admission.{storage_fits}
use Rattle.table.specs.Making.{make_no, fresh_words, made, Makes}
use Rattle.table.proofs.Facts.{fits}
use Rattle.table.proofs.Equal.{equal}

-- ── What the code writes ──

pub cleared : (n c : ℕ) (w zs : List ℕ) → 8 + 16 * n ≤ length w → zs ≡ replicate (length (take (8 + 16 * n - 2) (drop 2 (set (set w 0 n) 1 c)))) 0
    → put_mid 2 (8 + 16 * n - 2) (set (set w 0 n) 1 c) zs ≡ fresh_words n c w
cleared n c [] zs h e = let z : 1 ≤ 0 = omega arith in absurd (not-suc-le-zero z)
cleared n c (x ∷ []) zs h e = let z : 1 ≤ 0 = omega arith in absurd (not-suc-le-zero z)
cleared n c (x ∷ y ∷ w) zs h e =
    let m = 8 + 16 * n - 2 in
    let two : 2 + m ≡ 8 + 16 * n = omega arith in
    let long : length (take m w) ≡ 6 + 16 * n = length-take-le m w (omega arith) ∙ omega arith in
    ap₂ (λ (l r : List ℕ). n ∷ c ∷ (l ++ r)) (e ∙ ap (λ (k : ℕ). replicate k 0) long) (drop-drop m 2 (x ∷ y ∷ w) ∙ ap (λ (k : ℕ). drop k (x ∷ y ∷ w)) two)

-- ── The words of a made table ──

module _ (n c : ℕ) (w : List ℕ) (h : 8 + 16 * n ≤ length w) where
  pub made_long : length (fresh_words n c w) ≡ length w
  made_long = omega (arith, length-append (replicate (6 + 16 * n) 0) (drop (8 + 16 * n) w), length-replicate {A = ℕ} (6 + 16 * n) 0, length-drop (8 + 16 * n) w)

  zero-at : (x : ℕ) → 2 ≤ x → x < 8 + 16 * n → get_or (fresh_words n c w) x 0 ≡ 0
  zero-at zero l u = absurd (not-suc-le-zero l)
  zero-at (suc zero) l u = let z : 1 ≤ 0 = omega arith in absurd (not-suc-le-zero z)
  zero-at (suc (suc x)) l u =
      get_or-append (replicate (6 + 16 * n) 0) (drop (8 + 16 * n) w) 0 x (omega (arith, length-replicate {A = ℕ} (6 + 16 * n) 0)) ∙ get_or-replicate (6 + 16 * n) x 0 0 (omega arith)

  module _ (i : ℕ) (hi : i < n) where
    zeros : part (cell_base i) 16 (fresh_words n c w) ≡ words_of (plain_cell 0 0 0)
    zeros =
        let e = made_long in
        let l : length (part (cell_base i) 16 (fresh_words n c w)) ≡ 16 = length_part (cell_base i) 16 (fresh_words n c w) (omega arith) in
        ext_get_or 0 (part (cell_base i) 16 (fresh_words n c w)) (replicate 16 0) (l ∙ sym (length-replicate {A = ℕ} 16 0))
        (λ j hj.
        let hj' : j < 16 = omega arith in
        part_at (cell_base i) 16 (fresh_words n c w) j hj' ∙ zero-at (cell_base i + j) (omega arith) (omega arith) ∙ sym (get_or-replicate 16 j 0 0 hj'))

    pub made_cell : cell_at (fresh_words n c w) i ≡ plain_cell 0 0 0
    made_cell =
        let e = made_long in
        ap (λ (l : List ℕ). cell_at l i) (sym (self (fresh_words n c w) (cell_base i)) ∙ ap (λ (l : List ℕ). paste (fresh_words n c w) (cell_base i) l 16) zeros)
        ∙ cell_here (fresh_words n c w) i (plain_cell 0 0 0) (omega arith)
      where
        -- a part stored where it lies
        self : (l : List ℕ) (a : ℕ) → paste l a (part a 16 l) 16 ≡ l
        self l a =
            ap (λ (x : List ℕ). take a l ++ x ++ drop (a + 16) l) (take-take 16 16 (drop a l) (omega arith))
            ∙ ap (λ (x : List ℕ). x ++ drop (a + 16) l) (sym (take-add a 16 l)) ∙ take-append-drop (a + 16) l

-- ── The table that they show ──

module _ (n c : ℕ) (s : Store) (f : Roomy n c s) where
  wide : 8 + 16 * n ≤ length s.words
  wide = let z = f.words in omega arith

  pub made_roomy : Roomy n c (made n c s)
  made_roomy =
      let z = f.words in
      record { few = f.few; small = f.small; words = omega (arith, made_long n c s.words wide); bytes = f.bytes; tokens = f.tokens }

  made_slot : (i : ℕ) → i < n → at (view n c (made n c s)) i ≡ vacant
  unfolding row_at show_in state_of
  made_slot i hi = at_view n c (made n c s) i hi ∙ ap (λ (k : Cell). show_in (row_at n c (made n c s) i) k.generation (state_of k)) (made_cell n c s.words wide i hi)

  pub made_shows : view n c (made n c s) ≡ fresh n c
  unfolding view
  made_shows =
      ap (λ (l : List model.Slot). record { capacity = c; slots = l })
      (ext_get_or vacant (view n c (made n c s)).slots (replicate n vacant) (size_view n c (made n c s) ∙ sym (length-replicate n vacant))
      (λ i hi.
      let hi' : i < n = omega (arith, size_view n c (made n c s)) in
      made_slot i hi' ∙ sym (get_or-replicate n i vacant vacant hi')))

  made_header : header_well n c (fresh_words n c s.words) ≡ true
  unfolding header_well
  made_header =
      let e : every 6 (λ k. eqb (get_or (fresh_words n c s.words) (2 + k) 0) 0) ≡ true =
      at_every 6 (λ k. eqb (get_or (fresh_words n c s.words) (2 + k) 0) 0) (λ k hk. eq-eqb _ 0 (zero-at n c s.words wide (2 + k) (omega arith) (omega arith))) in
      rw (eq-eqb n n refl, eq-eqb c c refl) e

  made_passes : (i : ℕ) → i < n → slot_checks n c (fresh_words n c s.words) s.bytes i ≡ true
  unfolding slot_checks generation_well fields_well state_of state_checks
  made_passes i hi =
      ap (λ (k : Cell). generation_well k && fields_well k && state_checks n c (fresh_words n c s.words) s.bytes i (state_of k)) (made_cell n c s.words wide i hi)

  pub made_well : in_range n c ≡ true → formed n c (made n c s) ≡ true
  unfolding checks
  made_well r =
      sym (equal n c (made n c s) r made_roomy) ∙ rw made_header (at_every n (slot_checks n c (fresh_words n c s.words) s.bytes) made_passes)

-- ── The returns of make ──

never : (n : ℕ) → suc n ≢ 0
never n e = omega arith

module _ (n c : ℕ) (w b t : List ℕ) (p : Bool) (ep : p ≡ in_range n c) where
  pub make_range : not p ≡ true → Makes n c (lent w b t) (lent w b t) (Err EINVAL)
  unfolding make_no
  make_range tp =
      let e : make_no n c (lent w b t) ≡ 2 = rw (sym ep ∙ not-true p tp) in
      record { answers = sym e; storage = rw e; shows = λ z. absurd (never 1 (sym e ∙ z)); well = λ z. absurd (never 1 (sym e ∙ z)) }

  module _ (tp : not p ≡ false) (q : Bool) (eq : q ≡ storage_fits n c (lent w b t)) where
    pub make_short : not q ≡ true → Makes n c (lent w b t) (lent w b t) (Err SHORT)
    unfolding make_no
    make_short tq =
        let e : make_no n c (lent w b t) ≡ 18 = rw (sym ep ∙ not-false p tp, sym eq ∙ not-true q tq) in
        record { answers = sym e; storage = rw e; shows = λ z. absurd (never 17 (sym e ∙ z)); well = λ z. absurd (never 17 (sym e ∙ z)) }

    pub make_done : (w' : List ℕ) → not q ≡ false → w' ≡ fresh_words n c w → Makes n c (lent w b t) (lent w' b t) (Ok tt)
    unfolding make_no
    make_done w' tq ew =
        let r : in_range n c ≡ true = sym ep ∙ not-false p tp in
        let f : Roomy n c (lent w b t) = fits n c (lent w b t) r (sym eq ∙ not-false q tq) in
        let e : make_no n c (lent w b t) ≡ 0 = rw (r, sym eq ∙ not-false q tq) in
        record {
          answers = sym e;
          storage = rw (e, ew);
          shows = λ z. rw ew (made_shows n c (lent w b t) f);
          well = λ z. rw ew (made_well n c (lent w b t) f r);
        }
