-- bind
use mathlib.Core.Path.{◌≡◌, refl, sym, ap, ap₂, ◌∙◌, subst}
use mathlib.Core.Logic.{◌≢◌}
use mathlib.Core.Bool.{true≢false}
use mathlib.Core.Bool.{Bool, true, false, cond, not}
use mathlib.Core.List.{List, [], ◌∷◌, ◌++◌}
use Prim.Native.Nat.{ℕ, zero, suc, ◌+◌, ◌≤◌, ◌<◌}
use native.Mathlib.Omega.{arith}
use lib.ListN.{length, take, drop, set}
use lib.Seq.{sets, sets-eq, paste, take-paste, take_all, set-set}
use borrow.Author.Tests.{le-leb}
use Rattle.rules.specs.Table as model
use Rattle.rules.specs.Table.{Table, at, put, slot_of, become, first, holds, holder}
use Rattle.rules.specs.Outcome.{Call, Outcome, refuse, refuse_if, answer}
use Rattle.rules.specs.Connecting.{do_bind}
use Rattle.rules.specs.Run.{run, on_name}
use Rattle.rules.proofs.Frame.{first_passes}
use Rattle.storage.specs.Layout.{part, name_base}
use Rattle.storage.specs.Cells.{cell_at, state_of, store_at, cell_of}
use Rattle.storage.specs.Rows.{Store, Row, Around, lent, row_at, rows, with_cell, with_room, Roomy}
use Rattle.storage.specs.View.{view, show, show_in}
use Rattle.std.specs.Prelude.{Option, Some, None, is_some, Result, Ok, Err}
use Rattle.storage.proofs.Finds.{lowest-some, lowest-none}
use Rattle.storage.specs.Finding.{lowest, live_in, least, holds_cell}
use Rattle.storage.specs.declared.Slot.{Slot}
use Rattle.storage.specs.declared.State.{State}
use Rattle.storage.specs.declared.State.TheVariants.{Closed, Unbound, Bound, Listening, Connected}
use Rattle.storage.proofs.Coding.{back, loaded_at}
use Rattle.storage.proofs.Pasted.{length_part}
use Rattle.storage.proofs.Framing.{store_rows, room_rows}
use Rattle.storage.proofs.Around.{store_around, room_around, around_then, roomy_around}
use Rattle.storage.proofs.Viewed.{size_view, at_none, holder_view}
use Rattle.storage.specs.Naming.{name_refusal}
use Rattle.storage.proofs.Naming.{name_refused, name_accepted}
use Rattle.words.specs.Numbers.{number_of}
use Rattle.words.specs.declared.Errno.{Errno}
use Rattle.table.specs.Formed.{ranges_well}
use Rattle.promise.specs.Answers.{refused_with, accepted_with}
use Rattle.promise.specs.Hidden.{hidden_in, hidden_after, room_after, name_written}
use Rattle.promise.specs.Promise.{Lists, Stored, Done}
use Rattle.promise.specs.declared.Answer.{Answer}
use Rattle.promise.proofs.Known.{Known, refused_done}
use Rattle.promise.proofs.Live.{Live, live, stale_name, no_name, long_name, named_run, not_closed}
use Rattle.promise.proofs.Kept.{Keeps, keeps_free, other_state, row_changed}
use Rattle.promise.proofs.Changed.{Fit, fields_bound, row_stored, accepted_done}
use Rattle.promise.proofs.Called.{Called, called, become_is}

-- ── A name that is held ──

first_low : (p : model.Slot → Bool) (l : List model.Slot) → first p l ≤ length l
unfolding first
first_low p [] = omega arith
first_low p (s ∷ ss) = go (p s) (first_low p ss)
  where
    go : (b : Bool) → first p ss ≤ length ss → cond b zero (suc (first p ss)) ≤ suc (length ss)
    go true h = omega arith
    go false h = omega arith

module _ (n c : ℕ) (s : Store) (m : List ℕ) (f : ℕ) (ef : f ≡ least n (λ i. holds_cell (cell_at s.words i) (part (name_base n c i) 255 s.bytes) m)) where
  found : f ≡ holder (view n c s) m
  found = ef ∙ holder_view n c s m

  held : f ≢ n → holds m (at (view n c s) (holder (view n c s) m)) ≡ true
  unfolding holder
  held ne =
      let z = found in
      let y = size_view n c s in
      let low = first_low (holds m) (view n c s).slots in
      first_passes (holds m) (view n c s).slots (omega arith)

  not_held : f ≡ n → holds m (at (view n c s) (holder (view n c s) m)) ≡ false
  unfolding holds
  not_held e = let z = found in ap (holds m) (at_none n c s (holder (view n c s) m) (omega arith))

-- ── A name that is written ──

paste-sets : (l m : List ℕ) → length m ≤ length l → sets l 0 m ≡ paste l 0 m (length m)
paste-sets l m h = sets-eq m l 0 (omega arith) ∙ ap (λ (x : List ℕ). x ++ drop (0 + length m) l) (sym (take_all (length m) m (omega arith)))

take-written : (l m : List ℕ) → length m ≤ length l → take (length m) (paste l 0 m (length m)) ≡ m
take-written l m h =
    let e : 0 + length m ≡ length m = omega arith in
    ap (λ (k : ℕ). take k (paste l 0 m (length m))) (sym e) ∙ take-paste l 0 m (length m) (omega arith) (omega arith) ∙ take_all (length m) m (omega arith)

abbrev bound_row : ℕ → List ℕ → Row → Row
bound_row g m r = with_cell (cell_of g (Bound (length m))) (with_room (paste r.room 0 m (length m)) r)

named_fit : (n c g : ℕ) (m : List ℕ) (r : Row) → state_of r.cell ≡ Unbound → length m ≤ 255 → length r.room ≡ 255 → Fit n c r (bound_row g m r)
unfolding ranges_well hidden_in hidden_after room_after name_written show_in cell_of state_of
named_fit n c g m r e h l =
    record {
      fields = fields_bound g (length m);
      ranges = le-leb (length m) 255 h;
      numbers = refl;
      room = rw (e, take-written r.room m (omega arith)) (sym (paste-sets r.room m (omega arith)));
    }

named_keeps : (g : ℕ) (m : List ℕ) (r : Row) → state_of r.cell ≡ Unbound → Keeps r (bound_row g m r)
named_keeps g m r e =
    keeps_free r (bound_row g m r) (λ b z. other_state (sym e ∙ z) (λ y. omega arith)) (λ q z. other_state (sym (back g (Bound (length m))) ∙ z) (λ y. omega arith))

shown_bound : (g : ℕ) (m : List ℕ) (r : Row) → length m ≤ length r.room → show (bound_row g m r) ≡ record { gen = g; in_use = true; given = true; state = model.State.Bound m }
unfolding show_in cell_of state_of
shown_bound g m r h = ap (λ (x : List ℕ). record { gen = g; in_use = true; given = true; state = model.State.Bound x }) (take-written r.room m h)

-- ── A socket that is not unbound ──

bind_other : (t : Table) (h : ℕ) (m : List ℕ) (r : Row) (g : ℕ) (σ : State) → σ ≢ Unbound → σ ≢ Closed → do_bind t h m (show_in r g σ).state ≡ refuse t 2
unfolding do_bind show_in
bind_other t h m r g Closed a b = absurd (b refl)
bind_other t h m r g Unbound a b = absurd (a refl)
bind_other t h m r g (Bound k) a b = refl
bind_other t h m r g (Listening q) a b = refl
bind_other t h m r g (Connected k) a b = refl

-- ── What a search for the name found ──

found_one : (n : ℕ) (p : ℕ → Bool) (r : Option ℕ) → r ≡ lowest n p → is_some r ≡ true → least n p ≢ n
found_one n p (Some i) e h = let z = lowest-some n p (Some i) i e refl in let b = z.1 in λ y. omega (arith, z.0)
found_one n p None e h = absurd (true≢false (sym h))

found_nothing : (n : ℕ) (p : ℕ → Bool) (r : Option ℕ) → r ≡ lowest n p → is_some r ≡ false → least n p ≡ n
found_nothing n p (Some i) e h = absurd (true≢false h)
found_nothing n p None e h = lowest-none n p None e refl

-- ── Each return ──

module _ (n c : ℕ) (s : Store) (l : Lists) (h : ℕ) (m : List ℕ) (r : Answer) (b : Bool) (eb : b ≡ live_in n s.words h) where
  pub bind_stale : not b ≡ true → r ≡ refused_with 1 → Done (run (view n c s) (Call.Bind h m)) n c s s l l r
  unfolding run
  bind_stale d er = refused_done _ 1 n c s l r (stale_name n c s h b m _ eb d) (λ z. omega arith) er

  module _ (lv : not b ≡ false) where
    mine : Live n c s h
    mine = live n c s h b eb lv

    module _ (q : Result Unit Errno) (eq : q ≡ name_refusal m) where
      pub bind_unnamed : (e : Errno) → q ≡ Err e → r ≡ refused_with (number_of e) → Done (run (view n c s) (Call.Bind h m)) n c s s l l r
      unfolding run
      bind_unnamed e ee =
          name_refused (λ k. r ≡ refused_with k → Done (on_name (view n c s) h m (do_bind (view n c s) h m (model.state_of (view n c s) h))) n c s s l l r) m q e eq ee
          (λ z. refused_done _ 2 n c s l r (no_name n c s h mine _ m z) (λ y. omega arith))
          (λ some g. refused_done _ 17 n c s l r (long_name n c s h mine _ m some g) (λ y. omega arith))

      module _ (ok : q ≡ Ok tt) (i : ℕ) (ei : i ≡ slot_of h) (x : Slot) (ex : x ≡ loaded_at s.words i) where
        at_state : (σ : State) → x.state ≡ σ → Called n c s h i x.generation σ
        at_state σ es = called n c s h b i x σ eb lv ei ex es

        asked : (σ : State) → x.state ≡ σ → run (view n c s) (Call.Bind h m) ≡ do_bind (view n c s) h m (show_in (row_at n c s i) x.generation σ).state
        unfolding run
        asked σ es = named_run n c s h mine _ m (name_accepted m q eq ok).0 (name_accepted m q eq ok).1 ∙ ap (do_bind (view n c s) h m) (at_state σ es).state_shown

        pub bind_again : x.state ≢ Unbound → r ≡ refused_with 2 → Done (run (view n c s) (Call.Bind h m)) n c s s l l r
        bind_again ne er =
            refused_done _ 2 n c s l r
            (asked x.state refl ∙ bind_other (view n c s) h m (row_at n c s i) x.generation x.state ne
            (λ z. let d = at_state Closed z in not_closed n c s h d.lives (ap (λ (j : ℕ). state_of (cell_at s.words j)) (sym ei) ∙ d.state)))
            (λ z. omega arith) er

        module _ (es : x.state ≡ Unbound) (o : Option ℕ) (eo : o ≡ lowest n (λ j. holds_cell (cell_at s.words j) (part (name_base n c j) 255 s.bytes) m)) (y : Bool) (ey : y ≡ is_some o) where
          pub bind_taken : y ≡ true → r ≡ refused_with 3 → Done (run (view n c s) (Call.Bind h m)) n c s s l l r
          unfolding do_bind show_in refuse_if
          bind_taken some er = refused_done _ 3 n c s l r (asked Unbound es ∙ rw (held n c s m _ refl (found_one n _ o eo (sym ey ∙ some)))) (λ z. omega arith) er

          bind_next : y ≡ false → length m ≤ length (row_at n c s i).room → run (view n c s) (Call.Bind h m) ≡ answer (put (view n c s) i (show (bound_row x.generation m (row_at n c s i)))) 0 [] []
          unfolding do_bind show_in refuse_if
          bind_next e room =
              let d = at_state Unbound es in
              asked Unbound es ∙ ap (λ (v : Bool). cond v (refuse (view n c s) 3) (answer (become (view n c s) h (model.State.Bound m)) 0 [] [])) (not_held n c s m _ refl (found_nothing n _ o eo (sym ey ∙ e)))
              ∙ ap (λ (t : Table). answer t 0 [] []) (become_is (view n c s) h i _ (model.State.Bound m) ei d.shown ∙ ap (put (view n c s) i) (sym (shown_bound x.generation m (row_at n c s i) room)))

          pub bind_made : Known n c s → (b' w' : List ℕ) → y ≡ false → b' ≡ paste s.bytes (name_base n c i) (drop 0 m) (length m)
              → w' ≡ store_at s.words i (cell_of x.generation (Bound (length m))) → r ≡ accepted_with 0 0
              → Done (run (view n c s) (Call.Bind h m)) n c s (lent w' b' s.tokens) l l r
          unfolding row_at
          bind_made kn b' w' e eb' ew er =
              let d = at_state Unbound es in
              let low : length m ≤ 255 = (name_accepted m q eq ok).1 in
              let g : ℕ = x.generation in
              let hi : i < n = d.within in
              let full : length (row_at n c s i).room ≡ 255 = let z = kn.roomy.bytes in length_part (name_base n c i) 255 s.bytes (omega arith) in
              let next = bind_next e (omega arith) in
              let p : List ℕ = paste s.bytes (name_base n c i) m (length m) in
              let s₁ : Store = lent s.words p s.tokens in
              let s₂ : Store = lent (store_at s.words i (cell_of g (Bound (length m)))) p s.tokens in
              let row₁ : Row = with_room (paste (row_at n c s i).room 0 m (length m)) (row_at n c s i) in
              let e₁ : rows n c s₁ ≡ set (rows n c s) i row₁ = room_rows n c s.words s.bytes s.tokens kn.roomy i hi m (length m) (omega arith) low in
              let a₁ : Around n c s s₁ = room_around n c s.words s.bytes s.tokens kn.roomy i hi m (length m) (omega arith) low in
              let f₁ : Roomy n c s₁ = roomy_around a₁ kn.roomy in
              let e₂ : rows n c s₂ ≡ set (rows n c s) i (bound_row g m (row_at n c s i)) =
              store_rows n c s.words p s.tokens f₁ i hi (cell_of g (Bound (length m)))
              ∙ ap₂ (λ (u : List Row) (v : Row). set u i (with_cell (cell_of g (Bound (length m))) v)) e₁ (row_changed n c s s₁ i row₁ hi e₁)
              ∙ set-set (rows n c s) i row₁ (bound_row g m (row_at n c s i)) in
              let a₂ : Around n c s s₂ = around_then a₁ (store_around n c s.words p s.tokens f₁ i hi (cell_of g (Bound (length m)))) in
              let st : Stored n c s s₂ (run (view n c s) (Call.Bind h m)) =
              row_stored n c s s₂ (Call.Bind h m) i (bound_row g m (row_at n c s i)) kn hi e₂ a₂ (ap (λ (o : Outcome). o.next) next)
              (named_fit n c g m (row_at n c s i) d.state low full) (named_keeps g m (row_at n c s i) d.state) in
              accepted_done _ _ 0 [] n c s _ l l r next
              (subst (λ (y : List ℕ). Stored n c s (lent y b' s.tokens) (run (view n c s) (Call.Bind h m))) (sym ew)
              (subst (λ (y : List ℕ). Stored n c s (lent (store_at s.words i (cell_of g (Bound (length m)))) y s.tokens) (run (view n c s) (Call.Bind h m))) (sym eb') st))
              refl refl er
