-- socket
use mathlib.Core.Path.{◌≡◌, refl, sym, ap, ◌∙◌}
use mathlib.Core.Logic.{◌≢◌}
use mathlib.Core.Bool.{Bool, true, false, cond, not}
use mathlib.Core.List.{List, []}
use Prim.Native.Nat.{ℕ, suc, ◌+◌, ◌^◌, ◌≤◌, ◌<◌}
use native.Mathlib.Omega.{arith}
use lib.IntN.{ℤ}
use Rattle.std.specs.Prelude.{Option, Some, None, Result, Ok, Err}
use Rattle.storage.specs.Finding.{lowest}
use Rattle.storage.proofs.Finds.{lowest-some, lowest-none}
use Rattle.words.specs.Integers.{equals}
use Rattle.words.specs.Numbers.{number_of}
use Rattle.words.specs.declared.Errno.{Errno}
use Rattle.words.specs.declared.Errno.TheVariants.{EAFNOSUPPORT, EPROTOTYPE, EPROTONOSUPPORT}
use Rattle.words.proofs.Names.{number_some}
use Rattle.syscall.specs.Arguments.{socket_of}
use Rattle.rules.specs.Table as model
use Rattle.rules.specs.Table.{Table, at, put, handle, free_slot, no_slot, new_handle, enter}
use Rattle.rules.specs.Outcome.{Call, Outcome, refuse, answer, refuse_if}
use Rattle.rules.specs.Connecting.{do_socket}
use Rattle.rules.specs.Run.{run}
use Rattle.storage.specs.Cells.{cell_at, state_of, store_at, cell_of}
use Rattle.storage.specs.Rows.{Store, Row, lent, row_at, with_cell}
use Rattle.storage.specs.View.{view, show, show_in}
use Rattle.storage.specs.Finding.{least, free_cell}
use Rattle.storage.specs.declared.State.TheVariants.{Unbound}
use Rattle.storage.specs.declared.Slot.{Slot}
use Rattle.storage.proofs.Coding.{back, loaded_at}
use Rattle.table.specs.Admission.{Admitted}
use Rattle.table.specs.Formed.{fields_well, ranges_well}
use Rattle.promise.specs.Answers.{refused_with, accepted_with}
use Rattle.promise.specs.Hidden.{hidden_in, hidden_after, room_after}
use Rattle.promise.specs.Promise.{Lists, Done}
use Rattle.promise.specs.declared.Answer.{Answer}
use Rattle.promise.proofs.Asked.{next_fits, next_handle}
use Rattle.promise.proofs.Known.{Known, refused_done}
use Rattle.promise.proofs.Kept.{keeps_free, other_state}
use Rattle.promise.proofs.Changed.{Fit, fields_unbound, accepted_done, cell_stored}
use Rattle.promise.proofs.Free.{Free, none_free, free_found}

-- what socket does when its arguments are answered
unfoldable after_arguments : Table → Result Unit Errno → Outcome → Outcome
after_arguments t (Ok _) o = o
after_arguments t (Err e) o = refuse t (number_of e)

-- and then
abbrev slot_first : Table → Outcome
slot_first t = refuse_if (no_slot t) 16 t (answer (enter t (free_slot t) true model.State.Unbound) (new_handle t) [] [])

arguments_first : (t : Table) (d ty p : ℤ) → run t (Call.Socket d ty p)
    ≡ after_arguments t (socket_of d ty p) (slot_first t)
unfolding run do_socket socket_of refuse_if after_arguments
arguments_first t d ty p = go (equals d 1) (equals ty 1) (equals p 0)
  where
    go : (a b c : Bool) → (let o = cond (no_slot t) (refuse t 16) (answer (enter t (free_slot t) true model.State.Unbound) (new_handle t) [] []) in
        cond (not a) (refuse t 12) (cond (not b) (refuse t 14) (cond (not c) (refuse t 15) o))
        ≡ after_arguments t (cond (not a) (Err EAFNOSUPPORT) (cond (not b) (Err EPROTOTYPE) (cond (not c) (Err EPROTONOSUPPORT) (Ok tt)))) o)
    go true true true = refl
    go true true false = refl
    go true false c = refl
    go false b c = refl

not_full : (t : Table) (i g : ℕ) → no_slot t ≡ false → i ≡ free_slot t → suc (at t i).gen ≡ g
    → slot_first t ≡ answer (enter t i true model.State.Unbound) (handle g i) [] []
unfolding refuse_if new_handle
not_full t i g e f h =
    rw e (ap (λ (j : ℕ). answer (enter t j true model.State.Unbound) (handle (suc (at t j).gen) j) [] []) (sym f) ∙ ap (λ (x : ℕ). answer (enter t i true model.State.Unbound) (handle x i) [] []) h)

entered : (t : Table) (i g : ℕ) (r : Row) → suc (at t i).gen ≡ g → enter t i true model.State.Unbound ≡ put t i (show (with_cell (cell_of g Unbound) r))
unfolding enter show_in cell_of state_of
entered t i g r h = ap (λ (x : ℕ). put t i (record { gen = x; in_use = true; given = true; state = model.State.Unbound })) h

unbound_fit : (n c g : ℕ) (r : Row) → Fit n c r (with_cell (cell_of g Unbound) r)
unfolding fields_well ranges_well hidden_in hidden_after room_after show_in cell_of state_of
unbound_fit n c g r = record { fields = fields_unbound g; ranges = refl; numbers = refl; room = refl }

-- a slot that was found is the least one, and not n
found_free : (n : ℕ) (p : ℕ → Bool) (r : Option ℕ) (i : ℕ) → r ≡ lowest n p → r ≡ Some i → (i ≡ least n p) × (i ≢ n)
found_free n p r i e h = let z = lowest-some n p r i e h in let b = z.1 in (z.0, λ y. omega arith)

-- what the parts of the call ask of it
module _ {n c : ℕ} {w b t : List ℕ} {x y : ℕ} (a : Admitted n c (lent w b t) x y) (o : Option ℕ) (i : ℕ) (eo : o ≡ lowest n (λ j. free_cell (cell_at w j))) (ei : o ≡ Some i) (s : Slot) (es : s ≡ loaded_at w i) where
  pub found_fits : s.generation + 1 < 2 ^ 64
  found_fits = let z = found_free n _ o i eo ei in next_fits a i z.0 z.1 s es

  pub found_handle : (s.generation + 1 ≤ 4294967295) × (i < 65536)
  found_handle = let z = found_free n _ o i eo ei in next_handle a i z.0 z.1 s es

-- the arguments as they are handed on
module _ (n c : ℕ) (s : Store) (l : Lists) (d ty p d' ty' p' : ℤ) (v : Result Unit Errno) (ev' : v ≡ socket_of d' ty' p') (ed : d' ≡ d) (et : ty' ≡ ty) (ep : p' ≡ p) (r : Answer) where
  ev : v ≡ socket_of d ty p
  ev = rw (sym ed, sym et, sym ep) ev'

  pub socket_refused : (x : Errno) → v ≡ Err x → r ≡ refused_with (number_of x) → Done (run (view n c s) (Call.Socket d ty p)) n c s s l l r
  unfolding after_arguments
  socket_refused x e er =
      refused_done _ (number_of x) n c s l r (arguments_first (view n c s) d ty p ∙ ap (λ (y : Result Unit Errno). after_arguments (view n c s) y (slot_first (view n c s))) (sym ev ∙ e)) (number_some x) er

  module _ (ok : v ≡ Ok tt) (o : Option ℕ) (eo : o ≡ lowest n (λ j. free_cell (cell_at s.words j))) where
    arguments_passed : run (view n c s) (Call.Socket d ty p) ≡ slot_first (view n c s)
    unfolding after_arguments
    arguments_passed = arguments_first (view n c s) d ty p ∙ ap (λ (x : Result Unit Errno). after_arguments (view n c s) x (slot_first (view n c s))) (sym ev ∙ ok)

    pub socket_full : o ≡ None → r ≡ refused_with 16 → Done (run (view n c s) (Call.Socket d ty p)) n c s s l l r
    unfolding refuse_if
    socket_full z er = refused_done _ 16 n c s l r (arguments_passed ∙ rw (none_free n c s _ refl (lowest-none n _ o eo z))) (λ x. omega arith) er

    pub socket_made : (k : Known n c s) (i : ℕ) (x : Slot) (w' : List ℕ) (h : ℕ) → o ≡ Some i → x ≡ loaded_at s.words i → w' ≡ store_at s.words i (cell_of (x.generation + 1) Unbound)
        → h ≡ handle (x.generation + 1) i → r ≡ accepted_with h 0 → Done (run (view n c s) (Call.Socket d ty p)) n c s (lent w' s.bytes s.tokens) l l r
    unfolding row_at
    socket_made k i x w' h es ex ew eh er =
        let found = found_free n _ o i eo es in
        let f : Free n c s i = free_found n c s i found.0 found.1 in
        let g : ℕ = x.generation + 1 in
        let t : Table = view n c s in
        let s' : Store = lent w' s.bytes s.tokens in
        let eg : suc (at t i).gen ≡ g = let z = f.was in let y = ap (λ (q : Slot). q.generation) ex in omega arith in
        let o_is : run t (Call.Socket d ty p) ≡ answer (enter t i true model.State.Unbound) (handle g i) [] [] = arguments_passed ∙ not_full t i g f.is_some f.is_first eg in
        let next_is : (run t (Call.Socket d ty p)).next ≡ put t i (show (with_cell (cell_of g Unbound) (row_at n c s i))) =
        ap (λ (x : Outcome). x.next) o_is ∙ entered t i g (row_at n c s i) eg in
        accepted_done (run t (Call.Socket d ty p)) (enter t i true model.State.Unbound) (handle g i) [] n c s s' l l r o_is
        (cell_stored n c s (Call.Socket d ty p) i (cell_of g Unbound) w' k f.within ew
        next_is
        (unbound_fit n c g (row_at n c s i))
        (keeps_free (row_at n c s i) (with_cell (cell_of g Unbound) (row_at n c s i)) (λ b e. other_state (sym f.is_closed ∙ e) (λ z. omega arith)) (λ q e. other_state (sym (back g Unbound) ∙ e) (λ z. omega arith))))
        refl refl (er ∙ ap (λ (x : ℕ). accepted_with x 0) eh)
