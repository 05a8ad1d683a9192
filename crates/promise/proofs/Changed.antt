-- An accepted call, row by row: what each row has to show for the storage after it to be as promised.
use mathlib.Core.Path.{◌≡◌, refl, sym, ap, ap₂, ◌∙◌, subst}
use mathlib.Core.Bool.{Bool, true, false, cond}
use mathlib.Core.List.{List, []}
use Prim.Native.Nat.{ℕ, ◌<◌}
use native.Mathlib.Decide.{ℕ_discrete as dec_eq}
use lib.Dec.{leb, eqb}
use lib.ListN.{length, set}
use lib.Seq.{sets}
use Rattle.rules.specs.Table as model
use Rattle.rules.specs.Table.{at, put}
use Rattle.rules.specs.Outcome.{Call, Outcome, answer}
use Rattle.rules.specs.Run.{run}
use Rattle.rules.specs.WellFormed.{well_formed}
use Rattle.rules.proofs.YesNo.{agree, kept}
use Rattle.rules.proofs.Formed.{Formed}
use Rattle.storage.specs.Cells.{cell_at, state_of, store_at, cell_of, flag}
use Rattle.storage.specs.Rows.{Store, Row, row_at, rows, lent, with_cell, Around}
use Rattle.storage.specs.View.{view, show}
use Rattle.storage.specs.declared.Cell.{Cell}
use Rattle.storage.specs.declared.State.{State}
use Rattle.storage.specs.declared.State.TheVariants.{Closed, Unbound, Bound, Listening, Connected}
use Rattle.storage.specs.declared.Listener.{Listener}
use Rattle.storage.specs.declared.Connection.{Connection}
use Rattle.storage.proofs.Framing.{store_rows}
use Rattle.storage.proofs.Around.{roomy_around, store_around, around_same}
use Rattle.storage.proofs.Viewed.{at_view, put_view}
use Rattle.table.specs.Formed.{fields_well, no_name, no_queue, no_pair, pair_fields, ranges_well}
use Rattle.table.proofs.Links.{Entries, tied_up}
use Rattle.promise.specs.Answers.{accepted_with}
use Rattle.promise.specs.Hidden.{hidden_in, hidden_after, room_after}
use Rattle.promise.specs.Promise.{Lists, Stored, Done}
use Rattle.promise.specs.declared.Answer.{Answer}
use Rattle.promise.proofs.Known.{Known, Proper, stored, listener_range, idle, idle_room}
use Rattle.promise.proofs.Kept.{Keeps, keeps_same, entries_kept, row_changed, row_other}

-- ── One row ──

-- a row that was r and is r'
pub record Fit (n c : ℕ) (r r' : Row) : Type 0 where
  pub fields : fields_well r'.cell ≡ true
  pub ranges : ranges_well n c (state_of r'.cell) ≡ true
  pub numbers : hidden_in (state_of r'.cell) ≡ hidden_after n c (hidden_in (state_of r.cell)) (show r).state (show r').state
  pub room : r'.room ≡ room_after r.room (show r).state (show r').state

pub fit_same : (n c : ℕ) (r : Row) → fields_well r.cell ≡ true → ranges_well n c (state_of r.cell) ≡ true → Fit n c r r
fit_same n c r f g =
    record { fields = f; ranges = g; numbers = idle n c r r.cell.generation (state_of r.cell) g; room = idle_room r.room (show r).state }

-- the words of a state that says no place, if it does not wait
unfoldable pub placed : Connection → Bool
placed k = cond (eqb k.waits 0) (eqb k.place 0) true

flag_one : (b : Bool) → leb (flag b) 1 ≡ true
flag_one true = refl
flag_one false = refl

pub fields_connected : (g : ℕ) (k : Connection) → placed k ≡ true → fields_well (cell_of g (Connected k)) ≡ true
unfolding fields_well no_name no_queue pair_fields cell_of placed
fields_connected g k e = rw (flag_one k.inbox_closed, flag_one k.outbox_closed) e

pub fields_unbound : (g : ℕ) → fields_well (cell_of g Unbound) ≡ true
unfolding fields_well no_name no_queue no_pair cell_of
fields_unbound g = refl

pub fields_bound : (g m : ℕ) → fields_well (cell_of g (Bound m)) ≡ true
unfolding fields_well no_queue no_pair cell_of
fields_bound g m = refl

pub fields_listening : (g : ℕ) (l : Listener) → fields_well (cell_of g (Listening l)) ≡ true
unfolding fields_well no_pair cell_of
fields_listening g l = refl

pub fields_closed : (g : ℕ) → fields_well (cell_of g Closed) ≡ true
unfolding fields_well cell_of
fields_closed g = refl

-- ── All rows ──

module _ (n c : ℕ) (s s' : Store) (call : Call) (k : Known n c s) (a : Around n c s s') (v : view n c s' ≡ (run (view n c s) call).next)
    (fit : (j : ℕ) → j < n → Fit n c (row_at n c s j) (row_at n c s' j)) where
  proper : (i : ℕ) → i < n → Proper n c s s' (run (view n c s) call) i
  unfolding row_at
  proper i h =
      let before : at (view n c s) i ≡ show (row_at n c s i) = at_view n c s i h in
      let after : at (run (view n c s) call).next i ≡ show (row_at n c s' i) = ap (λ (t : model.Table). at t i) (sym v) ∙ at_view n c s' i h in
      let e₁ : (show (row_at n c s i)).state ≡ (at (view n c s) i).state = sym (ap (λ (x : model.Slot). x.state) before) in
      let e₂ : (show (row_at n c s' i)).state ≡ (at (run (view n c s) call).next i).state = sym (ap (λ (x : model.Slot). x.state) after) in
      record {
        fields = (fit i h).fields;
        ranges = (fit i h).ranges;
        numbers = (fit i h).numbers ∙ ap₂ (hidden_after n c (hidden_in (state_of (cell_at s.words i)))) e₁ e₂;
        room = (fit i h).room ∙ ap₂ (room_after (row_at n c s i).room) e₁ e₂;
      }

  good_after : Formed (view n c s')
  good_after = (agree (view n c s')).0 (ap well_formed v ∙ kept (view n c s) call k.well)

  -- the entries of every queue are of servers that say so
  pub rows_stored : ((l : ℕ) → l < n → (q : Listener) → state_of (cell_at s'.words l) ≡ Listening q → Entries n s'.words l q) → Stored n c s s' (run (view n c s) call)
  unfolding row_at
  rows_stored entries =
      stored n c s s' call k a v proper
      (tied_up n c s' (roomy_around a k.roomy) good_after
      (λ l h q e. let z = listener_range n c q (subst (λ (σ : State). ranges_well n c σ ≡ true) e (fit l h).ranges) in (z.2, z.3, entries l h q e)))

  -- no server goes into a queue or out of one
  pub rows_kept : ((j : ℕ) → j < n → Keeps (row_at n c s j) (row_at n c s' j)) → Stored n c s s' (run (view n c s) call)
  rows_kept keep = rows_stored (entries_kept n c s s' k keep)

-- ── One row has changed ──

pub row_stored : (n c : ℕ) (s s' : Store) (call : Call) (i : ℕ) (r : Row) → Known n c s → i < n → rows n c s' ≡ set (rows n c s) i r → Around n c s s'
    → (run (view n c s) call).next ≡ put (view n c s) i (show r) → Fit n c (row_at n c s i) r → Keeps (row_at n c s i) r → Stored n c s s' (run (view n c s) call)
unfolding row_at
row_stored n c s s' call i r k hi e a v fit keep =
    rows_kept n c s s' call k a (put_view n c s s' i r e ∙ sym v)
    (λ j hj. elim (dec_eq j i) [
      | yes z ↦ subst (λ (x : ℕ). Fit n c (row_at n c s x) (row_at n c s' x)) (sym z) (subst (Fit n c (row_at n c s i)) (sym (row_changed n c s s' i r hi e)) fit)
      | no d ↦ subst (Fit n c (row_at n c s j)) (sym (row_other n c s s' i r hi e j hj d)) (fit_same n c (row_at n c s j) (k.fields j hj) (k.ranges j hj))
    ])
    (λ j hj. elim (dec_eq j i) [
      | yes z ↦ subst (λ (x : ℕ). Keeps (row_at n c s x) (row_at n c s' x)) (sym z) (subst (Keeps (row_at n c s i)) (sym (row_changed n c s s' i r hi e)) keep)
      | no d ↦ subst (Keeps (row_at n c s j)) (sym (row_other n c s s' i r hi e j hj d)) (keeps_same (row_at n c s j))
    ])

-- a call that stores one cell
pub cell_stored : (n c : ℕ) (s : Store) (call : Call) (i : ℕ) (k : Cell) (w' : List ℕ) → Known n c s → i < n → w' ≡ store_at s.words i k
    → (run (view n c s) call).next ≡ put (view n c s) i (show (with_cell k (row_at n c s i))) → Fit n c (row_at n c s i) (with_cell k (row_at n c s i)) → Keeps (row_at n c s i) (with_cell k (row_at n c s i))
    → Stored n c s (lent w' s.bytes s.tokens) (run (view n c s) call)
cell_stored n c s call i k w' kn hi ew next fit keep =
    row_stored n c s (lent w' s.bytes s.tokens) call i (with_cell k (row_at n c s i)) kn hi
    (ap (λ (x : List ℕ). rows n c (lent x s.bytes s.tokens)) ew ∙ store_rows n c s.words s.bytes s.tokens kn.roomy i hi k)
    (subst (λ (x : List ℕ). Around n c s (lent x s.bytes s.tokens)) (sym ew) (store_around n c s.words s.bytes s.tokens kn.roomy i hi k)) next fit keep

-- ── Nothing has changed ──

pub same_stored : (n c : ℕ) (s : Store) (call : Call) → Known n c s → view n c s ≡ (run (view n c s) call).next → Stored n c s s (run (view n c s) call)
unfolding row_at
same_stored n c s call k v = rows_kept n c s s call k (around_same n c s) v (λ j hj. fit_same n c (row_at n c s j) (k.fields j hj) (k.ranges j hj)) (λ j hj. keeps_same (row_at n c s j))

-- ── The answer ──

-- an accepted call without flags and items
pub released_done : (o : Outcome) (t' : model.Table) (v : ℕ) (w e : List ℕ) (n c : ℕ) (s s' : Store) (l l' : Lists) (x y : ℕ) (r : Answer) → o ≡ answer t' v w e → Stored n c s s' o
    → l'.wakes ≡ sets l.wakes 0 w → l'.releases ≡ sets l.releases 0 e → x ≡ length w → y ≡ length e
    → r ≡ record { refusal = 0; flags = 0; value = v; items = 0; wakes = x; releases = y } → Done o n c s s' l l' r
released_done o t' v w e n c s s' l l' x y r eo st ew el ex ey er =
    record {
      refusal_is = rw (eo, er) refl;
      value_is = rw (eo, er) refl;
      flags_are = rw (eo, er) refl;
      item_count = rw (eo, er) refl;
      wake_count = rw (eo, er) ex;
      release_count = rw (eo, er) ey;
      wake_list = rw eo ew;
      release_list = rw eo el;
      accepted = λ z. st;
      refused = λ z. absurd (z (ap (λ (u : Outcome). u.no) eo));
    }

-- and without releases
pub accepted_done : (o : Outcome) (t' : model.Table) (v : ℕ) (w : List ℕ) (n c : ℕ) (s s' : Store) (l l' : Lists) (r : Answer) → o ≡ answer t' v w [] → Stored n c s s' o
    → l'.wakes ≡ sets l.wakes 0 w → l'.releases ≡ l.releases → r ≡ accepted_with v (length w) → Done o n c s s' l l' r
accepted_done o t' v w n c s s' l l' r eo st ew el er = released_done o t' v w [] n c s s' l l' (length w) 0 r eo st ew el refl refl er

-- a call that only answers
pub unchanged : (n c : ℕ) (s : Store) (call : Call) (v : ℕ) (l : Lists) (r : Answer) → Known n c s → run (view n c s) call ≡ answer (view n c s) v [] [] → r ≡ accepted_with v 0
    → Done (run (view n c s) call) n c s s l l r
unchanged n c s call v l r k e er =
    accepted_done (run (view n c s) call) (view n c s) v [] n c s s l l r e (same_stored n c s call k (sym (ap (λ (o : Outcome). o.next) e))) refl refl er
