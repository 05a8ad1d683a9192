-- What a lent list holds after a call; and that a wake list of N + 1 entries has room for the wakes of every call, on every well-formed storage.
use mathlib.Core.Path.{◌≡◌, refl, sym, ap, ◌∙◌, subst}
use mathlib.Core.Logic.{◌⊎◌, inl, inr}
use mathlib.Core.Bool.{true}
use mathlib.Core.List.{List, [], ◌∷◌, ◌++◌}
use Prim.Native.Nat.{ℕ, ◌+◌, ◌≤◌, ◌<◌}
use native.Mathlib.Nat.{min-le_left, le_trans, le_of_eq}
use native.Mathlib.Omega.{arith}
use lib.Dec.{ltb}
use lib.ListN.{length, take, drop, length-append, length-take}
use lib.Seq.{sets, sets-eq, take-append_seam}
use Rattle.laws.proofs.Tests.{cond_both, less_or}
use Rattle.ring.specs.Ring as ring
use Rattle.rules.specs.Table as model
use Rattle.rules.specs.Table.{Table, Slot, at, slot_of, is_open, leave}
use Rattle.rules.specs.Outcome.{Call, open_one}
use Rattle.rules.specs.Moving.{drained}
use Rattle.rules.specs.Ending.{queued, close_wakes, close_all, do_shutdown, do_close}
use Rattle.rules.specs.Run.{run}
use Rattle.rules.proofs.Walk.{Steps, walk}
use Rattle.storage.specs.Cells.{cell_at, state_of}
use Rattle.storage.specs.Rows.{Store, Row, row_at}
use Rattle.storage.specs.View.{view, show_in}
use Rattle.storage.specs.declared.State.{State}
use Rattle.storage.specs.declared.State.TheVariants.{Closed, Unbound, Bound, Listening, Connected}
use Rattle.storage.proofs.Viewed.{seen, at_none}
use Rattle.table.specs.Formed.{ranges_well}
use Rattle.promise.proofs.Known.{Known, listener_range}

-- ── A list that is written from its start ──

-- the new entries, and the rest as it was
pub front : (vs l : List ℕ) → length vs ≤ length l → sets l 0 vs ≡ vs ++ drop (length vs) l
front vs l h = let e : 0 + length vs ≡ length vs = omega arith in sets-eq vs l 0 (omega arith) ∙ ap (λ (k : ℕ). vs ++ drop k l) e

pub first_entries : (vs l : List ℕ) → length vs ≤ length l → take (length vs) (sets l 0 vs) ≡ vs
first_entries vs l h = ap (take (length vs)) (front vs l h) ∙ take-append_seam vs (drop (length vs) l)

-- ── Queues ──

-- a ring of n entries holds at most n
queue_row : (n c : ℕ) (r : Row) (g : ℕ) (σ : State) → ranges_well n c σ ≡ true → length (queued (show_in r g σ).state) ≤ n
unfolding show_in queued ring.queued
queue_row n c r g Closed e = omega arith
queue_row n c r g Unbound e = omega arith
queue_row n c r g (Bound m) e = omega arith
queue_row n c r g (Listening l) e =
    let z : length (take l.pending (drop l.head r.queue ++ r.queue)) ≤ l.pending =
    le_trans (le_of_eq (length-take l.pending (drop l.head r.queue ++ r.queue))) (min-le_left _ _) in
    le_trans z (listener_range n c l e).3
queue_row n c r g (Connected k) e = omega arith

queue_short : (n c : ℕ) (s : Store) → Known n c s → (h : ℕ) → length (queued (model.state_of (view n c s) h)) ≤ n
unfolding model.state_of queued
queue_short n c s k h = go (less_or (slot_of h) n)
  where
    go : (slot_of h < n) ⊎ (n ≤ slot_of h) → length (queued (at (view n c s) (slot_of h)).state) ≤ n
    go (inl l) =
        subst (λ (x : Slot). length (queued x.state) ≤ n) (sym (seen n c s (slot_of h) _ l refl))
        (queue_row n c (row_at n c s (slot_of h)) _ (state_of (cell_at s.words (slot_of h))) (k.ranges (slot_of h) l))
    go (inr l) = subst (λ (x : Slot). length (queued x.state) ≤ n) (sym (at_none n c s (slot_of h) l)) (omega arith)

-- ── Each call ──

one_wake : (t : Table) (p : ℕ) → length (open_one t p) ≤ 1
unfolding open_one
one_wake t p = cond_both (λ (l : List ℕ). length l ≤ 1) (is_open t p) (λ e. omega arith) (λ e. omega arith)

close_wake : (t : Table) (σ : model.State) → length (close_wakes t σ) ≤ 1
unfolding close_wakes
close_wake t model.State.Unbound = omega arith
close_wake t (model.State.Bound m) = omega arith
close_wake t (model.State.Listening m b q) = omega arith
close_wake t (model.State.Connected p i x y) = one_wake t p

-- each socket that closes wakes one at most
all_wake : (t : Table) (hs : List ℕ) → length (close_all t hs).wakes ≤ length hs
unfolding close_all
all_wake t [] = omega arith
all_wake t (h ∷ hs) =
    let a = close_wake t (model.state_of t h) in
    let b = all_wake (leave t h) hs in
    omega (arith, length-append (close_wakes t (model.state_of t h)) (close_all (leave t h) hs).wakes)

module _ (n : ℕ) (t : Table) (some : 1 ≤ n) (short : (h : ℕ) → length (queued (model.state_of t h)) ≤ n) where
  steps : Steps t (λ o. length o.wakes ≤ n + 1)
  unfolding drained do_shutdown do_close
  steps =
      record {
        refused = λ e. omega arith;
        unchanged = λ v. omega arith;
        socket = λ r v y. omega arith;
        bind = λ h m l e a b f. omega arith;
        listen = λ h k m l e. omega arith;
        again = λ h k m b q l e. cond_both (λ (w : List ℕ). length w ≤ n + 1) (ltb b k) (λ z. omega arith) (λ z. omega arith);
        accept = λ h m b s q l e. omega arith;
        connect = λ h k m b q l un o e f r v y. omega arith;
        read = λ h k m p i x y l e z. omega (arith, one_wake t p);
        write = λ h p i x y new its o e r f g. omega arith;
        shutdown = λ h p i x y rd wr l e. omega (arith, one_wake t p);
        close = λ h l. omega (arith, all_wake t (h ∷ queued (model.state_of t h)), short h);
      }

pub wake_room : (n c : ℕ) (s : Store) → Known n c s → (y : Call) → length (run (view n c s) y).wakes ≤ n + 1
wake_room n c s k y =
    walk (view n c s) k.good.sound.wf.sized (λ o. length o.wakes ≤ n + 1) (steps n (view n c s) k.some_slot (queue_short n c s k)) y
