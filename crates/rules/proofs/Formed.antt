-- What a well-formed table has, as propositions; kept by every call, true of the fresh table, so true of every table reached from it.
use mathlib.Core.Path.{◌≡◌, sym, subst}
use Prim.Native.Nat.{ℕ, ◌≤◌}
use mathlib.Core.Bool.{true, ◌&&◌}
use mathlib.Core.List.{List, [], ◌∷◌}
use lib.Dec.{leb}
use lib.ListN.{length, length-replicate}
use borrow.Author.Tests.{leb-true}
use Rattle.laws.proofs.Tests.{and_left, and_right}
use Rattle.rules.proofs.Model.{Table, Call, vacant, fresh, after, in_range, run}
use Rattle.rules.proofs.QueuesRun.{Sound, sound_run, sound_fresh}
use Rattle.rules.proofs.Shape.{Shape, shape_run, shape_fresh}
use Rattle.rules.proofs.Sized.{sized_run}

pub record Formed (t : Table) : Type 0 where
  pub range : in_range (length t.slots) t.capacity ≡ true
  pub sound : Sound t.capacity t
  pub shape : Shape t

pub few : (n c : ℕ) → in_range n c ≡ true → n ≤ 1024
unfolding in_range
few n c r = leb-true n 1024 (and_right (leb 1 n) _ (and_left (leb 1 n && leb n 1024) _ (and_left (leb 1 n && leb n 1024 && leb 1 c) _ r)))

pub formed_run : (t : Table) → Formed t → (y : Call) → Formed (run t y).next
formed_run t f y =
    let s = sized_run t f.sound.wf.sized y in
    record {
      range = rw (s.size, s.room) f.range;
      sound = subst (λ (c : ℕ). Sound c (run t y).next) (sym s.room) (sound_run t.capacity t f.sound y);
      shape = shape_run t f.sound.wf.sized f.shape f.sound.queues y;
    }

pub formed_fresh : (n c : ℕ) → in_range n c ≡ true → Formed (fresh n c)
formed_fresh n c r = record { range = rw (length-replicate n vacant) r; sound = sound_fresh n c (few n c r); shape = shape_fresh n c }

pub formed_after : (t : Table) (cs : List Call) → Formed t → Formed (after t cs)
unfolding after
formed_after t [] f = f
formed_after t (c ∷ cs) f = formed_after (run t c).next cs (formed_run t f c)
