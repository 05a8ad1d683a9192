-- The order of sendmsg and recvmsg: flags first, then the control bytes, then the table call.
use Prim.Native.Nat.{ℕ, ◌≤◌, ◌<◌}
use mathlib.Core.Path.{◌≡◌, refl, sym, ap, ◌∙◌, subst}
use mathlib.Core.Bool.{true, false}
use mathlib.Core.List.{List}
use lib.IntN.{ℤ}
use lib.ListN.{length, take, drop}
use lib.Seq.{take-append_seam}
use borrow.Author.Tests.{lt-ltb, le-ltb}
use Rattle.std.specs.Prelude.{Result, Ok, Err}
use Rattle.words.specs.Integers.{equals}
use Rattle.words.specs.Numbers.{number_of}
use Rattle.words.specs.declared.Errno.{Errno}
use Rattle.syscall.specs.Control.{Control, meaning, capacity_of}
use Rattle.syscall.specs.Promise.{parse_of, list_after, SendParsed, recv_capacity_of}
use Rattle.rules.specs.Outcome.{Call, Outcome, refuse}
use Rattle.storage.specs.Rows.{Store}
use Rattle.storage.specs.View.{view}
use Rattle.promise.specs.Answers.{refused_with}
use Rattle.promise.specs.Promise.{Lists, Done, Filled, outcome, Promise, PromiseFills}
use Rattle.promise.specs.declared.Answer.{Answer}
use Rattle.promise.proofs.Known.{refused_done}
use Rattle.words.proofs.Names.{number_some}
use Rattle.unix_socket.specs.Joint.{then_call, send_asks, send_lists, sendmsg_of, recvmsg_of}

-- ── sendmsg ──

module _ (items : List ℤ → List ℕ) (flags : ℤ) (b : List ℕ) (f : List ℤ) (n c : ℕ) (s : Store) (l : Lists) (h : ℕ) (from : List ℕ) where
  pub flags_first : equals flags 0 ≡ false → sendmsg_of items flags b f n c s l h from ≡ refuse (view n c s) 6
  unfolding sendmsg_of send_asks then_call
  flags_first e = rw e

  pub control_next : (x : Errno) → equals flags 0 ≡ true → meaning b ≡ Control.refused x → sendmsg_of items flags b f n c s l h from ≡ refuse (view n c s) (number_of x)
  unfolding sendmsg_of send_asks then_call parse_of
  control_next x e m = rw (e, m)

  pub list_next : (ds : List ℤ) → equals flags 0 ≡ true → meaning b ≡ Control.descriptors ds → length f < length ds → sendmsg_of items flags b f n c s l h from ≡ refuse (view n c s) 18
  unfolding sendmsg_of send_asks then_call parse_of
  list_next ds e m k = rw (e, m, lt-ltb (length f) (length ds) k)

  pub table_last : (ds : List ℤ) → equals flags 0 ≡ true → meaning b ≡ Control.descriptors ds → length ds ≤ length f
      → sendmsg_of items flags b f n c s l h from ≡ outcome n c s l (Call.Sendmsg h from (items ds))
  unfolding sendmsg_of send_asks send_lists then_call parse_of list_after
  table_last ds e m k = rw (e, m, le-ltb (length f) (length ds) k) (ap (λ (x : List ℤ). outcome n c s l (Call.Sendmsg h from (items x))) (take-append_seam ds (drop (length ds) f)))

  -- a host that asks `sendmsg_control` first: where it refuses, that is the answer
  module _ (f' : List ℤ) (r : Result ℕ Errno) (p : SendParsed flags b f f' r) where
    asked : r ≡ send_asks flags b f
    unfolding send_asks
    asked = p.answer

    listed : f' ≡ send_lists flags b f
    unfolding send_lists
    listed = p.list

    pub send_stops : (e : Errno) → r ≡ Err e → Done (sendmsg_of items flags b f n c s l h from) n c s s l l (refused_with (number_of e))
    unfolding sendmsg_of then_call
    send_stops e er = refused_done _ (number_of e) n c s l _ (rw (sym asked ∙ er)) (number_some e) refl

    -- and where it answers a number, the table call is the answer
    module _ (k : ℕ) (ek : r ≡ Ok k) where
      send_is : sendmsg_of items flags b f n c s l h from ≡ outcome n c s l (Call.Sendmsg h from (items (take k f')))
      unfolding sendmsg_of then_call
      send_is = rw (sym asked ∙ ek) (ap (λ (x : List ℤ). outcome n c s l (Call.Sendmsg h from (items (take k x)))) (sym listed))

      pub send_goes : (s' : Store) (l' : Lists) (a : Answer) → Promise (Call.Sendmsg h from (items (take k f'))) n c s s' l l' a → Done (sendmsg_of items flags b f n c s l h from) n c s s' l l' a
      send_goes s' l' a d = subst (λ (o : Outcome). Done o n c s s' l l' a) (sym send_is) d

-- ── recvmsg ──

module _ (flags : ℤ) (m n c : ℕ) (s : Store) (l : Lists) (h size : ℕ) where
  pub recv_flags_first : equals flags 0 ≡ false → recvmsg_of flags m n c s l h size ≡ refuse (view n c s) 6
  unfolding recvmsg_of recv_capacity_of then_call
  recv_flags_first e = rw e

  pub recv_table_last : equals flags 0 ≡ true → recvmsg_of flags m n c s l h size ≡ outcome n c s l (Call.Recvmsg h size (capacity_of m))
  unfolding recvmsg_of recv_capacity_of then_call
  recv_table_last e = rw e

  -- a host that asks `recvmsg_capacity` first
  module _ (r : Result ℕ Errno) (p : r ≡ recv_capacity_of flags m) where
    pub recv_stops : (e : Errno) → r ≡ Err e → Done (recvmsg_of flags m n c s l h size) n c s s l l (refused_with (number_of e))
    unfolding recvmsg_of then_call
    recv_stops e er = refused_done _ (number_of e) n c s l _ (rw (sym p ∙ er)) (number_some e) refl

    module _ (k : ℕ) (ek : r ≡ Ok k) where
      recv_is : recvmsg_of flags m n c s l h size ≡ outcome n c s l (Call.Recvmsg h size k)
      unfolding recvmsg_of then_call
      recv_is = rw (sym p ∙ ek)

      pub recv_goes : (s' : Store) (l' : Lists) (a : Answer) → Promise (Call.Recvmsg h size k) n c s s' l l' a → Done (recvmsg_of flags m n c s l h size) n c s s' l l' a
      recv_goes s' l' a d = subst (λ (o : Outcome). Done o n c s s' l l' a) (sym recv_is) d

      pub recv_fills : (buf buf' its its' : List ℕ) → PromiseFills (Call.Recvmsg h size k) n c s l buf buf' its its' → Filled (recvmsg_of flags m n c s l h size) buf buf' its its'
      recv_fills buf buf' its its' d = subst (λ (o : Outcome). Filled o buf buf' its its') (sym recv_is) d
