-- What is asked first, and the promise of a call after it.
use mathlib.Core.Path.{◌≡◌, refl, sym, ap, ◌∙◌, subst}
use mathlib.Core.Bool.{true, not}
use mathlib.Core.List.{List}
use Prim.Native.Nat.{ℕ}
use lib.Dec.{eqb}
use lib.IntN.{ℤ}
use lib.ListN.{length}
use borrow.Author.Tests.{ne_eqb}
use Rattle.std.specs.Prelude.{Result, Ok, Err, IsErrAnd}
use Rattle.words.specs.Numbers.{number_of, refusal_of}
use Rattle.words.specs.declared.Errno.{Errno}
use Rattle.rules.specs.Outcome.{Call, Outcome, refuse, refuse_if}
use Rattle.rules.specs.Run.{run, entry}
use Rattle.storage.specs.Rows.{Store}
use Rattle.storage.specs.View.{view}
use Rattle.table.specs.Admission.{admits, Admitted}
use Rattle.table.proofs.Facts.{admitted}
use Rattle.promise.specs.Answers.{told}
use Rattle.promise.specs.Promise.{Lists, Done, Filled, Runs, Fills, outcome, Promise, PromiseFills}
use Rattle.promise.specs.declared.Answer.{Answer}
use Rattle.promise.specs.declared.Accepted.{Accepted}
use Rattle.promise.proofs.Answering.{passed_on}
use Rattle.promise.proofs.Known.{refused_done}
use Rattle.words.proofs.Names.{number_some}

-- a refusal's number is not 0
some_refusal : (e : Errno) → not (eqb (number_of e) 0) ≡ true
some_refusal e = ap not (ne_eqb (number_of e) 0 (number_some e))

-- the complete answer, at the number that admission gives
outcome_is : (n c : ℕ) (s : Store) (l : Lists) (call : Call) → let a = admits n c s (length l.wakes) (length l.releases) in
    outcome n c s l call ≡ refuse_if (not (eqb a 0)) a (view n c s) (run (view n c s) call)
unfolding entry admits
outcome_is n c s l call = refl

-- the answer of admission
module _ (n c : ℕ) (s : Store) (l : Lists) (v : Result Unit Errno) (ev : refusal_of v ≡ admits n c s (length l.wakes) (length l.releases)) where
  -- refused
  module _ (e : Errno) (er : v ≡ Err e) where
    is_refused : (call : Call) → outcome n c s l call ≡ refuse (view n c s) (number_of e)
    unfolding refuse_if
    is_refused call = outcome_is n c s l call ∙ rw (sym ev, er, some_refusal e)

    -- r is what a `?` hands on
    pub refused_first : (call : Call) (r : Result Accepted Errno) → IsErrAnd r (λ y. y ≡ e) → Promise call n c s s l l (told r)
    refused_first call r h = refused_done (outcome n c s l call) (number_of e) n c s l (told r) (is_refused call) (number_some e) (passed_on r e h)

    pub refused_fills : (call : Call) (buf items : List ℕ) → PromiseFills call n c s l buf buf items items
    refused_fills call buf items = rw (is_refused call) (record { buffer = refl; item_list = refl })

  -- accepted
  module _ (ea : v ≡ Ok tt) where
    is_admitted : admits n c s (length l.wakes) (length l.releases) ≡ 0
    is_admitted = sym ev ∙ ap refusal_of ea

    is_run : (call : Call) → outcome n c s l call ≡ run (view n c s) call
    unfolding refuse_if
    is_run call = outcome_is n c s l call ∙ rw is_admitted

    pub then_runs : (call : Call) (s' : Store) (l' : Lists) (r : Answer) → Runs call n c s s' l l' r → Promise call n c s s' l l' r
    then_runs call s' l' r d = subst (λ (o : Outcome). Done o n c s s' l l' r) (sym (is_run call)) d

    pub then_fills : (call : Call) (buf buf' items items' : List ℕ) → Fills call n c s buf buf' items items' → PromiseFills call n c s l buf buf' items items'
    then_fills call buf buf' items items' d = subst (λ (o : Outcome). Filled o buf buf' items items') (sym (is_run call)) d

    -- the arguments of socket as they are handed on
    pub then_socket : (d ty p d' ty' p' : ℤ) (s' : Store) (l' : Lists) (r : Answer) → d' ≡ d → ty' ≡ ty → p' ≡ p → Runs (Call.Socket d' ty' p') n c s s' l l' r
        → Promise (Call.Socket d ty p) n c s s' l l' r
    then_socket d ty p d' ty' p' s' l' r ed et ep h = then_runs (Call.Socket d ty p) s' l' r (rw (sym ed, sym et, sym ep) h)

    -- and of shutdown
    pub then_shutdown : (h : ℕ) (how how' : ℤ) (s' : Store) (l' : Lists) (r : Answer) → how' ≡ how → Runs (Call.Shutdown h how') n c s s' l l' r → Promise (Call.Shutdown h how) n c s s' l l' r
    then_shutdown h how how' s' l' r e d = then_runs (Call.Shutdown h how) s' l' r (rw (sym e) d)

-- what the call may ask then
pub enters : {n c : ℕ} {s : Store} {wakes releases : ℕ} → (v : Result Unit Errno) → refusal_of v ≡ admits n c s wakes releases → v ≡ Ok tt → Admitted n c s wakes releases
enters {n} {c} {s} {wakes} {releases} v ev ea = admitted n c s wakes releases (sym ev ∙ ap refusal_of ea)
