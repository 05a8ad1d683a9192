-- A drain from the state on: what it promises, for the call that came so far; and the wake of the peer.
use Rattle.std.specs.Prelude.{ℕ, ◌≡◌, Bool, cond, not, ◌||◌, List, [], ◌∷◌, length}
use Rattle.std.proofs.lemmas.List.Edits.{sets}
use Rattle.rules.specs.Table as model
use Rattle.rules.specs.Outcome.{Call}
use Rattle.rules.specs.Moving.{Policy, drain}
use Rattle.rules.specs.Run.{run}
use Rattle.storage.specs.Rows.{Store}
use Rattle.storage.specs.View.{view}
use Rattle.promise.specs.Answers.{refused_with, accepted_with}
use Rattle.promise.specs.Promise.{Lists, Done, Filled}
use Rattle.promise.specs.declared.Answer.{Answer}

-- a drain of the live socket h
pub record Drains (n c : ℕ) (s s' : Store) (h : ℕ) (policy : Policy) (buf buf' items items' : List ℕ) (l l' : Lists) (r : Answer) : Type 0 where
  pub drains : (call : Call) → run (view n c s) call ≡ drain (view n c s) h (length buf) policy (model.state_of (view n c s) h)
      → Done (run (view n c s) call) n c s s' l l' r × Filled (run (view n c s) call) buf buf' items items'

-- "Inbox empty: 0 bytes if the inbox is closed or the peer gone, else 8"
abbrev pub nothing_queued : Bool → Bool → Answer
nothing_queued x o = cond (x || not o) (accepted_with 0 0) (refused_with 8)

-- h at the start of the wake list, where it is to be woken: r of its entries are filled
pub record Wakes (wakes wakes' : List ℕ) (h : ℕ) (on : Bool) (r : ℕ) : Type 0 where
  pub list : wakes' ≡ sets wakes 0 (cond on (h ∷ []) [])
  pub filled : r ≡ length (cond on (h ∷ []) [])
