-- A send from its open peer on: what it promises, for the call that came so far.
use Rattle.std.specs.Prelude.{ℕ, ◌≡◌, List}
use Rattle.rules.specs.Table as model
use Rattle.rules.specs.Outcome.{Call}
use Rattle.rules.specs.Moving.{send}
use Rattle.rules.specs.Run.{run}
use Rattle.storage.specs.Rows.{Store}
use Rattle.storage.specs.View.{view}
use Rattle.promise.specs.Promise.{Lists, Done}
use Rattle.promise.specs.declared.Answer.{Answer}

-- a send that has reached its open peer p
pub record Sends (n c : ℕ) (s s' : Store) (p : ℕ) (buf items : List ℕ) (l l' : Lists) (r : Answer) : Type 0 where
  pub sends : (call : Call) → run (view n c s) call ≡ send (view n c s) p buf items (model.state_of (view n c s) p) → Done (run (view n c s) call) n c s s' l l' r
