-- A call on lent storage, and what the promise allows it to do. Nothing here knows how a call is made.
use Rattle.std.specs.Prelude.{ℕ, List}
use Rattle.rules.specs.Outcome.{Call, Outcome}
use Rattle.storage.specs.Rows.{Store}
use Rattle.promise.specs.Promise.{Lists, outcome, Promise, PromiseFills}
use Rattle.promise.specs.declared.Answer.{Answer}

-- what is lent beside the storage: both lists; the caller's buffer and item list, empty where the call has none
pub record Request : Type 0 where
  pub n : ℕ
  pub c : ℕ
  pub call : Call
  pub lists : Lists
  pub buf : List ℕ
  pub items : List ℕ

-- all that is lent, when the call has returned, and its answer
pub record Result : Type 0 where
  pub store : Store
  pub lists : Lists
  pub buf : List ℕ
  pub items : List ℕ
  pub answer : Answer

abbrev pub outcome_of : Store → Request → Outcome
outcome_of s q = outcome q.n q.c s q.lists q.call

pub record Allowed (s : Store) (q : Request) (r : Result) : Type 0 where
  pub promise : Promise q.call q.n q.c s r.store q.lists r.lists r.answer
  pub fills : PromiseFills q.call q.n q.c s q.lists q.buf r.buf q.items r.items

-- calls one after another: any calls, with any N, C, lists and handles, refused ones included, and any results that the promise allows
pub data Reached (s₀ : Store) : Store → Type 0 where
  start : Reached s₀ s₀
  then' : {s : Store} → Reached s₀ s → (q : Request) (r : Result) → Allowed s q r → Reached s₀ r.store
