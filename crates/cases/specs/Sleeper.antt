-- Demand 3 over lent storage: a call that answered EAGAIN, and the calls that are made while its caller sleeps.
use Rattle.std.specs.Prelude.{ℕ, ◌≡◌, ◌≢◌, true, length, take}
use mathlib.Core.List.{Memᴰ}
use Rattle.rules.specs.Outcome.{Call}
use Rattle.rules.specs.Demand.{sleeps_on}
use Rattle.storage.specs.Rows.{Store}
use Rattle.table.specs.Admission.{lists_fit}
use Rattle.promise.specs.Promise.{Lists, outcome}
use Rattle.cases.specs.Step.{Request, Result, Allowed}

-- x, asked at this storage with some lists, answers EAGAIN
pub record Sleeps (n c : ℕ) (x : Call) (s : Store) : Type 0 where
  pub lists : Lists
  pub again : (outcome n c s lists x).no ≡ 8

-- x, asked at this storage with some lists that are large enough, answers otherwise
pub record Stirs (n c : ℕ) (x : Call) (s : Store) : Type 0 where
  pub lists : Lists
  pub large : lists_fit n c (length lists.wakes) (length lists.releases) ≡ true
  pub otherwise : (outcome n c s lists x).no ≢ 8

-- x answers EAGAIN at s, and would after each call on the way to the other storage
pub data Asleep (n c : ℕ) (x : Call) (s : Store) : Store → Type 0 where
  falls : Sleeps n c x s → Asleep n c x s s
  stays : {s' : Store} → Asleep n c x s s' → (q : Request) (r : Result) → Allowed s' q r → Sleeps n c x r.store → Asleep n c x s r.store

-- what x's caller sleeps on is among the entries that a call left in its wake list, as many as it counted: 0 for connect, x's handle for the rest
abbrev pub Woken : Call → Result → Type 0
Woken x r = Memᴰ (sleeps_on x) (take r.answer.wakes r.lists.wakes)
