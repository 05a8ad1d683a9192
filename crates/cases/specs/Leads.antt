-- Calls one after another at the N and C of a table, each lent what it asks for, with any results that the promise allows.
use Rattle.std.specs.Prelude.{ℕ, ◌≡◌, true, List, [], ◌∷◌, length, replicate}
use Rattle.rules.specs.Outcome.{Call}
use Rattle.storage.specs.Layout.{sizes_of}
use Rattle.storage.specs.Rows.{Store}
use Rattle.table.specs.Admission.{lists_fit}
use Rattle.promise.specs.Promise.{lists}
use Rattle.cases.specs.Step.{Request, Result, Allowed}

-- how long the caller's buffer is, and the item list lent to recvmsg
abbrev pub buffer_of : Call → ℕ
buffer_of (Call.Socket domain type protocol) = 0
buffer_of (Call.Bind h name) = 0
buffer_of (Call.Listen h backlog) = 0
buffer_of (Call.Accept h) = 0
buffer_of (Call.Connect h name) = 0
buffer_of (Call.Read h size) = size
buffer_of (Call.Recvmsg h size most) = size
buffer_of (Call.Write h from) = 0
buffer_of (Call.Sendmsg h from items) = 0
buffer_of (Call.Shutdown h how) = 0
buffer_of (Call.Close h) = 0
buffer_of (Call.Readiness h) = 0

abbrev pub items_of : Call → ℕ
items_of (Call.Socket domain type protocol) = 0
items_of (Call.Bind h name) = 0
items_of (Call.Listen h backlog) = 0
items_of (Call.Accept h) = 0
items_of (Call.Connect h name) = 0
items_of (Call.Read h size) = 0
items_of (Call.Recvmsg h size most) = most
items_of (Call.Write h from) = 0
items_of (Call.Sendmsg h from items) = 0
items_of (Call.Shutdown h how) = 0
items_of (Call.Close h) = 0
items_of (Call.Readiness h) = 0

-- a request for the call x, with lists of the least size
abbrev pub asked : ℕ → ℕ → Call → Request
asked n c x =
    record {
      n = n;
      c = c;
      call = x;
      lists = lists (replicate (sizes_of n c).wakes 0) (replicate (sizes_of n c).releases 0);
      buf = replicate (buffer_of x) 0;
      items = replicate (items_of x) 0;
    }

-- one with lists that are large enough
pub record Asks (n c : ℕ) (x : Call) (q : Request) : Type 0 where
  pub slots : q.n ≡ n
  pub capacity : q.c ≡ c
  pub call_is : q.call ≡ x
  pub large : lists_fit n c (length q.lists.wakes) (length q.lists.releases) ≡ true
  pub buffer : length q.buf ≡ buffer_of x
  pub item_list : length q.items ≡ items_of x

-- such a request at this storage, and a result that the promise allows
pub record Called (n c : ℕ) (x : Call) (s : Store) : Type 0 where
  pub request : Request
  pub result : Result
  pub asks : Asks n c x request
  pub allowed : Allowed s request result

-- these calls lead from one storage to another
abbrev pub Leads : (n c : ℕ) → Store → List Call → Store → Type 0
Leads n c s [] s' = s' ≡ s
Leads n c s (x ∷ xs) s' = (k : Called n c x s) × Leads n c k.result.store xs s'
