-- What a call is, and what it answers. Document 01, "Numbers a caller may get back".
use Rattle.std.specs.Prelude.{ℕ, Bool, cond, List, [], ◌∷◌, ℤ}
use Rattle.rules.specs.Table.{Table, is_open}

-- the twelve calls; a buffer is its length, and `most` the length of the item list lent to recvmsg
pub data Call : Type 0 where
  Socket : (domain type protocol : ℤ) → Call
  Bind : (h : ℕ) (name : List ℕ) → Call
  Listen : (h backlog : ℕ) → Call
  Accept : (h : ℕ) → Call
  Connect : (h : ℕ) (name : List ℕ) → Call
  Read : (h size : ℕ) → Call
  Recvmsg : (h size most : ℕ) → Call
  Write : (h : ℕ) (from : List ℕ) → Call
  Sendmsg : (h : ℕ) (from items : List ℕ) → Call
  Shutdown : (h : ℕ) (how : ℤ) → Call
  Close : (h : ℕ) → Call
  Readiness : (h : ℕ) → Call

-- 01's number (0: accepted); the value; "the wake list holds handles in order of notification, 0 meaning the registry", "the release list holds dropped
-- items in inbox order"; the bytes and the items that the caller gets; recvmsg's flags; the table after it
pub record Outcome : Type 0 where
  pub no : ℕ
  pub value : ℕ
  pub wakes : List ℕ
  pub releases : List ℕ
  pub bytes : List ℕ
  pub items : List ℕ
  pub flags : ℕ
  pub next : Table

-- "A refusal returns its number, both counts 0, and no lent byte differs."
abbrev pub refuse : Table → ℕ → Outcome
refuse t n = record { no = n; value = 0; wakes = []; releases = []; bytes = []; items = []; flags = 0; next = t }

-- an accepted call: its value ("an accepted call without a value answers 0"), its wakes and its releases
abbrev pub answer : Table → ℕ → List ℕ → List ℕ → Outcome
answer t v w r = record { no = 0; value = v; wakes = w; releases = r; bytes = []; items = []; flags = 0; next = t }

-- "this: that number;" and then the rest of the rule
unfoldable pub refuse_if : Bool → ℕ → Table → Outcome → Outcome
refuse_if c n t o = cond c (refuse t n) o

-- the registry, as it stands in the wake list
abbrev pub registry : ℕ
registry = 0

-- "its open peer": h, where h is open
unfoldable pub open_one : Table → ℕ → List ℕ
open_one t h = cond (is_open t h) (h ∷ []) []
