-- What every call promises, accepted or refused: the answer, both lists, the caller's buffer and item list, and all of the lent storage.
use Rattle.std.specs.Prelude.{ℕ, ◌<◌, ◌≡◌, true, ◌&&◌, List, length}
use Rattle.std.proofs.lemmas.List.Edits.{sets}
use Rattle.rules.specs.Table.{at}
use Rattle.rules.specs.Outcome.{Call, Outcome}
use Rattle.rules.specs.Run.{run, entry}
use Rattle.storage.specs.Cells.{cell_at, state_of}
use Rattle.storage.specs.Rows.{Store, row_at, Around}
use Rattle.storage.specs.View.{view}
use Rattle.table.specs.Formed.{formed}
use Rattle.table.specs.Admission.{storage_fits, lists_fit}
use Rattle.promise.specs.Hidden.{hidden_in, hidden_after, room_after}
use Rattle.promise.specs.declared.Answer.{Answer}

-- what the host lends to every call
pub record Lists : Type 0 where
  pub wakes : List ℕ
  pub releases : List ℕ

abbrev pub lists : List ℕ → List ℕ → Lists
lists w r = record { wakes = w; releases = r }

-- ── The storage after an accepted call ──

pub record Stored (n c : ℕ) (s s' : Store) (o : Outcome) : Type 0 where
  -- the table that it shows, and that it is well-formed
  pub shows : view n c s' ≡ o.next
  pub well : formed n c s' ≡ true
  -- every number that the view forgets
  pub numbers : (i : ℕ) → i < n
      → hidden_in (state_of (cell_at s'.words i)) ≡ hidden_after n c (hidden_in (state_of (cell_at s.words i))) (at (view n c s) i).state (at o.next i).state
  -- every byte of a name's room
  pub rooms : (i : ℕ) → i < n → (row_at n c s' i).room ≡ room_after (row_at n c s i).room (at (view n c s) i).state (at o.next i).state
  -- the header, and all beyond the least sizes
  pub around : Around n c s s'

-- ── The promise, at an outcome ──

pub record Done (o : Outcome) (n c : ℕ) (s s' : Store) (l l' : Lists) (r : Answer) : Type 0 where
  pub refusal_is : r.refusal ≡ o.no
  pub value_is : r.value ≡ o.value
  pub flags_are : r.flags ≡ o.flags
  pub item_count : r.items ≡ length o.items
  pub wake_count : r.wakes ≡ length o.wakes
  pub release_count : r.releases ≡ length o.releases
  -- "entries beyond a count stay as they were"
  pub wake_list : l'.wakes ≡ sets l.wakes 0 o.wakes
  pub release_list : l'.releases ≡ sets l.releases 0 o.releases
  pub accepted : o.no ≡ 0 → Stored n c s s' o
  -- "no lent byte differs"
  pub refused : (o.no ≡ 0 → ⊥) → s' ≡ s

-- the caller's buffer and item list: what was moved, and the rest as it was
pub record Filled (o : Outcome) (buf buf' items items' : List ℕ) : Type 0 where
  pub buffer : buf' ≡ sets buf 0 o.bytes
  pub item_list : items' ≡ sets items 0 o.items

-- ── The promise of a call on a table that has been admitted ──

abbrev pub Runs : Call → (n c : ℕ) (s s' : Store) (l l' : Lists) → Answer → Type 0
Runs call n c s s' l l' r = Done (run (view n c s) call) n c s s' l l' r

abbrev pub Fills : Call → (n c : ℕ) (s : Store) (buf buf' items items' : List ℕ) → Type 0
Fills call n c s buf buf' items items' = Filled (run (view n c s) call) buf buf' items items'

-- ── The promise of a public call: "N or C out of range 2; 18; 19", and then the rules ──

abbrev pub outcome : ℕ → ℕ → Store → Lists → Call → Outcome
outcome n c s l call = entry n c (storage_fits n c s && lists_fit n c (length l.wakes) (length l.releases)) (formed n c s) (view n c s) call

abbrev pub Promise : Call → (n c : ℕ) (s s' : Store) (l l' : Lists) → Answer → Type 0
Promise call n c s s' l l' r = Done (outcome n c s l call) n c s s' l l' r

abbrev pub PromiseFills : Call → (n c : ℕ) (s : Store) (l : Lists) (buf buf' items items' : List ℕ) → Type 0
PromiseFills call n c s l buf buf' items items' = Filled (outcome n c s l call) buf buf' items items'
