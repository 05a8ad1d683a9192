-- What closing one connected socket does to the words and to both lists; and how far a close has come.
use Rattle.std.specs.Prelude.{ℕ, ◌+◌, ◌*◌, ◌≤◌, ◌<◌, ◌≡◌, ◌⊎◌, cond, length}
use mathlib.Core.List.{List, [], ◌∷◌, Memᴰ}
use Rattle.std.proofs.lemmas.List.Edits.{sets}
use Rattle.inbox.specs.View.{count, items_in}
use Rattle.rules.specs.Table.{slot_of}
use Rattle.rules.specs.Ending.{close_all}
use Rattle.storage.specs.Layout.{part, tokens_base}
use Rattle.storage.specs.Cells.{cell_at, state_of, store_at, cell_of, connection_of, plain_cell}
use Rattle.storage.specs.Rows.{Store, Row, row_at, lent, with_cell, Around}
use Rattle.storage.specs.View.{view}
use Rattle.storage.specs.Finding.{open_in}
use Rattle.storage.specs.declared.Connection.{Connection}
use Rattle.storage.specs.declared.State.{State}
use Rattle.storage.specs.declared.State.TheVariants.{Closed, Unbound, Bound, Listening, Connected}
use Rattle.ending.specs.declared.Closing.{Closing}

-- its open peer
unfoldable pub peer_in : ℕ → List ℕ → Connection → List ℕ
peer_in n w k = cond (open_in n w k.peer.0) (k.peer.0 ∷ []) []

-- the socket k in slot i, of generation g
pub record Ends (n i g : ℕ) (k : Connection) (w w' t wk wk' rl rl' : List ℕ) (d r : Closing) : Type 0 where
  pub words : w' ≡ store_at w i (cell_of g Closed)
  pub wakes : wk' ≡ sets wk d.wakes (peer_in n w k)
  pub releases : rl' ≡ sets rl d.releases (items_in (part (tokens_base i) 256 t) k.inbox)
  pub wake_count : r.wakes ≡ d.wakes + length (peer_in n w k)
  pub release_count : r.releases ≡ d.releases + k.inbox.items

-- an inbox that may be discarded
pub record Fits (c : ℕ) (k : Connection) : Type 0 where
  pub head_in : k.inbox.head < c
  pub bytes_in : count k.inbox ≤ c
  pub first_in : k.inbox.first < 256
  pub items-in : k.inbox.items ≤ 256

-- the handle x is of a connected socket
pub record Serves (n c : ℕ) (w : List ℕ) (x : ℕ) : Type 0 where
  pub within : slot_of x < n
  pub server : Connection
  pub is_server : state_of (cell_at w (slot_of x)) ≡ Connected server
  pub fits : Fits c server

-- the connection of a connected socket
abbrev pub connection_in : State → Connection
connection_in Closed = connection_of (plain_cell 0 0 0)
connection_in Unbound = connection_of (plain_cell 0 0 0)
connection_in (Bound m) = connection_of (plain_cell 0 0 0)
connection_in (Listening l) = connection_of (plain_cell 0 0 0)
connection_in (Connected k) = k

-- a row that stays, or is closed because a socket of hs was in it
abbrev pub Shut : List ℕ → ℕ → Row → Row → Type 0
Shut hs j r r' = (r' ≡ r) ⊎ ((y : ℕ) × Memᴰ y hs × (j ≡ slot_of y) × (r' ≡ with_cell (cell_of r.cell.generation Closed) r))

-- when the sockets hs have closed, at most e wakes and at most the items of f sockets are listed
pub record SoFar (n c : ℕ) (s : Store) (hs : List ℕ) (e f : ℕ) (w' wk wk' rl rl' : List ℕ) (d : Closing) : Type 0 where
  pub shows : view n c (lent w' s.bytes s.tokens) ≡ (close_all (view n c s) hs).next
  pub around : Around n c s (lent w' s.bytes s.tokens)
  pub rows_are : (j : ℕ) → j < n → Shut hs j (row_at n c s j) (row_at n c (lent w' s.bytes s.tokens) j)
  pub wakes_are : wk' ≡ sets wk 0 (close_all (view n c s) hs).wakes
  pub releases_are : rl' ≡ sets rl 0 (close_all (view n c s) hs).releases
  pub wake_count : d.wakes ≡ length (close_all (view n c s) hs).wakes
  pub release_count : d.releases ≡ length (close_all (view n c s) hs).releases
  pub wakes_few : d.wakes ≤ e
  pub releases_few : d.releases ≤ 256 * f
