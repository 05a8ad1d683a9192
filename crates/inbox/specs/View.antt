-- What an inbox's rings and numbers show: the inbox of rules/specs/Table.
use Rattle.std.specs.Prelude.{ℕ, suc, ◌+◌, ◌-◌, ◌%◌, ◌^◌, cond, List, [], ◌∷◌, map, ◌==◌}
use Rattle.ring.specs.Ring.{queued}
use Rattle.rules.specs.Table as model
use Rattle.rules.specs.Table.{Group}
use Rattle.inbox.specs.declared.Inbox.{Inbox}

-- how far the stream offset `from` lies before `to`; both go round at 2^64
unfoldable pub dist : ℕ → ℕ → ℕ
dist to from = (to + (2 ^ 64 - from % 2 ^ 64)) % 2 ^ 64

-- ── Bytes ──

-- how many are queued
abbrev pub count : Inbox → ℕ
count q = dist q.written_total q.read_total

unfoldable pub bytes_of : List ℕ → Inbox → List ℕ
bytes_of ring q = queued ring q.head (count q)

-- ── Items ──

unfoldable pub items_in : List ℕ → Inbox → List ℕ
items_in tokens q = queued tokens q.first q.items

-- how far the byte of each lies behind the first queued byte
unfoldable pub distances : Inbox → List ℕ → List ℕ
distances q places = map (λ p. dist p q.read_total) (queued places q.first q.items)

-- items that follow each other at one byte are one group
unfoldable pub join : ℕ → ℕ → List Group → List Group
join d t [] = record { place = d; items = t ∷ [] } ∷ []
join d t (g ∷ gs) =
    cond (g.place == d)
    (record { place = d; items = t ∷ g.items } ∷ gs)
    (record { place = d; items = t ∷ [] } ∷ g ∷ gs)

unfoldable pub groups_of : List ℕ → List ℕ → List Group
groups_of [] ts = []
groups_of (d ∷ ds) [] = []
groups_of (d ∷ ds) (t ∷ ts) = join d t (groups_of ds ts)

-- ── The inbox ──

abbrev pub view : (ring places tokens : List ℕ) → Inbox → model.Inbox
view ring places tokens q = record { bytes = bytes_of ring q; groups = groups_of (distances q places) (items_in tokens q) }

-- ── The first of some distances ──

-- how many are 0 before one that is not
unfoldable pub front : List ℕ → ℕ
front [] = 0
front (d ∷ ds) = cond (d == 0) (suc (front ds)) 0

-- the first; n where there is none
unfoldable pub nearest : ℕ → List ℕ → ℕ
nearest n [] = n
nearest n (d ∷ ds) = d
