-- A ring: a list that is read from a place to its end, and then once more from its start.
use Rattle.std.specs.Prelude.{ℕ, ◌-◌, cond, List, ◌++◌, ltb, length, take, drop}

-- the place in a ring of c that lies k after its start, where k has gone past the end at most once
unfoldable pub place_of : ℕ → ℕ → ℕ
place_of c k = cond (ltb k c) k (k - c)

-- the n elements of the ring r from place h on
unfoldable pub queued : {A : Type 0} → List A → ℕ → ℕ → List A
queued r h n = take n (drop h r ++ r)

-- all of the ring from place h on: r, turned. Two rings that are the same when turned are the same (`turned`)
abbrev pub whole : {A : Type 0} → List A → ℕ → List A
whole r h = queued r h (length r)
