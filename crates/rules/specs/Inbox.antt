-- One socket's inbox: the Rust's `Inbox` with `push`, `take` and `discard`, over groups of items at places.
use Rattle.std.specs.Prelude.{ℕ, ◌-◌, min, Bool, true, false, cond, List, [], ◌∷◌, ◌++◌, map, length, drop, eqb}
use Rattle.rules.specs.Table.{Group, Inbox}

-- a new inbox, and one that has been discarded
abbrev pub nothing : Inbox
nothing = record { bytes = []; groups = [] }

unfoldable pub is_nil : List ℕ → Bool
is_nil [] = true
is_nil (x ∷ xs) = false

-- all items, in inbox order
unfoldable pub all_items : List Group → List ℕ
all_items [] = []
all_items (g ∷ gs) = g.items ++ all_items gs

-- push: "it appends what fits, attaches the items to its first byte"
unfoldable pub append : Inbox → List ℕ → List ℕ → Inbox
append b new its =
    record {
      bytes = b.bytes ++ new;
      groups = b.groups ++ cond (is_nil its) [] (record { place = length b.bytes; items = its } ∷ []);
    }

-- take: "the group at the first queued byte is removed"
unfoldable pub group : List Group → List ℕ
group [] = []
group (g ∷ gs) = cond (eqb g.place 0) g.items []

unfoldable pub others : List Group → List Group
others [] = []
others (g ∷ gs) = cond (eqb g.place 0) gs (g ∷ gs)

-- "the least of buffer length, queued bytes, and distance to the next group"
unfoldable pub up_to : List Group → ℕ → ℕ
up_to [] n = n
up_to (g ∷ gs) n = min n g.place

unfoldable pub moved : Inbox → ℕ → ℕ
moved b n = up_to (others b.groups) (min n (length b.bytes))

-- what is left when k bytes have gone: every other group is k nearer
unfoldable pub nearer : ℕ → Group → Group
nearer k g = record { place = g.place - k; items = g.items }

unfoldable pub rest : Inbox → ℕ → Inbox
rest b k = record { bytes = drop k b.bytes; groups = map (nearer k) (others b.groups) }
