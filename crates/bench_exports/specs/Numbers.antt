-- The five numbers of an inbox in a list.
use Rattle.std.specs.Prelude.{ℕ, List, [], ◌∷◌, get_or}
use Rattle.inbox.specs.declared.Inbox.{Inbox}

abbrev pub numbers_in : List ℕ → Inbox
numbers_in l = record { head = get_or l 0 0; written_total = get_or l 1 0; read_total = get_or l 2 0; first = get_or l 3 0; items = get_or l 4 0 }

abbrev pub listed : Inbox → List ℕ
listed q = q.head ∷ q.written_total ∷ q.read_total ∷ q.first ∷ q.items ∷ []
