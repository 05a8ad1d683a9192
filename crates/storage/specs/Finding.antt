-- Handles, free slots and names, as the words and the name rooms tell them. proofs/Found.antt shows that the table of `view` says the same.
use Rattle.std.specs.Prelude.{ℕ, zero, suc, Bool, true, false, cond, not, ◌&&◌, Option, Some, None, List, eqb, ltb, take}
use Rattle.rules.specs.Table.{slot_of, handle, same}
use Rattle.storage.specs.Cells.{cell_at, state_of}
use Rattle.storage.specs.declared.Cell.{Cell}
use Rattle.storage.specs.declared.State.{State}
use Rattle.storage.specs.declared.State.TheVariants.{Closed, Unbound, Bound, Listening, Connected}

-- the least number below n that passes, or n
unfoldable pub least : ℕ → (ℕ → Bool) → ℕ
least zero p = zero
least (suc n) p = cond (p zero) zero (suc (least n (λ k. p (suc k))))

-- .. or none
unfoldable pub lowest : ℕ → (ℕ → Bool) → Option ℕ
lowest n p = cond (ltb (least n p) n) (Some (least n p)) None

-- ── Slots ──

abbrev pub occupied : State → Bool
occupied Closed = false
occupied Unbound = true
occupied (Bound m) = true
occupied (Listening l) = true
occupied (Connected k) = true

abbrev pub waiting : State → Bool
waiting Closed = false
waiting Unbound = false
waiting (Bound m) = false
waiting (Listening l) = false
waiting (Connected k) = not (eqb k.waits 0)

unfoldable pub open_in : ℕ → List ℕ → ℕ → Bool
open_in n w h = ltb (slot_of h) n && eqb (handle (cell_at w (slot_of h)).generation (slot_of h)) h && occupied (state_of (cell_at w (slot_of h)))

unfoldable pub live_in : ℕ → List ℕ → ℕ → Bool
live_in n w h = open_in n w h && not (waiting (state_of (cell_at w (slot_of h))))

unfoldable pub free_cell : Cell → Bool
free_cell k = not (occupied (state_of k)) && ltb k.generation 4294967295

-- ── Names ──

abbrev pub named : State → Bool
named Closed = false
named Unbound = false
named (Bound m) = true
named (Listening l) = true
named (Connected k) = false

abbrev pub name_length : State → ℕ
name_length Closed = 0
name_length Unbound = 0
name_length (Bound m) = m
name_length (Listening l) = l.name
name_length (Connected k) = 0

unfoldable pub holds_cell : Cell → List ℕ → List ℕ → Bool
holds_cell k room m = named (state_of k) && same (take (name_length (state_of k)) room) m
