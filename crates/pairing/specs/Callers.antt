-- Who may reach for a name: an unbound socket that is live, with a name of 1 to 255 bytes.
use Rattle.std.specs.Prelude.{ℕ, ◌≤◌, ◌≡◌, true, List, length}
use Rattle.rules.specs.Table.{slot_of}
use Rattle.storage.specs.Cells.{cell_at, state_of}
use Rattle.storage.specs.Finding.{live_in}
use Rattle.storage.specs.declared.State.TheVariants.{Unbound}

pub record Caller (n : ℕ) (w : List ℕ) (h : ℕ) (name : List ℕ) : Type 0 where
  pub lives : live_in n w h ≡ true
  pub unbound : state_of (cell_at w (slot_of h)) ≡ Unbound
  pub some_name : length name ≡ 0 → ⊥
  pub short_name : length name ≤ 255
