-- The check of a table by itself: `admission` of rules/specs/Run, at the two slices that it reads.
use Rattle.std.specs.Prelude.{ℕ, ◌&&◌, List, [], leb, length}
use Rattle.rules.specs.Run.{admission}
use Rattle.storage.specs.Layout.{sizes_of}
use Rattle.storage.specs.Rows.{lent}
use Rattle.table.specs.OnePass.{checks}

unfoldable pub check_no : ℕ → ℕ → (words bytes : List ℕ) → ℕ
check_no n c w b = admission n c (leb (sizes_of n c).words (length w) && leb (sizes_of n c).bytes (length b)) (checks n c (lent w b []))
