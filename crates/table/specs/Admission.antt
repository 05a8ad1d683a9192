-- What every call asks first: "N or C out of range 2; 18; 19". `admission` of rules/specs/Run, at the lent storage.
use Rattle.std.specs.Prelude.{ℕ, ◌≤◌, ◌≡◌, Bool, true, ◌&&◌, leb, length}
use Rattle.rules.specs.Run.{admission}
use Rattle.storage.specs.Layout.{sizes_of}
use Rattle.storage.specs.Rows.{Store}
use Rattle.table.specs.Formed.{formed}

-- "lent storage or list too small": the three slices
unfoldable pub storage_fits : ℕ → ℕ → Store → Bool
storage_fits n c s = leb (sizes_of n c).words (length s.words) && leb (sizes_of n c).bytes (length s.bytes) && leb (sizes_of n c).tokens (length s.tokens)

-- and both lists
unfoldable pub lists_fit : ℕ → ℕ → (wakes releases : ℕ) → Bool
lists_fit n c wakes releases = leb (sizes_of n c).wakes wakes && leb (sizes_of n c).releases releases

unfoldable pub admits : ℕ → ℕ → Store → (wakes releases : ℕ) → ℕ
admits n c s wakes releases = admission n c (storage_fits n c s && lists_fit n c wakes releases) (formed n c s)

-- the same as propositions: what a call's inner form asks
pub record Admitted (n c : ℕ) (s : Store) (wakes releases : ℕ) : Type 0 where
  pub some_slot : 1 ≤ n
  pub few : n ≤ 1024
  pub some_byte : 1 ≤ c
  pub small : c ≤ 65536
  pub words : (sizes_of n c).words ≤ length s.words
  pub bytes : (sizes_of n c).bytes ≤ length s.bytes
  pub tokens : (sizes_of n c).tokens ≤ length s.tokens
  pub wake_list : (sizes_of n c).wakes ≤ wakes
  pub release_list : (sizes_of n c).releases ≤ releases
  pub is_formed : formed n c s ≡ true
