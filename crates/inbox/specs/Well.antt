-- "the inbox's numbers are in range": at most C bytes queued, at most 256 items, at places that rise inside the queued bytes.
use Rattle.std.specs.Prelude.{◌≡◌, ℕ, ◌<◌, ◌≤◌, Bool, true, ◌&&◌, List, [], ◌∷◌, nat_le, nat_lt}
use Rattle.inbox.specs.View.{count, distances}
use Rattle.inbox.specs.declared.Inbox.{Inbox}

-- none lies before the one in front of it, and all below n
unfoldable pub rises : ℕ → ℕ → List ℕ → Bool
rises low n [] = true
rises low n (d ∷ ds) = nat_le low d && nat_lt d n && rises d n ds

-- the check of an inbox of c
unfoldable pub is_well : ℕ → List ℕ → Inbox → Bool
is_well c places q = nat_lt q.head c && nat_le (count q) c && nat_lt q.first 256 && nat_le q.items 256 && rises 0 (count q) (distances q places)

-- the same as propositions (`well`, `is-well`)
pub record Well (c : ℕ) (places : List ℕ) (q : Inbox) : Type 0 where
  pub head_in : q.head < c
  pub fits : count q ≤ c
  pub first_in : q.first < 256
  pub items-in : q.items ≤ 256
  pub rising : rises 0 (count q) (distances q places) ≡ true

-- the items lie in their rings of 256
abbrev pub ItemsFit : Inbox → Type 0
ItemsFit q = (q.first < 256) × (q.items ≤ 256)

-- and the bytes in theirs of c
abbrev pub AllFit : ℕ → Inbox → Type 0
AllFit c q = (q.head < c) × (count q ≤ c) × ItemsFit q
