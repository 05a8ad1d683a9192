-- Making a table: "range 2, then 18. It lends no wake or release list: its 18 is about storage only. The result is the fresh table and well-formed,
-- whatever the bytes were before."
use Rattle.words.specs.declared.Errno.{Errno}
use Rattle.std.specs.Prelude.{ℕ, ◌+◌, ◌*◌, ◌≡◌, true, cond, List, ◌∷◌, ◌++◌, eqb, drop, replicate, Result}
use Rattle.words.specs.Numbers.{refusal_of}
use Rattle.rules.specs.Table.{fresh}
use Rattle.rules.specs.Run.{in_range}
use Rattle.storage.specs.Rows.{Store, lent}
use Rattle.storage.specs.View.{view}
use Rattle.table.specs.Formed.{formed}
use Rattle.table.specs.Admission.{storage_fits}

-- the number that it answers
unfoldable pub make_no : ℕ → ℕ → Store → ℕ
make_no n c s = cond (in_range n c) (cond (storage_fits n c s) 0 18) 2

-- the header, then sixteen zeros a slot: closed, of generation 0. What lies behind stays: in a closed slot it is not looked at
abbrev pub fresh_words : ℕ → ℕ → List ℕ → List ℕ
fresh_words n c w = n ∷ c ∷ (replicate (6 + 16 * n) 0 ++ drop (8 + 16 * n) w)

-- bytes and tokens are only measured
abbrev pub made : ℕ → ℕ → Store → Store
made n c s = lent (fresh_words n c s.words) s.bytes s.tokens

pub record Makes (n c : ℕ) (s s' : Store) (r : Result Unit Errno) : Type 0 where
  pub answers : refusal_of r ≡ make_no n c s
  pub storage : s' ≡ cond (eqb (make_no n c s) 0) (made n c s) s
  pub shows : make_no n c s ≡ 0 → view n c s' ≡ fresh n c
  pub well : make_no n c s ≡ 0 → formed n c s' ≡ true
