-- What the functions under `is_utf8` promise each other.
use Rattle.std.specs.Prelude.{◌≡◌, false, List, [], ℕ, ◌-◌, ◌<◌, length, drop, Option, MatchOption}
use Rattle.utf8.specs.Syntax.{Range, passes}
use denote.Ref.{Bor}

-- `rest` is the end of s that lies behind all that is due
pub record Behind (due : List Range) (s rest : List ℕ) : Type 0 where
  pub fewer : length rest < length s
  pub end : rest ≡ drop (length s - length rest) s
  pub same : passes due s ≡ passes [] rest

-- what lies behind all that is due, or none where s does not begin so
abbrev pub After : List Range → List ℕ → Option (Bor (List ℕ)) → Type 0
After due s r = MatchOption r (passes due s ≡ false) (λ rest. Behind due s rest.now)
