-- A table of lines under one theorem is `All Right lines`.
use Rattle.std.specs.Prelude.{List, [], ◌∷◌}

-- P of each of a list
abbrev pub All : {A : Type 0} → (A → Type 0) → List A → Type 0
All P [] = Unit {0}
All P (x ∷ xs) = P x × All P xs
