-- The words of a line, and those that are still to be read.
use Rattle.std.specs.Prelude.{ℕ, List, [], Option, None, Some, ◌==◌}
use Rattle.std.specs.List.{slice_split}

-- the parts of a text that one space keeps apart
abbrev pub words_of : List ℕ → List (List ℕ)
words_of text = slice_split (λ b. b == 32) text

-- those of the text that is left; none where the last one was read
abbrev pub words_left : Option (List ℕ) → List (List ℕ)
words_left None = []
words_left (Some text) = words_of text
