-- What a word is as a number or as bytes.
use Rattle.std.specs.Prelude.{◌≡◌, ◌≢◌, ◌⊎◌, ℕ, ◌<◌, List, [], ◌∷◌, length, Any, MatchResult, Result, Ok, Err, IsErr}
use Rattle.hex.specs.Hex.{decode_of}
use Rattle.wording.specs.declared.text.LineError.{LineError}
use Rattle.wording.specs.declared.text.LineError.TheVariants.{Unreadable}

-- r is what `parse` reads, which may give each result for a word that `parses` allows
abbrev pub Reads : {T E : Type 0} → (List ℕ → Result T E → Type 0) → List ℕ → Result T LineError → Type 0
Reads {T = T} {E = E} parses word r = (o : Result T E) × parses word o × MatchResult o (λ n. r ≡ Ok n) (λ _. r ≡ Err Unreadable)

-- the bytes that a word is: `-` is none, and others are what their hexadecimal digits decode to
abbrev pub AreBytesOf : List ℕ → List ℕ → Type 0
AreBytesOf word bytes = (word ≡ 45 ∷ [] → bytes ≡ []) × (word ≢ 45 ∷ [] → decode_of word ≡ Ok bytes)

-- a word that is no bytes: it has a digit that is no small one, none, one too few or too many
abbrev pub IsNoBytes : List ℕ → Type 0
IsNoBytes word = (word ≡ []) ⊎ (131072 < length word) ⊎ Any (λ b. (64 < b) × (b < 91)) word ⊎ IsErr (decode_of word)
