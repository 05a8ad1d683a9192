-- A text has a word, and with no space just one.
use Rattle.std.proofs.Common.{◌≡◌, ℕ, List, [], ◌∷◌, length, arith, ap, false}
use Rattle.std.proofs.lemmas.List.Elements.{All-from_get_or}
use Rattle.std.proofs.lemmas.List.Sums.{fails_before_first}
use Rattle.std.proofs.lemmas.List.Splits.{slice_split_none, length-slice_split}
use Rattle.std.specs.List.{position_or_len}
use Rattle.std.specs.Prelude.{◌==◌}
use Rattle.wording.specs.WordsOf.{words_of}

pub words_of_uncut : (text : List ℕ) → position_or_len (λ b. b == 32) text ≡ length text → words_of text ≡ text ∷ []
words_of_uncut text none = slice_split_none (λ b. b == 32) text
    (All-from_get_or (λ b. (b == 32) ≡ false) text 0 (λ k inside. fails_before_first (λ b. b == 32) text k 0 (omega (arith, none, inside))))

pub words_of_some : (text : List ℕ) → words_of text ≡ [] → ⊥
words_of_some text none = let parts = length-slice_split (λ b. b == 32) text in omega (arith, parts, ap length none)
