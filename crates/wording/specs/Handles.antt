-- What a text of a handle is read as.
use Rattle.std.specs.Prelude.{◌≡◌, ℕ, ◌+◌, ◌*◌, ◌^◌, ◌<◌, List, Result, Ok, MatchResult, ◌==◌}
use Rattle.std.specs.List.{before_first, after_first}
use Rattle.std.specs.Str.Parse.{ParsesUnsigned}
use Rattle.wording.specs.declared.dotted.Dotted.{Dotted}
use Rattle.wording.specs.declared.text.LineError.{LineError}
use Rattle.wording.specs.declared.text.LineError.TheVariants.{Unreadable}

-- the bytes on both sides of the first dot are the numbers of the generation and of the slot
abbrev pub IsHandleText : List ℕ → ℕ → ℕ → Type 0
IsHandleText text generation slot =
    ParsesUnsigned {E = LineError} 64 10 (before_first (λ b. b == 46) text) (Ok generation) ×
    ParsesUnsigned {E = LineError} 16 10 (after_first (λ b. b == 46) text) (Ok slot)

abbrev pub ReadsHandle : List ℕ → Result Dotted LineError → Type 0
ReadsHandle text r = MatchResult r
    (λ h. (generation : ℕ) × (slot : ℕ) × IsHandleText text generation slot × (generation < 2 ^ 48) × (h.0 ≡ generation * 65536 + slot))
    (λ e. e ≡ Unreadable)
