-- How much a question is lent.
use Rattle.std.specs.Prelude.{◌≤◌, ⊤}
use Rattle.questions.specs.declared.question.Question.{Question}
use Rattle.questions.specs.declared.question.Question.TheVariants.{NewAddress, Encode, Parse, SendmsgControl}

-- at most 256 bytes and 64 descriptors
abbrev pub IsWithinLimits : Question → Type 0
IsWithinLimits (NewAddress _ room) = room ≤ 256
IsWithinLimits (Encode _ room) = room ≤ 256
IsWithinLimits (Parse _ room) = room ≤ 64
IsWithinLimits (SendmsgControl _ _ room) = room ≤ 64
IsWithinLimits _ = ⊤
