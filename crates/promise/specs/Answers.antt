-- Answers that have little to say.
use Rattle.std.specs.Prelude.{ℕ, Result, Ok, Err}
use Rattle.words.specs.Numbers.{number_of}
use Rattle.words.specs.declared.Errno.{Errno}
use Rattle.promise.specs.declared.Accepted.{Accepted}
use Rattle.promise.specs.declared.Answer.{Answer}

-- "A refusal returns its number, both counts 0"
abbrev pub refused_with : ℕ → Answer
refused_with e = record { refusal = e; flags = 0; value = 0; items = 0; wakes = 0; releases = 0 }

abbrev pub accepted_with : (value wakes : ℕ) → Answer
accepted_with v w = record { refusal = 0; flags = 0; value = v; items = 0; wakes = w; releases = 0 }

-- of a close and of a shutdown: items are released
abbrev pub released_with : (wakes releases : ℕ) → Answer
released_with w r = record { refusal = 0; flags = 0; value = 0; items = 0; wakes = w; releases = r }

-- ── What C is told of an answer ──

abbrev pub told : Result Accepted Errno → Answer
told (Ok a) = record { refusal = 0; flags = a.flags; value = a.value; items = a.items; wakes = a.wakes; releases = a.releases }
told (Err e) = refused_with (number_of e)
