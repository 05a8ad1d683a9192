-- A refusal that is passed on; and equal answers.
use mathlib.Core.Path.{◌≡◌, ap, ◌∙◌}
use Prim.Native.Nat.{ℕ}
use Rattle.std.specs.Prelude.{Result, Ok, Err, IsErrAnd}
use Rattle.words.specs.Numbers.{number_of}
use Rattle.words.specs.declared.Errno.{Errno}
use Rattle.promise.specs.Answers.{refused_with, told}
use Rattle.promise.specs.declared.Accepted.{Accepted}
use Rattle.promise.specs.declared.Answer.{Answer}

-- what a `?` hands on tells the refusal that it was given
pub passed_on : (r : Result Accepted Errno) (e : Errno) → IsErrAnd r (λ y. y ≡ e) → told r ≡ refused_with (number_of e)
passed_on (Ok x) e h = absurd h
passed_on (Err y) e h = ap (λ (x : Errno). refused_with (number_of x)) h

-- two answers with the same fields
pub same_answer : (r r' : Answer) → r.refusal ≡ r'.refusal → r.flags ≡ r'.flags → r.value ≡ r'.value → r.items ≡ r'.items → r.wakes ≡ r'.wakes → r.releases ≡ r'.releases → r ≡ r'
same_answer r r' a b c d e f =
    ap (λ (x : ℕ). the x r.flags r.value r.items r.wakes r.releases) a ∙ ap (λ (x : ℕ). the r'.refusal x r.value r.items r.wakes r.releases) b
    ∙ ap (λ (x : ℕ). the r'.refusal r'.flags x r.items r.wakes r.releases) c ∙ ap (λ (x : ℕ). the r'.refusal r'.flags r'.value x r.wakes r.releases) d
    ∙ ap (λ (x : ℕ). the r'.refusal r'.flags r'.value r'.items x r.releases) e ∙ ap (λ (x : ℕ). the r'.refusal r'.flags r'.value r'.items r'.wakes x) f
  where
    the : ℕ → ℕ → ℕ → ℕ → ℕ → ℕ → Answer
    the a b c d e f = record { refusal = a; flags = b; value = c; items = d; wakes = e; releases = f }
