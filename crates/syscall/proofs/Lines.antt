-- Document 01, "Lines to be proved": the lines on control bytes, one table under one theorem.
use mathlib.Core.Path.{◌≡◌, refl}
use mathlib.Core.List.{List, [], ◌∷◌}
use Prim.Native.Nat.{ℕ}
use lib.IntN.{ℤ}
use lib.ListN.{length}
use Rattle.laws.specs.All.{All}
use Rattle.words.specs.Numbers.{refusal_of, answer_value}
use Rattle.abi.specs.Size.{first_from, up8}
use Rattle.syscall.specs.Control.{capacity_of}
use Rattle.syscall.specs.Promise.{encode_of}

-- one descriptor into a buffer of so many bytes: the refusal (0: none) and the answer
pub record Line : Type 0 where
  pub size : ℕ
  pub no : ℕ
  pub answer : ℕ

-- of every descriptor, and every buffer of that size
abbrev pub Right : Line → Type 0
Right l = (d : ℤ) (b : List ℕ) → length b ≡ l.size → (refusal_of (encode_of (d ∷ []) b) ≡ l.no) × (answer_value (encode_of (d ∷ []) b) ≡ l.answer)

-- "one descriptor into 20 bytes answers 20; into 24 or 32: 24; into 19: 18"
abbrev pub lines : List Line
lines =
    record { size = 20; no = 0; answer = 20 }
    ∷ record { size = 24; no = 0; answer = 24 }
    ∷ record { size = 32; no = 0; answer = 24 }
    ∷ record { size = 19; no = 18; answer = 0 }
    ∷ []

pub the_lines : All Right lines
unfolding encode_of capacity_of up8 first_from
the_lines = (λ d b e. rw e (refl, refl), (λ d b e. rw e (refl, refl), (λ d b e. rw e (refl, refl), (λ d b e. rw e (refl, refl), tt))))
