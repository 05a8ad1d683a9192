-- The lines of document 01, "to be proved": the calls (C = 8), the control bytes and the addresses, as one table under one theorem.
use mathlib.Core.List.{List, [], ◌∷◌, ◌++◌, map}
use Rattle.laws.specs.All.{All}
use Rattle.rules.proofs.Lines as calls
use Rattle.syscall.proofs.Lines as control
use Rattle.address.proofs.Lines as addresses
use Rattle.cases.proofs.Lines as storage

pub data Line : Type 0 where
  OfCall : calls.Line → Line
  OfControl : control.Line → Line
  OfAddress : addresses.Line → Line

abbrev pub Holds : Line → Type 0
Holds (Line.OfCall l) = storage.Holds l
Holds (Line.OfControl l) = control.Right l
Holds (Line.OfAddress l) = addresses.Right l

-- in the document's order
abbrev pub lines : List Line
lines = map Line.OfCall calls.lines ++ (map Line.OfControl control.lines ++ map Line.OfAddress addresses.lines)

all_map : {A : Type 0} (f : A → Line) (P : A → Type 0) (ls : List A) → ((a : A) → P a → Holds (f a)) → All P ls → All Holds (map f ls)
all_map f P [] g a = tt
all_map f P (x ∷ ls) g a = (g x a.0, all_map f P ls g a.1)

all_both : (a b : List Line) → All Holds a → All Holds b → All Holds (a ++ b)
all_both [] b p q = q
all_both (x ∷ a) b p q = (p.0, all_both a b p.1 q)

pub all_lines : All Holds lines
all_lines =
    all_both (map Line.OfCall calls.lines) (map Line.OfControl control.lines ++ map Line.OfAddress addresses.lines)
    (all_map Line.OfCall storage.Holds calls.lines (λ a p. p) storage.the_lines)
    (all_both (map Line.OfControl control.lines) (map Line.OfAddress addresses.lines)
    (all_map Line.OfControl control.Right control.lines (λ a p. p) control.the_lines)
    (all_map Line.OfAddress addresses.Right addresses.lines (λ a p. p) addresses.the_lines))
