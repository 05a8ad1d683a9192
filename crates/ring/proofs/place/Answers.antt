use native.Mathlib.Omega.{arith}
use Rattle.ring.proofs.Copying.{place_low, place_high}
use Rattle.ring.proofs.place.Goals as goal

pub returns-then-k-c : goal.returns-then-k-c
returns-then-k-c c = search place_low

pub returns-else-k-c : goal.returns-else-k-c
returns-else-k-c c = let a = c.args in place_high a.c a.k (omega arith) (omega arith)
