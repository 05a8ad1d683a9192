use Rattle.std.proofs.Common.{◌+◌, ◌-◌, ◌≡◌, sym, ◌∙◌, arith}
use Rattle.ring.proofs.Copying.{place_low, place_high}
use Rattle.ring.proofs.place_behind.Goals as goal

pub returns-then-n-to_end : goal.returns-then-n-to_end
returns-then-n-to_end c = let a = c.args in place_low a.c (a.head + a.n) (omega arith)

pub returns-else-n-to_end : goal.returns-else-n-to_end
returns-else-n-to_end c =
    let a = c.args in
    let e : a.head + a.n - a.c ≡ a.n - (a.c - a.head) = omega arith in
    let h = place_high a.c (a.head + a.n) (omega arith) (omega arith) in
    (sym e ∙ h.0, omega arith)
