use Rattle.std.proofs.Common.{◌≡◌, ◌+◌, drop}
use Rattle.inbox.specs.View.{distances}
use Rattle.inbox.specs.Well.{rises}
use Rattle.inbox.proofs.Entries.rise.Given as goal

-- The items before i rise to low, and what is left of the bytes lies behind it; the other items are to rise from there.
abbrev pub invariant-loop-i : goal.invariant-loop-i
invariant-loop-i l = (l.low + l.left ≡ l.n) × (rises 0 l.n (distances l.self.inbox l.self.places.now) ≡ rises l.low l.n (drop l.i (distances l.self.inbox l.self.places.now)))
