use mathlib.Core.Path.{◌≡◌}
use lib.ListN.{length, take}
use lib.Seq.{sets}
use Rattle.syscall.specs.Control.{descriptor_bytes}
use Rattle.syscall.proofs.write_descriptors.Given as goal

abbrev pub invariant-loop-i : goal.invariant-loop-i
invariant-loop-i l = (length l.control ≡ length l.initial.control) × (l.control ≡ sets l.initial.control 16 (descriptor_bytes (take l.i l.fds)))
