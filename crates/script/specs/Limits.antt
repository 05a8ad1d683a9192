-- How much a call is lent.
use Rattle.std.specs.Prelude.{◌≤◌, ⊤, vec_len}
use Rattle.script.specs.declared.call.Call.{Call}
use Rattle.script.specs.declared.call.Call.TheVariants.{Bind, Connect, Read, Recvmsg, Write, Sendmsg}

-- at most 65,600 bytes, a name's too, and 320 items
abbrev pub IsWithinLimits : Call → Type 0
IsWithinLimits (Bind _ name) = vec_len name ≤ 65600
IsWithinLimits (Connect _ name) = vec_len name ≤ 65600
IsWithinLimits (Read _ len) = len ≤ 65600
IsWithinLimits (Recvmsg _ len count) = (len ≤ 65600) × (count ≤ 320)
IsWithinLimits (Write _ sent) = sent.len ≤ 65600
IsWithinLimits (Sendmsg _ sent items) = (sent.len ≤ 65600) × (items.count ≤ 320)
IsWithinLimits _ = ⊤
