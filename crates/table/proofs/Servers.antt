-- What the checks of queues and of pending servers need.
use mathlib.Core.Path.{◌≡◌, refl, sym, ap, ap₂, ◌∙◌}
use mathlib.Core.Bool.{Bool, true, false≢true}
use mathlib.Core.List.{List}
use Prim.Native.Nat.{ℕ, ◌+◌, ◌<◌}
use lib.ListN.{get_or}
use Rattle.ring.specs.Ring.{place_of}
use Rattle.storage.specs.Layout.{queue_base}
use Rattle.storage.specs.Finding.{occupied}
use Rattle.storage.specs.declared.Listener.{Listener}
use Rattle.storage.specs.declared.State.{State}
use Rattle.storage.specs.declared.State.TheVariants.{Closed, Unbound, Bound, Listening, Connected}
use Rattle.storage.proofs.Pasted.{part_at}
use Rattle.table.specs.Formed.{queue_in, waits_at, server_well}
use Rattle.table.specs.OnePass.{entry_well}

pub waits_open : (l x : ℕ) (σ : State) → waits_at l x σ ≡ true → occupied σ ≡ true
unfolding waits_at
waits_open l x Closed e = absurd (false≢true e)
waits_open l x Unbound e = refl
waits_open l x (Bound m) e = refl
waits_open l x (Listening k) e = refl
waits_open l x (Connected k) e = refl

pub entry_is : (n : ℕ) (w : List ℕ) (i : ℕ) (l : Listener) (k x h : ℕ) (r : Bool) → x ≡ place_of n (l.head + k) → x < n → h ≡ get_or w (queue_base n i + x) 0 → r ≡ server_well n w i x h
    → r ≡ entry_well n w i l k
entry_is n w i l k x h r ex hx eh er =
    er
    ∙ ap₂ (server_well n w i) ex (eh ∙ sym (part_at (queue_base n i) n w x hx) ∙ ap (λ (y : ℕ). get_or (queue_in n w i) y 0) ex)
