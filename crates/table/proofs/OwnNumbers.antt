-- What the checks of a slot's own numbers need, and what they say by tag.
use mathlib.Core.Path.{◌≡◌}
use mathlib.Core.Logic.{◌≢◌}
use mathlib.Core.Bool.{Bool, true, false, ◌&&◌}
use lib.Dec.{eqb}
use lib.Bits.{bit_or}
use borrow.Author.Tests.{ne_eqb}
use Rattle.laws.proofs.Bits.{or-eqb}
use Rattle.storage.specs.declared.Cell.{Cell}
use Rattle.table.specs.Formed.{no_name, no_queue, no_pair, pair_fields, fields_well}

module _ (k : Cell) where
  pub queue_none : eqb (bit_or (bit_or k.backlog k.head) k.pending) 0 ≡ no_queue k
  unfolding no_queue
  queue_none = simp or-eqb

  pub pair_none : eqb (bit_or (bit_or (bit_or (bit_or (bit_or (bit_or (bit_or (bit_or (bit_or k.peer k.inbox_closed) k.outbox_closed) k.byte) k.written_total) k.read_total) k.first) k.items) k.waits) k.place) 0 ≡ no_pair k
  unfolding no_pair
  pair_none = simp or-eqb

  -- ── By tag ──

  pub fields_closed : k.tag ≡ 0 → true ≡ fields_well k
  unfolding fields_well
  fields_closed e = rw e

  pub fields_unbound : (r : Bool) → k.tag ≡ 1 → r ≡ no_name k && no_queue k && no_pair k → r ≡ fields_well k
  unfolding fields_well no_name no_queue no_pair
  fields_unbound r e z = rw e z

  pub fields_bound : (r : Bool) → k.tag ≡ 2 → r ≡ no_queue k && no_pair k → r ≡ fields_well k
  unfolding fields_well no_queue no_pair
  fields_bound r e z = rw e z

  pub fields_listening : (r : Bool) → k.tag ≡ 3 → r ≡ no_pair k → r ≡ fields_well k
  unfolding fields_well no_pair
  fields_listening r e z = rw e z

  pub fields_connected : (r : Bool) → k.tag ≡ 4 → r ≡ no_name k && no_queue k && pair_fields k → r ≡ fields_well k
  unfolding fields_well no_name no_queue pair_fields
  fields_connected r e z = rw e z

  pub fields_other : k.tag ≢ 0 → k.tag ≢ 1 → k.tag ≢ 2 → k.tag ≢ 3 → k.tag ≢ 4 → false ≡ fields_well k
  unfolding fields_well
  fields_other a b c d e = rw (ne_eqb k.tag 0 a, ne_eqb k.tag 1 b, ne_eqb k.tag 2 c, ne_eqb k.tag 3 d, ne_eqb k.tag 4 e)
