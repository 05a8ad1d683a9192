-- Where the storage is `formed`, every slot passes its own test.
use mathlib.Core.Path.{◌≡◌, refl, sym, ap, ◌∙◌, subst}
use mathlib.Core.Bool.{Bool, true, not, ◌&&◌, ◌||◌}
use Prim.Native.Nat.{ℕ, ◌<◌}
use native.Mathlib.Omega.{arith}
use lib.Dec.{leb, eqb}
use lib.ListN.{length, take}
use borrow.Author.Tests.{leb-true}
use Rattle.laws.proofs.Tests.{and_left, and_right, and_three, both}
use Rattle.inbox.specs.Well.{is_well}
use Rattle.rules.specs.Table as model
use Rattle.rules.specs.Table.{handle, handle_at, at}
use Rattle.rules.specs.Run.{in_range}
use Rattle.rules.specs.WellFormed.{every, named_well, linked_well, pending_well, state_well, slot_well, well_formed}
use Rattle.rules.proofs.YesNo.{every_at, at_every}
use Rattle.storage.specs.Layout.{part, name_base, places_base}
use Rattle.storage.specs.Cells.{cell_at, state_of}
use Rattle.storage.specs.Rows.{Store, row_at, Roomy}
use Rattle.storage.specs.View.{show_in, view}
use Rattle.storage.specs.Finding.{occupied}
use Rattle.storage.specs.declared.State.{State}
use Rattle.storage.specs.declared.State.TheVariants.{Closed, Unbound, Bound, Listening, Connected}
use Rattle.storage.proofs.Viewed.{seen, size_view}
use Rattle.table.specs.Formed.{fields_well, ranges_well, inbox_range, tied_state, tied, slot_formed}
use Rattle.table.specs.OnePass.{name_checks, peer_checks, state_checks, generation_well, slot_checks}
use Rattle.table.proofs.EqualPeers.{peers}
use Rattle.table.proofs.EqualInbox.{inboxes}
use Rattle.table.proofs.EqualNames.{names_up}
use Rattle.table.proofs.EqualDown.{listener_range}

module _ (n c : ℕ) (s : Store) (f : Roomy n c s) (all : every n (slot_formed n c s.words) ≡ true) (well : well_formed (view n c s) ≡ true) where
  own : (i : ℕ) → i < n → (fields_well (cell_at s.words i) ≡ true) × (ranges_well n c (state_of (cell_at s.words i)) ≡ true) × (tied_state n s.words i (state_of (cell_at s.words i)) ≡ true)
  unfolding slot_formed tied
  own i hi = and_three (fields_well (cell_at s.words i)) (ranges_well n c (state_of (cell_at s.words i))) _ (every_at n (slot_formed n c s.words) i all hi)

  ranges : (i : ℕ) → i < n → (σ : State) → state_of (cell_at s.words i) ≡ σ → ranges_well n c σ ≡ true
  ranges i hi σ e = subst (λ (x : State). ranges_well n c x ≡ true) e (own i hi).1

  ties : (i : ℕ) → i < n → (σ : State) → state_of (cell_at s.words i) ≡ σ → tied_state n s.words i σ ≡ true
  ties i hi σ e = subst (λ (x : State). tied_state n s.words i x ≡ true) e (own i hi).2

  shown : (i : ℕ) → i < n → (σ : State) → state_of (cell_at s.words i) ≡ σ → slot_well (view n c s) i (show_in (row_at n c s i) (cell_at s.words i).generation σ) ≡ true
  unfolding well_formed
  shown i hi σ e =
      sym (ap (slot_well (view n c s) i) (seen n c s i σ hi e))
      ∙ every_at (length (view n c s).slots) (λ j. slot_well (view n c s) j (at (view n c s) j)) i (and_right (in_range (length (view n c s).slots) (view n c s).capacity) _ well)
      (omega (arith, size_view n c s))

  -- a slot in use: its generation, and its state
  used : (i g : ℕ) (d : Bool) (σ : model.State) → slot_well (view n c s) i (record { gen = g; in_use = true; given = d; state = σ }) ≡ true
      → (leb g 4294967295 ≡ true) × (leb 1 g ≡ true) × (state_well (view n c s) i σ ≡ true)
  unfolding slot_well
  used i g d σ e =
      let p = and_three (leb 1 g) (d || pending_well (view n c s) (handle_at (view n c s) i)) (state_well (view n c s) i σ) (and_right (leb g 4294967295) _ e) in
      (and_left (leb g 4294967295) _ e, p.0, p.2)

  generation : (i : ℕ) → i < n → (σ : State) → state_of (cell_at s.words i) ≡ σ
      → leb (cell_at s.words i).generation 4294967295 && (not (occupied σ) || leb 1 (cell_at s.words i).generation) ≡ true
  unfolding show_in slot_well
  generation i hi Closed e = rw (and_left (leb (cell_at s.words i).generation 4294967295) _ (shown i hi Closed e))
  generation i hi Unbound e = let u = used i (cell_at s.words i).generation true _ (shown i hi Unbound e) in rw (u.0, u.1)
  generation i hi (Bound m) e = let u = used i (cell_at s.words i).generation true _ (shown i hi (Bound m) e) in rw (u.0, u.1)
  generation i hi (Listening q) e = let u = used i (cell_at s.words i).generation true _ (shown i hi (Listening q) e) in rw (u.0, u.1)
  generation i hi (Connected k) e = let u = used i (cell_at s.words i).generation (eqb k.waits 0) _ (shown i hi (Connected k) e) in rw (u.0, u.1)

  state_checked : (i : ℕ) → i < n → (σ : State) → state_of (cell_at s.words i) ≡ σ → state_checks n c s.words s.bytes i σ ≡ true
  unfolding state_checks show_in state_well row_at ranges_well
  state_checked i hi Closed e = refl
  state_checked i hi Unbound e = refl
  state_checked i hi (Bound m) e = names_up n c s f i m hi (leb-true m 255 (ranges i hi (Bound m) e)) (used i _ _ _ (shown i hi (Bound m) e)).2
  state_checked i hi (Listening q) e =
      let r = ranges i hi (Listening q) e in
      let u = (used i _ _ _ (shown i hi (Listening q) e)).2 in
      let name = names_up n c s f i q.name hi (listener_range n c q r).0 (and_left (named_well (view n c s) i (take q.name (part (name_base n c i) 255 s.bytes))) _ u) in
      both (name_checks n c s.words s.bytes i q.name && ranges_well n c (Listening q)) _ (both (name_checks n c s.words s.bytes i q.name) _ name r) (ties i hi (Listening q) e)
  state_checked i hi (Connected k) e =
      let u = (used i _ _ _ (shown i hi (Connected k) e)).2 in
      let peer = peers n c s i k.peer.0 k.outbox_closed hi ∙ and_left (linked_well (view n c s) i k.peer.0 k.outbox_closed) _ u in
      let box = inboxes n c s f i hi k.inbox ∙ both (inbox_range c k.inbox) _ (ranges i hi (Connected k) e) (and_right (linked_well (view n c s) i k.peer.0 k.outbox_closed) _ u) in
      both
      (peer_checks n s.words (handle (cell_at s.words i).generation i) k.peer.0 k.outbox_closed && is_well c (part (places_base n i) 256 s.words) k.inbox) _
      (both (peer_checks n s.words (handle (cell_at s.words i).generation i) k.peer.0 k.outbox_closed) _ peer box)
      (ties i hi (Connected k) e)

  pub up : every n (slot_checks n c s.words s.bytes) ≡ true
  unfolding slot_checks generation_well
  up = at_every n (slot_checks n c s.words s.bytes) λ i hi.
      both (generation_well (cell_at s.words i) && fields_well (cell_at s.words i)) _
      (both (generation_well (cell_at s.words i)) _ (generation i hi (state_of (cell_at s.words i)) refl) (own i hi).0)
      (state_checked i hi (state_of (cell_at s.words i)) refl)
