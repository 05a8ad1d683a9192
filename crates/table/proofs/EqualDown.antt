-- Where every slot passes its own test, the storage is `formed`.
use mathlib.Core.Path.{◌≡◌, refl, sym, ap, ap₂, ◌∙◌, subst}
use mathlib.Core.Bool.{true, not, ◌&&◌, ◌||◌, false≢true}
use mathlib.Core.List.{List}
use Prim.Native.Nat.{ℕ, ◌≤◌, ◌<◌}
use native.Mathlib.Decide.{ℕ_discrete as dec_eq}
use native.Mathlib.Omega.{arith}
use lib.Dec.{leb, ltb, eqb}
use lib.ListN.{length, take}
use borrow.Author.Tests.{ltb-true, leb-true, eq-eqb, ne_eqb}
use Rattle.laws.proofs.Tests.{and_left, and_right, and_three, and_four, both}
use Rattle.inbox.specs.Well.{is_well}
use Rattle.inbox.specs.View as inbox
use Rattle.rules.specs.Table.{handle, handle_at, at}
use Rattle.rules.specs.Run.{in_range}
use Rattle.rules.specs.WellFormed.{every, named_well, linked_well, inbox_well, pending_well, state_well, is_unbound, slot_well, well_formed}
use Rattle.rules.proofs.YesNo.{every_at, at_every}
use Rattle.storage.specs.Layout.{part, name_base, places_base}
use Rattle.storage.specs.Cells.{cell_at, state_of}
use Rattle.storage.specs.Rows.{Store, row_at, Roomy}
use Rattle.storage.specs.View.{show_in, view}
use Rattle.storage.specs.Finding.{occupied, named, name_length}
use Rattle.storage.specs.declared.State.{State}
use Rattle.storage.specs.declared.State.TheVariants.{Closed, Unbound, Bound, Listening, Connected}
use Rattle.storage.specs.declared.Listener.{Listener}
use Rattle.storage.specs.declared.Connection.{Connection}
use Rattle.storage.proofs.Viewed.{seen, size_view}
use Rattle.table.specs.Formed.{fields_well, ranges_well, inbox_range, tied_state, tied, slot_formed}
use Rattle.table.specs.OnePass.{name_checks, peer_checks, state_checks, generation_well, slot_checks}
use Rattle.table.proofs.Links.{Entries, entries_of}
use Rattle.table.proofs.EqualPeers.{peers}
use Rattle.table.proofs.EqualInbox.{inboxes}
use Rattle.table.proofs.EqualNames.{names_down}
use Rattle.table.proofs.EqualQueues.{line_pending, waits_pending}

-- the ranges of a listener's numbers
pub listener_range : (n c : ℕ) (q : Listener) → ranges_well n c (Listening q) ≡ true → (q.name ≤ 255) × (q.head < n) × (q.pending ≤ n)
unfolding ranges_well
listener_range n c q e =
    let l = and_four (leb q.name 255) (ltb q.backlog 4294967296) (ltb q.head n) (leb q.pending n) e in
    (leb-true _ _ l.0, ltb-true _ _ l.2, leb-true _ _ l.3)

short_name : (n c : ℕ) (w b : List ℕ) (i m : ℕ) → name_checks n c w b i m ≡ true → leb m 255 ≡ true
unfolding name_checks
short_name n c w b i m e = (and_three (leb 1 m) (leb m 255) _ e).1

capacity_view : (n c : ℕ) (s : Store) → (view n c s).capacity ≡ c
unfolding view
capacity_view n c s = refl

module _ (n c : ℕ) (s : Store) (f : Roomy n c s) (all : every n (slot_checks n c s.words s.bytes) ≡ true) where
  parts : (i : ℕ) → i < n → (generation_well (cell_at s.words i) ≡ true) × (fields_well (cell_at s.words i) ≡ true) × (state_checks n c s.words s.bytes i (state_of (cell_at s.words i)) ≡ true)
  unfolding slot_checks
  parts i hi = and_three (generation_well (cell_at s.words i)) (fields_well (cell_at s.words i)) _ (every_at n (slot_checks n c s.words s.bytes) i all hi)

  state : (i : ℕ) → i < n → (σ : State) → state_of (cell_at s.words i) ≡ σ → state_checks n c s.words s.bytes i σ ≡ true
  state i hi σ e = subst (λ (x : State). state_checks n c s.words s.bytes i x ≡ true) e (parts i hi).2

  young : (i : ℕ) → i < n → leb (cell_at s.words i).generation 4294967295 ≡ true
  unfolding generation_well
  young i hi = and_left (leb (cell_at s.words i).generation 4294967295) _ (parts i hi).0

  lived : (i : ℕ) → i < n → occupied (state_of (cell_at s.words i)) ≡ true → leb 1 (cell_at s.words i).generation ≡ true
  unfolding generation_well
  lived i hi o =
      let e = and_right (leb (cell_at s.words i).generation 4294967295) (not (occupied (state_of (cell_at s.words i))) || leb 1 (cell_at s.words i).generation) (parts i hi).0 in
      rw o at e

  -- names
  name-checks : (j : ℕ) → j < n → (σ : State) → state_of (cell_at s.words j) ≡ σ → named σ ≡ true → name_checks n c s.words s.bytes j (name_length σ) ≡ true
  unfolding state_checks
  name-checks j hj Closed e t = absurd (false≢true t)
  name-checks j hj Unbound e t = absurd (false≢true t)
  name-checks j hj (Bound m) e t = state j hj (Bound m) e
  name-checks j hj (Listening q) e t = (and_three (name_checks n c s.words s.bytes j q.name) (ranges_well n c (Listening q)) (tied_state n s.words j (Listening q)) (state j hj (Listening q) e)).0
  name-checks j hj (Connected k) e t = absurd (false≢true t)

  name_well : (i : ℕ) → i < n → (σ : State) → state_of (cell_at s.words i) ≡ σ → named σ ≡ true → named_well (view n c s) i (take (name_length σ) (part (name_base n c i) 255 s.bytes)) ≡ true
  name_well i hi σ e t =
      subst (λ (x : State). named_well (view n c s) i (take (name_length x) (part (name_base n c i) 255 s.bytes)) ≡ true) e
      (names_down n c s f (λ j hj u. name-checks j hj (state_of (cell_at s.words j)) refl u) i hi (ap named e ∙ t))

  -- listeners
  listening : (l : ℕ) → l < n → (q : Listener) → state_of (cell_at s.words l) ≡ Listening q → (ranges_well n c (Listening q) ≡ true) × (tied_state n s.words l (Listening q) ≡ true)
  unfolding state_checks
  listening l hl q e =
      let p = and_three (name_checks n c s.words s.bytes l q.name) (ranges_well n c (Listening q)) (tied_state n s.words l (Listening q)) (state l hl (Listening q) e) in
      (p.1, p.2)

  ok : (l : ℕ) → l < n → (q : Listener) → state_of (cell_at s.words l) ≡ Listening q → (q.head < n) × (q.pending ≤ n) × Entries n s.words l q
  ok l hl q e =
      let p = listening l hl q e in
      let r = listener_range n c q p.0 in
      (r.1, r.2, entries_of n s.words l q p.1)

  -- connected sockets
  record Linked (i : ℕ) (k : Connection) : Type 0 where
    linked : linked_well (view n c s) i k.peer.0 k.outbox_closed ≡ true
    range : inbox_range c k.inbox ≡ true
    well : inbox_well (view n c s) (inbox.view (row_at n c s i).ring (row_at n c s i).places (row_at n c s i).tokens k.inbox) ≡ true
    stands : tied_state n s.words i (Connected k) ≡ true

  connected : (i : ℕ) (k : Connection) → i < n → state_of (cell_at s.words i) ≡ Connected k → Linked i k
  unfolding state_checks row_at
  connected i k hi e =
      let p =
      and_three (peer_checks n s.words (handle (cell_at s.words i).generation i) k.peer.0 k.outbox_closed) (is_well c (part (places_base n i) 256 s.words) k.inbox)
      (tied_state n s.words i (Connected k)) (state i hi (Connected k) e) in
      let b = sym (inboxes n c s f i hi k.inbox) ∙ p.1 in
      record {
        linked = sym (peers n c s i k.peer.0 k.outbox_closed hi) ∙ p.0;
        range = and_left (inbox_range c k.inbox) _ b;
        well = and_right (inbox_range c k.inbox) _ b;
        stands = p.2;
      }

  -- what belongs to the storage
  ranges_tied : (i : ℕ) → i < n → (σ : State) → state_of (cell_at s.words i) ≡ σ → (ranges_well n c σ ≡ true) × (tied_state n s.words i σ ≡ true)
  unfolding ranges_well tied_state
  ranges_tied i hi Closed e = (refl, refl)
  ranges_tied i hi Unbound e = (refl, refl)
  ranges_tied i hi (Bound m) e = (short_name n c s.words s.bytes i m (name-checks i hi (Bound m) e refl), refl)
  ranges_tied i hi (Listening q) e = listening i hi q e
  ranges_tied i hi (Connected k) e = let p = connected i k hi e in (p.range, p.stands)

  slot-formed : (i : ℕ) → i < n → slot_formed n c s.words i ≡ true
  unfolding slot_formed tied
  slot-formed i hi =
      let p = ranges_tied i hi (state_of (cell_at s.words i)) refl in
      both (fields_well (cell_at s.words i) && ranges_well n c (state_of (cell_at s.words i))) _
      (both (fields_well (cell_at s.words i)) _ (parts i hi).1 p.0) p.1

  -- what is said of the table
  served : (i : ℕ) (k : Connection) → i < n → tied_state n s.words i (Connected k) ≡ true → eqb k.waits 0 || pending_well (view n c s) (handle_at (view n c s) i) ≡ true
  served i k hi e =
      elim (dec_eq k.waits 0) [
        | yes z ↦ rw (eq-eqb k.waits 0 z)
        | no nz ↦ rw (ne_eqb k.waits 0 nz) (waits_pending n c s f ok i k hi nz e)
      ]

  shown_well : (i : ℕ) → i < n → (σ : State) → state_of (cell_at s.words i) ≡ σ → slot_well (view n c s) i (show_in (row_at n c s i) (cell_at s.words i).generation σ) ≡ true
  unfolding slot_well show_in state_well is_unbound row_at
  shown_well i hi Closed e = rw (young i hi)
  shown_well i hi Unbound e = rw (young i hi, lived i hi (ap occupied e))
  shown_well i hi (Bound m) e = rw (young i hi, lived i hi (ap occupied e)) (name_well i hi (Bound m) e refl)
  shown_well i hi (Listening q) e =
      let r = ok i hi q e in
      rw (young i hi, lived i hi (ap occupied e))
      (both (named_well (view n c s) i (take q.name (part (name_base n c i) 255 s.bytes))) _ (name_well i hi (Listening q) e refl)
      (line_pending n c s f i q hi r.0 r.1 r.2))
  shown_well i hi (Connected k) e =
      let p = connected i k hi e in
      rw (young i hi, lived i hi (ap occupied e))
      (both (eqb k.waits 0 || pending_well (view n c s) (handle_at (view n c s) i)) _ (served i k hi p.stands)
      (both (linked_well (view n c s) i k.peer.0 k.outbox_closed) _ p.linked p.well))

  pub down : in_range n c ≡ true → every n (slot_formed n c s.words) && well_formed (view n c s) ≡ true
  unfolding well_formed
  down r =
      both (every n (slot_formed n c s.words)) _ (at_every n (slot_formed n c s.words) slot-formed)
      (both (in_range (length (view n c s).slots) (view n c s).capacity) _ (ap₂ in_range (size_view n c s) (capacity_view n c s) ∙ r)
      (at_every (length (view n c s).slots) (λ i. slot_well (view n c s) i (at (view n c s) i)) λ i h.
      let hi : i < n = omega (arith, size_view n c s) in
      ap (slot_well (view n c s) i) (seen n c s i (state_of (cell_at s.words i)) hi refl) ∙ shown_well i hi (state_of (cell_at s.words i)) refl))
