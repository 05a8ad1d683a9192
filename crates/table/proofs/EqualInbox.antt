-- The inbox of a connected socket: the test on its numbers and its places is the test on the inbox that they show, with the ranges of the numbers.
use mathlib.Core.Path.{◌≡◌, sym, subst}
use mathlib.Core.Bool.{true, ◌&&◌}
use mathlib.Core.List.{List}
use Prim.Native.Nat.{ℕ, ◌<◌}
use native.Mathlib.Omega.{arith}
use lib.Dec.{leb, ltb}
use lib.ListN.{length}
use borrow.Author.Tests.{lt-ltb, ltb-true, le-leb, leb-true}
use Rattle.laws.proofs.Tests.{and_left, and_right, and_four, both}
use Rattle.inbox.specs.Well.{is_well, Well}
use Rattle.inbox.specs.View as inbox
use Rattle.inbox.specs.View.{count}
use Rattle.inbox.specs.declared.Inbox.{Inbox}
use Rattle.inbox.proofs.Kept.{well, is-well, InRange, in-range, well_ok, ok_well}
use Rattle.rules.specs.Table as model
use Rattle.rules.specs.WellFormed.{inbox_well}
use Rattle.rules.proofs.InboxOk.{InboxOk}
use Rattle.rules.proofs.YesNo.{inbox_is, is_inbox}
use Rattle.storage.specs.Layout.{places_base, ring_base, tokens_base}
use Rattle.storage.specs.Rows.{Store, row_at, Roomy}
use Rattle.storage.specs.View.{view}
use Rattle.storage.proofs.Pasted.{length_part}
use Rattle.storage.proofs.Strides.{row_before}
use Rattle.table.specs.Formed.{inbox_range}
use Rattle.table.proofs.EqualTests.{same_test}

-- ── The numbers alone ──

range_of : (c : ℕ) (q : Inbox) → inbox_range c q ≡ true → InRange c q
unfolding inbox_range
range_of c q e =
    let l = and_four (ltb q.head c) (leb (count q) c) (ltb q.first 256) (leb q.items 256) e in
    record { head_in = ltb-true _ _ l.0; fits = leb-true _ _ l.1; first_in = ltb-true _ _ l.2; items-in = leb-true _ _ l.3 }

of_range : (c : ℕ) (q : Inbox) → InRange c q → inbox_range c q ≡ true
unfolding inbox_range
of_range c q r = rw (lt-ltb _ _ r.head_in, le-leb _ _ r.fits, lt-ltb _ _ r.first_in, le-leb _ _ r.items-in)

-- ── The inbox ──

tests : (t : model.Table) (ring places tokens : List ℕ) (q : Inbox) → length ring ≡ t.capacity → length places ≡ 256 → length tokens ≡ 256
    → is_well t.capacity places q ≡ inbox_range t.capacity q && inbox_well t (inbox.view ring places tokens q)
tests t ring places tokens q lr lp lt = same_test (is_well t.capacity places q) (inbox_range t.capacity q && inbox_well t shown) down up
  where
    shown : model.Inbox
    shown = inbox.view ring places tokens q

    down : is_well t.capacity places q ≡ true → inbox_range t.capacity q && inbox_well t shown ≡ true
    down e =
        let w = well t.capacity places q e in
        both (inbox_range t.capacity q) (inbox_well t shown) (of_range t.capacity q (in-range w))
        (is_inbox t shown (subst (λ (c : ℕ). InboxOk c shown) lr (well_ok ring places tokens q lp lt (subst (λ (c : ℕ). Well c places q) (sym lr) w))))

    up : inbox_range t.capacity q && inbox_well t shown ≡ true → is_well t.capacity places q ≡ true
    up e =
        let r = range_of t.capacity q (and_left (inbox_range t.capacity q) (inbox_well t shown) e) in
        let o = inbox_is t shown (and_right (inbox_range t.capacity q) (inbox_well t shown) e) in
        is-well t.capacity places q
        (subst (λ (c : ℕ). Well c places q) lr
        (ok_well ring places tokens q lp lt (subst (λ (c : ℕ). InRange c q) (sym lr) r) (subst (λ (c : ℕ). InboxOk c shown) (sym lr) o)))

module _ (n c : ℕ) (s : Store) (f : Roomy n c s) (i : ℕ) (hi : i < n) (q : Inbox) where
  pub inboxes : is_well c (row_at n c s i).places q
      ≡ inbox_range c q && inbox_well (view n c s) (inbox.view (row_at n c s i).ring (row_at n c s i).places (row_at n c s i).tokens q)
  unfolding view row_at
  inboxes =
      let rc = row_before c i n hi in
      let w = f.words in
      let b = f.bytes in
      let k = f.tokens in
      tests (view n c s) (row_at n c s i).ring (row_at n c s i).places (row_at n c s i).tokens q
      (length_part (ring_base c i) c s.bytes (omega arith))
      (length_part (places_base n i) 256 s.words (omega arith))
      (length_part (tokens_base i) 256 s.tokens (omega arith))
