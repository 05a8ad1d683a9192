-- The inbox of a socket whose ends close.
use mathlib.Core.Path.{◌≡◌, refl, sym, subst}
use mathlib.Core.Bool.{Bool, true, false, cond}
use mathlib.Core.List.{List, []}
use Prim.Native.Nat.{ℕ, ◌≤◌, ◌<◌}
use native.Mathlib.Omega.{arith}
use lib.ListN.{length}
use Rattle.inbox.specs.View as inbox
use Rattle.inbox.specs.View.{count, items_in}
use Rattle.inbox.specs.Promise.{move_on}
use Rattle.inbox.specs.declared.Inbox.{Inbox}
use Rattle.inbox.proofs.Shows.{length-items, items_are_all, discard_shows}
use Rattle.inbox.proofs.Kept.{InRange, gone_in}
use Rattle.rules.specs.Table as model
use Rattle.rules.specs.Inbox.{nothing, all_items}
use Rattle.storage.specs.declared.State.TheVariants.{Connected}
use Rattle.storage.specs.declared.Connection.{Connection}
use Rattle.promise.specs.Hidden.{hidden_in, inbox_on}
use Rattle.promise.proofs.Known.{inbox_stays}
use Rattle.promise.proofs.Held.{sized, gone_hidden}
use Rattle.shutting.specs.Parts.{ended_with, left_of, dropped_of}

-- ── The inbox, read shut or not ──

pub left_range : (c : ℕ) (rd : Bool) (q : Inbox) → InRange c q → InRange c (left_of c rd q)
unfolding left_of
left_range c true q r = gone_in c q (count q) q.items r (omega arith) (omega arith)
left_range c false q r = r

pub left_shows : (c : ℕ) (rd : Bool) (ring places tokens : List ℕ) (q : Inbox) → inbox.view ring places tokens (left_of c rd q) ≡ cond rd nothing (inbox.view ring places tokens q)
unfolding left_of
left_shows c true ring places tokens q = discard_shows c ring places tokens q
left_shows c false ring places tokens q = refl

module _ (places tokens : List ℕ) (q : Inbox) (lp : length places ≡ 256) (lt : length tokens ≡ 256) (hf : q.first < 256) (hi : q.items ≤ 256) where
  pub dropped_all : (rd : Bool) → dropped_of rd tokens q ≡ cond rd (all_items (inbox.groups_of (inbox.distances q places) (items_in tokens q))) []
  unfolding dropped_of
  dropped_all true = sym (items_are_all places tokens q lp lt hf hi)
  dropped_all false = refl

  pub dropped_long : (rd : Bool) → cond rd q.items 0 ≡ length (dropped_of rd tokens q)
  unfolding dropped_of
  dropped_long true = sym (length-items tokens q lt hf hi)
  dropped_long false = refl

-- ── The numbers that the view forgets ──

-- nothing has gone
pub stays_hidden : (c : ℕ) (k : Connection) (i : model.Inbox) (x y : Bool) → InRange c k.inbox → hidden_in (Connected (ended_with k k.inbox x y)) ≡ inbox_on c (hidden_in (Connected k)) i i
unfolding hidden_in
stays_hidden c k i x y r = sym (inbox_stays c k i r.head_in r.first_in)

pub left_hidden : (c : ℕ) (k : Connection) (rd x y : Bool) (ring places tokens : List ℕ) → length ring ≡ c → length places ≡ 256 → length tokens ≡ 256 → InRange c k.inbox
    → hidden_in (Connected (ended_with k (left_of c rd k.inbox) x y)) ≡ inbox_on c (hidden_in (Connected k)) (inbox.view ring places tokens k.inbox) (inbox.view ring places tokens (left_of c rd k.inbox))
unfolding left_of
left_hidden c k true x y ring places tokens lr lp lt r =
    let q = k.inbox in
    let all = move_on c q (count q) q.items in
    let long : (p : Inbox) → InRange c p → InRange (length ring) p = λ p. subst (λ (z : ℕ). InRange z p) (sym lr) in
    gone_hidden c k (ended_with k all x y) (inbox.view ring places tokens q) (inbox.view ring places tokens all) (count q) q.items (omega arith) (omega arith) (sized ring places tokens q lp lt (long q r)) refl
    (sized ring places tokens all lp lt (long all (gone_in c q (count q) q.items r (omega arith) (omega arith))))
left_hidden c k false x y ring places tokens lr lp lt r = stays_hidden c k (inbox.view ring places tokens k.inbox) x y r
