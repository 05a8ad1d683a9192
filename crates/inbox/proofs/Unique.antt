-- Two results that meet a contract are equal, the rings included.
use Rattle.std.proofs.Common.{◌≡◌, ℕ, ◌<◌, List, length, take, sym, ap, ◌∙◌, ap₂, arith}
use lib.Seq.{sets, paste}
use Rattle.ring.specs.Ring.{whole}
use Rattle.ring.proofs.Copying.{turned}
use Rattle.rules.specs.Moving.{Policy}
use Rattle.rules.specs.Inbox.{group}
use Rattle.inbox.specs.View.{count, bytes_of, items_in, distances, groups_of}
use Rattle.inbox.specs.Promise.{come_on, move_on, Pushes, Takes, Discards}
use Rattle.inbox.specs.declared.Inbox.{Inbox}
use Rattle.inbox.specs.declared.Pushed.{Pushed}
use Rattle.inbox.specs.declared.Taken.{Taken}
use Rattle.inbox.specs.declared.Discarded.{Discarded}

pub one_push : (ring a b places c d tokens e f buf items : List ℕ) (q : Inbox) (r s : Pushed) → q.head < length ring → q.first < 256
    → length a ≡ length ring → length b ≡ length ring → length c ≡ 256 → length d ≡ 256 → length e ≡ 256 → length f ≡ 256
    → Pushes ring a places c tokens e buf items q r → Pushes ring b places d tokens f buf items q s
    → (r ≡ s) × (a ≡ b) × (c ≡ d) × (e ≡ f)
one_push ring a b places c d tokens e f buf items q r s hh hf la lb lc ld le lf p o =
    let k : r.moved ≡ s.moved = p.moves ∙ sym o.moves in
    let i : r.inbox ≡ s.inbox = p.numbers ∙ ap (λ (x : ℕ). come_on q x (length items)) k ∙ sym o.numbers in (
      ap₂ (λ (x : ℕ) (y : Inbox). record { moved = x; inbox = y }) k i,
      turned a b q.head (omega arith) (lb ∙ sym la) (p.in_ring ∙ ap (λ (x : ℕ). paste (whole ring q.head) (count q) buf x) k ∙ sym o.in_ring),
      turned c d q.first (omega arith) (ld ∙ sym lc) (p.in_places ∙ sym o.in_places),
      turned e f q.first (omega arith) (lf ∙ sym le) (p.in_tokens ∙ sym o.in_tokens),
    )

taken : {r s : Taken} → r.moved ≡ s.moved → r.items ≡ s.items → r.released ≡ s.released → r.flags ≡ s.flags → r.inbox ≡ s.inbox → r ≡ s
taken {r} {s} k m n g i =
    ap (λ (x : ℕ). the x r.items r.released r.flags r.inbox) k ∙ ap (λ (x : ℕ). the s.moved x r.released r.flags r.inbox) m
    ∙ ap (λ (x : ℕ). the s.moved s.items x r.flags r.inbox) n ∙ ap (λ (x : ℕ). the s.moved s.items s.released x r.inbox) g
    ∙ ap (λ (x : Inbox). the s.moved s.items s.released s.flags x) i
  where
    the : ℕ → ℕ → ℕ → ℕ → Inbox → Taken
    the a b c d e = record { moved = a; items = b; released = c; flags = d; inbox = e }

pub one-take : (ring places tokens buf a b : List ℕ) (policy : Policy) (items c d releases e f : List ℕ) (q : Inbox) (r s : Taken)
    → Takes ring places tokens buf a policy items c releases e q r → Takes ring places tokens buf b policy items d releases f q s
    → (r ≡ s) × (a ≡ b) × (c ≡ d) × (e ≡ f)
one-take ring places tokens buf a b policy items c d releases e f q r s p o =
    let k : r.moved ≡ s.moved = p.moves ∙ sym o.moves in
    let m : r.items ≡ s.items = p.items_are ∙ sym o.items_are in
    let n : r.released ≡ s.released = p.released_are ∙ sym o.released_are in
    let g : r.flags ≡ s.flags = p.flags_are ∙ sym o.flags_are in
    let i : r.inbox ≡ s.inbox = p.numbers ∙ ap (λ (x : ℕ). move_on (length ring) q x (length (group (groups_of (distances q places) (items_in tokens q))))) k ∙ sym o.numbers in (
      taken k m n g i,
      p.fills ∙ ap (λ (x : ℕ). sets buf 0 (take x (bytes_of ring q))) k ∙ sym o.fills,
      p.hands ∙ sym o.hands,
      p.releases_it ∙ sym o.releases_it,
    )

pub one_discard : (c : ℕ) (tokens releases a b : List ℕ) (at : ℕ) (q : Inbox) (r s : Discarded) → Discards c tokens releases a at q r → Discards c tokens releases b at q s → (r ≡ s) × (a ≡ b)
one_discard c tokens releases a b at q r s p o = (
  ap₂ (λ (x : ℕ) (y : Inbox). record { released = x; inbox = y }) (p.released_are ∙ sym o.released_are) (p.numbers ∙ sym o.numbers),
  p.releases_it ∙ sym o.releases_it,
)
