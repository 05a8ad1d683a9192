-- The check and the model's `InboxOk` say the same, and push, take and discard keep them.
use Rattle.std.proofs.Common.{◌≡◌, ℕ, suc, ◌+◌, ◌-◌, ◌<◌, ◌≤◌, Bool, true, false, cond, not, ◌&&◌, eqb, ltb, leb, ◌≢◌, List, [], ◌∷◌, length, take, sym, refl, ap, ◌∙◌, subst, arith, ltb-true, lt-ltb, ne_eqb, le-leb, leb-false, leb-true}
use Rattle.laws.proofs.Tests.{and_left, and_right, and_four}
use Rattle.ring.specs.Ring.{place_of}
use Rattle.ring.proofs.Queued.{place_in}
use Rattle.ring.proofs.Copying.{place_is}
use Rattle.rules.specs.Inbox.{is_nil, all_items, append, group}
use Rattle.rules.specs.Moving.{Policy}
use Rattle.rules.proofs.InboxOk.{Rising, InboxOk, append-ok, rest_ok}
use Rattle.inbox.specs.View.{count, bytes_of, items_in, distances, groups_of, view}
use Rattle.inbox.specs.Well.{rises, is_well, Well}
use Rattle.inbox.specs.Promise.{push_no, MayPush, come_on, move_on, Pushes, Takes, Discards}
use Rattle.inbox.specs.declared.Inbox.{Inbox}
use Rattle.inbox.specs.declared.Pushed.{Pushed}
use Rattle.inbox.specs.declared.Taken.{Taken}
use Rattle.inbox.specs.declared.Discarded.{Discarded}
use Rattle.inbox.proofs.Offsets.{dist_come, dist_gone}
use Rattle.inbox.proofs.Groups.{rising, rises_if}
use Rattle.inbox.proofs.Shows.{length-bytes, length-items, length-distances, items_are_all, taken_le, group_le, no_distances}
use Rattle.inbox.proofs.Parts.{may_fit}

-- ── The yes-or-no check and its propositions ──

pub well : (c : ℕ) (places : List ℕ) (q : Inbox) → is_well c places q ≡ true → Well c places q
unfolding is_well
well c places q e =
    let l = and_left (ltb q.head c && leb (count q) c && ltb q.first 256 && leb q.items 256) (rises 0 (count q) (distances q places)) e in
    let f = and_four (ltb q.head c) (leb (count q) c) (ltb q.first 256) (leb q.items 256) l in
    record {
      head_in = ltb-true q.head c f.0;
      fits = leb-true (count q) c f.1;
      first_in = ltb-true q.first 256 f.2;
      items-in = leb-true q.items 256 f.3;
      rising = and_right (ltb q.head c && leb (count q) c && ltb q.first 256 && leb q.items 256) (rises 0 (count q) (distances q places)) e;
    }

pub is-well : (c : ℕ) (places : List ℕ) (q : Inbox) → Well c places q → is_well c places q ≡ true
unfolding is_well
is-well c places q w = rw (lt-ltb q.head c w.head_in, le-leb (count q) c w.fits, lt-ltb q.first 256 w.first_in, le-leb q.items 256 w.items-in) w.rising

-- ── The numbers alone ──

pub record InRange (c : ℕ) (q : Inbox) : Type 0 where
  pub head_in : q.head < c
  pub fits : count q ≤ c
  pub first_in : q.first < 256
  pub items-in : q.items ≤ 256

pub in-range : {c : ℕ} {places : List ℕ} {q : Inbox} → Well c places q → InRange c q
in-range w = record { head_in = w.head_in; fits = w.fits; first_in = w.first_in; items-in = w.items-in }

pub come_in : (c : ℕ) (q : Inbox) (k m : ℕ) → c ≤ 65536 → InRange c q → count q + k ≤ c → q.items + m ≤ 256 → InRange c (come_on q k m)
come_in c q k m hc w hk hm =
    record {
      head_in = w.head_in;
      fits = let z = dist_come q.written_total q.read_total k (omega arith) in omega arith;
      first_in = w.first_in;
      items-in = hm;
    }

pub gone_in : (c : ℕ) (q : Inbox) (k g : ℕ) → InRange c q → k ≤ count q → g ≤ q.items → InRange c (move_on c q k g)
gone_in c q k g w hk hg =
    let h = w.head_in in
    let n = w.fits in
    let f = w.first_in in
    let i = w.items-in in
    record {
      head_in = place_in (place_is c (q.head + k) (place_of c (q.head + k)) refl) (omega arith);
      fits = let z = dist_gone q.written_total q.read_total k hk in omega arith;
      first_in = place_in (place_is 256 (q.first + g) (place_of 256 (q.first + g)) refl) (omega arith);
      items-in = omega arith;
    }

-- ── The model's words ──

module _ (ring places tokens : List ℕ) (q : Inbox) (lp : length places ≡ 256) (lt : length tokens ≡ 256) where
  pub well_ok : Well (length ring) places q → InboxOk (length ring) (view ring places tokens q)
  well_ok w =
      let n : length (bytes_of ring q) ≡ count q = length-bytes ring q w.head_in w.fits in
      record {
        fits = let z = w.fits in omega arith;
        rising = rw n (rising 0 (count q) (distances q places) (items_in tokens q) w.rising);
        few = rw (items_are_all places tokens q lp lt w.first_in w.items-in, length-items tokens q lt w.first_in w.items-in) w.items-in;
      }

  pub ok_well : InRange (length ring) q → InboxOk (length ring) (view ring places tokens q) → Well (length ring) places q
  ok_well i ok =
      let n : length (bytes_of ring q) ≡ count q = length-bytes ring q i.head_in i.fits in
      record {
        head_in = i.head_in;
        fits = i.fits;
        first_in = i.first_in;
        items-in = i.items-in;
        rising =
            rises_if 0 (count q) (distances q places) (items_in tokens q) (length-distances places q lp i.first_in i.items-in ∙ sym (length-items tokens q lt i.first_in i.items-in))
            (subst (λ (x : ℕ). Rising 0 x (groups_of (distances q places) (items_in tokens q))) n ok.rising);
      }

never : (n : ℕ) → suc n ≢ 0
never n e = omega arith

-- ── push ──

-- the tests of the model's `send`, on lengths
pub some_items : (l : List ℕ) → not (is_nil l) ≡ ltb 0 (length l)
unfolding is_nil
some_items [] = refl
some_items (x ∷ l) = sym (lt-ltb 0 (suc (length l)) (omega arith))

pub none_at_all : (l : List ℕ) → is_nil l ≡ eqb (length l) 0
unfolding is_nil
none_at_all [] = refl
none_at_all (x ∷ l) = sym (ne_eqb (suc (length l)) 0 (λ e. omega arith))

pub not_refused : (x y z : Bool) → ◌≡◌ {A = ℕ} (cond x 8 (cond y 2 (cond z 11 0))) 0 → (x ≡ false) × (y ≡ false) × (z ≡ false)
not_refused true y z e = absurd (never 7 e)
not_refused false true z e = absurd (never 1 e)
not_refused false false true e = absurd (never 10 e)
not_refused false false false e = (refl, refl, refl)

-- what `MayPush` says of them
pub may : (c : ℕ) (q : Inbox) (buf items : List ℕ) → MayPush c q buf items
    → (count q < c) × ((not (is_nil items) && is_nil buf) ≡ false) × ((not (is_nil items) && ltb 256 (q.items + length items)) ≡ false)
unfolding push_no
may c q buf items e =
    let t = not_refused (leb c (count q)) (ltb 0 (length items) && eqb (length buf) 0) (ltb 0 (length items) && ltb 256 (q.items + length items)) e in
    (leb-false c (count q) t.0, rw (some_items items, none_at_all buf) t.1, rw (some_items items) t.2)

pub push_keeps : (ring ring' places places' tokens tokens' buf items : List ℕ) (q : Inbox) (r : Pushed) → length ring ≤ 65536 → length ring' ≡ length ring
    → length places ≡ 256 → length places' ≡ 256 → length tokens ≡ 256 → length tokens' ≡ 256 → Well (length ring) places q → MayPush (length ring) q buf items
    → Pushes ring ring' places places' tokens tokens' buf items q r → Well (length ring') places' r.inbox
push_keeps ring ring' places places' tokens tokens' buf items q r hc lr lp lp' lt lt' w m p =
    let t = may (length ring) q buf items m in
    let n : length (bytes_of ring q) ≡ count q = length-bytes ring q w.head_in w.fits in
    let i : length (all_items (groups_of (distances q places) (items_in tokens q))) ≡ q.items = ap length (items_are_all places tokens q lp lt w.first_in w.items-in) ∙ length-items tokens q lt w.first_in w.items-in in
    let few : q.items + length items ≤ 256 = may_fit (length ring) (count q) (length buf) q.items (length items) m w.items-in in
    let mv = p.moves in
    let fit = w.fits in
    let range : InRange (length ring) (come_on q r.moved (length items)) = come_in (length ring) q r.moved (length items) hc (in-range w) (omega arith) few in
    let ok : InboxOk (length ring) (append (view ring places tokens q) (take (length ring - length (bytes_of ring q)) buf) items) =
    append-ok (length ring) (view ring places tokens q) buf items (rw n t.0) t.1 (rw i t.2) (well_ok ring places tokens q lp lt w) in
    ok_well ring' places' tokens' r.inbox lp' lt'
    (rw (lr, p.numbers) range)
    (rw (lr, p.shows) (rw n at ok))

-- ── take ──

pub take-keeps : (ring places tokens buf buf' : List ℕ) (policy : Policy) (items items' releases releases' : List ℕ) (q : Inbox) (r : Taken)
    → length places ≡ 256 → length tokens ≡ 256 → Well (length ring) places q → Takes ring places tokens buf buf' policy items items' releases releases' q r
    → Well (length ring) places r.inbox
take-keeps ring places tokens buf buf' policy items items' releases releases' q r lp lt w p =
    let its = group (groups_of (distances q places) (items_in tokens q)) in
    let hk : r.moved ≤ count q = taken_le ring places tokens q (length buf) r.moved w lp lt p.moves in
    let hg : length its ≤ q.items = group_le places tokens q w.first_in w.items-in lp lt in
    ok_well ring places tokens r.inbox lp lt
    (rw p.numbers (gone_in (length ring) q r.moved (length its) (in-range w) hk hg))
    (rw (p.shows, p.moves) (rest_ok (length ring) (view ring places tokens q) (length buf) (well_ok ring places tokens q lp lt w)))

-- ── discard ──

pub discard_keeps : (c : ℕ) (places tokens releases releases' : List ℕ) (at : ℕ) (q : Inbox) (r : Discarded) → Well c places q → Discards c tokens releases releases' at q r → Well c places r.inbox
unfolding rises
discard_keeps c places tokens releases releases' at q r w p = rw p.numbers (record { head_in = i.head_in; fits = i.fits; first_in = i.first_in; items-in = i.items-in; rising = ap (rises 0 (count u)) (no_distances u places (omega arith)) })
  where
    u : Inbox
    u = move_on c q (count q) q.items

    i : InRange c u
    i = gone_in c q (count q) q.items (in-range w) (omega arith) (omega arith)
