-- What push, take and discard promise: the answer, the inbox after it as the model has it, its numbers, the rings, and the caller's lists.
use Rattle.std.specs.Prelude.{◌≡◌, ℕ, ◌+◌, ◌-◌, ◌%◌, ◌^◌, min, cond, ◌&&◌, List, length, take, drop, replicate, ◌==◌, nat_le, nat_lt}
use Rattle.std.proofs.lemmas.List.Edits.{sets}
use Rattle.std.proofs.Math.Seq.{paste}
use Rattle.ring.specs.Ring.{place_of, whole}
use Rattle.rules.specs.Inbox.{append, group, moved, rest}
use Rattle.rules.specs.Moving.{Policy, handed, released, flags_of}
use Rattle.inbox.specs.View.{count, bytes_of, items_in, distances, groups_of, view}
use Rattle.inbox.specs.declared.Inbox.{Inbox}
use Rattle.inbox.specs.declared.Pushed.{Pushed}
use Rattle.inbox.specs.declared.Taken.{Taken}
use Rattle.inbox.specs.declared.Discarded.{Discarded}
use Rattle.inbox.specs.declared.AttachedItems.{AttachedItems}
use Rattle.inbox.specs.declared.AttachedItems.TheVariants.{Take, Drop}

abbrev pub none : Inbox
none = record { head = 0; written_total = 0; read_total = 0; first = 0; items = 0 }

-- ── push ──

-- "no room 8; items with no bytes 2; queued items plus new above 256: 11": n of c bytes and m items are queued, d bytes and i items are new
unfoldable pub push_no : (c n d m i : ℕ) → ℕ
push_no c n d m i = cond (nat_le c n) 8 (cond (nat_lt 0 i && d == 0) 2 (cond (nat_lt 0 i && nat_lt 256 (m + i)) 11 0))

abbrev pub MayPush : ℕ → Inbox → (buf items : List ℕ) → Type 0
MayPush c q buf items = push_no c (count q) (length buf) q.items (length items) ≡ 0

-- the numbers when k bytes and m items have come
abbrev pub come_on : Inbox → (k m : ℕ) → Inbox
come_on q k m =
    record { head = q.head; written_total = (q.written_total + k) % 2 ^ 64; read_total = q.read_total; first = q.first; items = q.items + m }

-- in the rings, only what lies behind the queued is written
pub record Pushes (ring ring' places places' tokens tokens' buf items : List ℕ) (q : Inbox) (r : Pushed) : Type 0 where
  pub moves : r.moved ≡ min (length ring - count q) (length buf)
  pub shows : view ring' places' tokens' r.inbox ≡ append (view ring places tokens q) (take (length ring - count q) buf) items
  pub numbers : r.inbox ≡ come_on q r.moved (length items)
  pub in_ring : whole ring' q.head ≡ paste (whole ring q.head) (count q) buf r.moved
  pub in_places : whole places' q.first ≡ paste (whole places q.first) q.items (replicate (length items) q.written_total) (length items)
  pub in_tokens : whole tokens' q.first ≡ paste (whole tokens q.first) q.items items (length items)

-- ── take ──

-- Take, with a list of n lent for the items
unfoldable pub policy_of : AttachedItems → ℕ → Policy
policy_of Take n = Policy.Take n
policy_of Drop n = Policy.Drop

-- the numbers when k bytes and g items have gone
abbrev pub move_on : ℕ → Inbox → (k g : ℕ) → Inbox
move_on c q k g =
    record {
      head = place_of c (q.head + k);
      written_total = q.written_total;
      read_total = (q.read_total + k) % 2 ^ 64;
      first = place_of 256 (q.first + g);
      items = q.items - g;
    }

-- the rings are only read
pub record Takes (ring places tokens buf buf' : List ℕ) (policy : Policy) (items items' releases releases' : List ℕ) (q : Inbox) (r : Taken) : Type 0 where
  pub moves : r.moved ≡ moved (view ring places tokens q) (length buf)
  pub fills : buf' ≡ sets buf 0 (take r.moved (bytes_of ring q))
  pub hands : items' ≡ sets items 0 (handed policy (group (groups_of (distances q places) (items_in tokens q))))
  pub items_are : r.items ≡ length (handed policy (group (groups_of (distances q places) (items_in tokens q))))
  pub releases_it : releases' ≡ sets releases 0 (released policy (group (groups_of (distances q places) (items_in tokens q))))
  pub released_are : r.released ≡ length (released policy (group (groups_of (distances q places) (items_in tokens q))))
  pub flags_are : r.flags ≡ flags_of policy (group (groups_of (distances q places) (items_in tokens q)))
  pub shows : view ring places tokens r.inbox ≡ rest (view ring places tokens q) r.moved
  pub numbers : r.inbox ≡ move_on (length ring) q r.moved (length (group (groups_of (distances q places) (items_in tokens q))))

-- its parts: how many of g go to a list of n; the flags; and the two lists
unfoldable pub handed_of : AttachedItems → ℕ → ℕ → ℕ
handed_of Take g n = min g n
handed_of Drop g n = 0

unfoldable pub flags_for : AttachedItems → ℕ → ℕ → ℕ
flags_for Take g m = cond (nat_lt m g) 8 0
flags_for Drop g m = 0

pub record Hands (its : List ℕ) (m : ℕ) (items items' releases releases' : List ℕ) : Type 0 where
  pub hands : items' ≡ sets items 0 (take m its)
  pub releases_it : releases' ≡ sets releases 0 (drop m its)

-- ── discard ──

-- all bytes go, and the totals meet; all items are released in order, from place `at` of the list on
pub record Discards (c : ℕ) (tokens releases releases' : List ℕ) (at : ℕ) (q : Inbox) (r : Discarded) : Type 0 where
  pub released_are : r.released ≡ q.items
  pub releases_it : releases' ≡ sets releases at (items_in tokens q)
  pub numbers : r.inbox ≡ move_on c q (count q) q.items
  pub meet : r.inbox.read_total ≡ r.inbox.written_total
