-- What is pushed comes out in order, and each item once: over any takes, whatever room they lend and whatever their policy.
use Rattle.std.proofs.Common.{◌≡◌, ℕ, Bool, true, false, cond, eqb, List, [], ◌∷◌, ◌++◌, length, take, refl, ap, ◌∙◌, ap₂, append_assoc, append-nil, take-append-drop}
use Rattle.rules.specs.Table.{Group, Inbox}
use Rattle.rules.specs.Inbox.{is_nil, all_items, append, group, others, moved, rest}
use Rattle.rules.specs.Moving.{Policy, handed, released}
use Rattle.rules.proofs.InboxOk.{items-append, items_nearer}

-- a take: how much room its caller lends, and its policy
pub record Read : Type 0 where
  pub room : ℕ
  pub policy : Policy

-- the bytes that takes one after the other move, the items that they hand over or release, and what they leave
unfoldable pub bytes_out : Inbox → List Read → List ℕ
bytes_out b [] = []
bytes_out b (r ∷ rs) = take (moved b r.room) b.bytes ++ bytes_out (rest b (moved b r.room)) rs

unfoldable pub items_out : Inbox → List Read → List ℕ
items_out b [] = []
items_out b (r ∷ rs) = (handed r.policy (group b.groups) ++ released r.policy (group b.groups)) ++ items_out (rest b (moved b r.room)) rs

unfoldable pub left : Inbox → List Read → Inbox
left b [] = b
left b (r ∷ rs) = left (rest b (moved b r.room)) rs

-- ── One take ──

pub each_once : (p : Policy) (its : List ℕ) → handed p its ++ released p its ≡ its
unfolding handed released
each_once Policy.Drop its = refl
each_once (Policy.Take m) its = take-append-drop m its

pub items_split : (gs : List Group) → group gs ++ all_items (others gs) ≡ all_items gs
unfolding group others all_items
items_split [] = refl
items_split (g ∷ gs) = go (eqb g.place 0)
  where
    go : (b : Bool) → cond b g.items [] ++ all_items (cond b gs (g ∷ gs)) ≡ all_items (g ∷ gs)
    go true = refl
    go false = refl

-- ── Many ──

pub bytes_in_order : (b : Inbox) (rs : List Read) → bytes_out b rs ++ (left b rs).bytes ≡ b.bytes
unfolding bytes_out left rest
bytes_in_order b [] = refl
bytes_in_order b (r ∷ rs) =
    let k = moved b r.room in
    append_assoc (take k b.bytes) (bytes_out (rest b k) rs) (left (rest b k) rs).bytes
    ∙ ap (λ (x : List ℕ). take k b.bytes ++ x) (bytes_in_order (rest b k) rs)
    ∙ take-append-drop k b.bytes

pub items_in_order : (b : Inbox) (rs : List Read) → items_out b rs ++ all_items (left b rs).groups ≡ all_items b.groups
unfolding items_out left rest
items_in_order b [] = refl
items_in_order b (r ∷ rs) =
    let k = moved b r.room in
    let its = group b.groups in
    append_assoc (handed r.policy its ++ released r.policy its) (items_out (rest b k) rs) (all_items (left (rest b k) rs).groups)
    ∙ ap₂ (λ (x y : List ℕ). x ++ y) (each_once r.policy its) (items_in_order (rest b k) rs ∙ items_nearer k (others b.groups))
    ∙ items_split b.groups

-- ── A push and many takes ──

pub push_then_takes : (b : Inbox) (new items : List ℕ) (rs : List Read)
    → (bytes_out (append b new items) rs ++ (left (append b new items) rs).bytes ≡ b.bytes ++ new)
    × (items_out (append b new items) rs ++ all_items (left (append b new items) rs).groups ≡ all_items b.groups ++ items)
unfolding append is_nil all_items
push_then_takes b new items rs = (
  bytes_in_order (append b new items) rs,
  items_in_order (append b new items) rs ∙ items-append b.groups (cond (is_nil items) [] (record { place = length b.bytes; items = items } ∷ [])) ∙ ap (λ (x : List ℕ). all_items b.groups ++ x) (last items),
)
  where
    last : (its : List ℕ) → all_items (cond (is_nil its) [] (record { place = length b.bytes; items = its } ∷ [])) ≡ its
    last [] = refl
    last (i ∷ its) = append-nil (i ∷ its)
