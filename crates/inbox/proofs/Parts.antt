-- What the small functions leave at each return.
use Rattle.std.proofs.Common.{not-suc-le-zero, zero-add, Option, Some, None, MatchOption, ◌≡◌, ℕ, zero, suc, ◌+◌, ◌-◌, ◌%◌, ◌^◌, ◌<◌, ◌≤◌, min, Bool, true, false, cond, ◌&&◌, eqb, ltb, leb, ◌≢◌, ◌⊎◌, List, [], ◌∷◌, ◌++◌, length, get_or, take, drop, replicate, sym, refl, ap, ◌∙◌, ap₂, inl, inr, add-one, arith, length-drop, length-take-le, drop-cons, ltb-false, le-ltb, lt-ltb, eq-eqb, ne_eqb, le-leb}
use lib.ListN.{drop_of_length-le}
use lib.Seq.{sets, sets-eq, paste, take-length, take-take, drop-length}
use borrow.Rule.Slice.PartMut.{put_mid}
use Rattle.std.proofs.lemmas.List.{get_or-map}
use Rattle.std.proofs.lemmas.List.FromFn.{length-range_with_len, get_or-range_with_len}
use Rattle.std.specs.List.{range_with_len, AllWithin, HoldsAt}
use Rattle.std.specs.Option.{unwrap_or}
use Rattle.std.proofs.lemmas.Slice.{put_mid-paste}
use borrow.Author.Tests.{lt-leb}
use Rattle.ring.specs.Ring.{place_of, queued, whole}
use Rattle.ring.proofs.Queued.{by_order, queued-length, queued-take, queued-drop, queued_at}
use Rattle.ring.proofs.Copying.{place_low, place_high, place_is}
use Rattle.laws.proofs.Tests.{less_or}
use Rattle.rules.specs.Inbox.{group, moved}
use Rattle.rules.specs.Moving.{handed, released, flags_of}
use Rattle.inbox.specs.View.{dist, count, items_in, distances, groups_of, view, front, nearest}
use Rattle.inbox.specs.Well.{rises, Well, ItemsFit}
use Rattle.inbox.specs.Promise.{push_no, MayPush, come_on, Pushes, policy_of, Takes, move_on, handed_of, flags_for, Hands, Discards}
use Rattle.inbox.specs.declared.Inbox.{Inbox}
use Rattle.inbox.specs.declared.AttachedItems.{AttachedItems}
use Rattle.inbox.specs.declared.AttachedItems.TheVariants.{Take, Drop}
use Rattle.inbox.proofs.Offsets.{dist_meets}
use Rattle.inbox.proofs.Shows.{length-distances, push_shows, moved_is, reach_le, bytes_first, take-least, take-shows, taken_group}

never : (n : ℕ) → suc n ≢ 0
never n e = omega arith

positive : (n : ℕ) → (n ≡ 0 → ⊥) → 0 < n
positive zero ne = absurd (ne refl)
positive (suc n) ne = omega arith

some : (r c n : ℕ) → r ≡ c - n → n ≤ c → (r ≡ 0 → ⊥) → n < c
some r c n e h ne = let z = positive r ne in omega arith

-- ── The rings of the items ──

pub place_mod : (k : ℕ) → k < 512 → (k % 256 ≡ place_of 256 k) × (k % 256 < 256)
place_mod k h = go (less_or k 256)
  where
    go : (k < 256) ⊎ (256 ≤ k) → (k % 256 ≡ place_of 256 k) × (k % 256 < 256)
    go (inl l) = let e : k % 256 ≡ k = omega arith in (e ∙ (place_low 256 k l).0, omega arith)
    go (inr g) = let e : k % 256 ≡ k - 256 = omega arith in (e ∙ (place_high 256 k g (omega arith)).0, omega arith)

-- ── The lists ──

-- all of a list, stored from a place on
pub pasted_all : (l xs : List ℕ) (at k : ℕ) → length xs ≡ k → at + k ≤ length l → paste l at xs k ≡ sets l at xs
pasted_all l xs at k e h =
    ap (λ (x : ℕ). paste l at xs x) (sym e) ∙ ap (λ (x : List ℕ). take at l ++ x ++ drop (at + length xs) l) (take-length xs) ∙ sym (sets-eq xs l at (omega arith))

-- a part of a list, all written over by what is queued in a ring
read_to : (r l x : List ℕ) (h at k m : ℕ) → h < length r → k ≤ length r → at + k ≤ length l → m ≡ k → x ≡ queued r h (length (take m (drop at l))) → put_mid at m l x ≡ sets l at (queued r h k)
read_to r l x h at k m hh hk hl em ex =
    let xs = queued r h k in
    let lx : length xs ≡ k = queued-length r h hh k hk in
    let n : length (take m (drop at l)) ≡ k = length-take-le m (drop at l) (simp length-drop (omega arith)) ∙ em in
    put_mid-paste at m l x xs (length xs) (ex ∙ ap (queued r h) n) (omega arith) refl
    ∙ pasted_all l xs at (length xs) refl (omega arith)

pub handed_over : (tokens items x releases y : List ℕ) (first g m p : ℕ) → length tokens ≡ 256 → first < 256 → m ≤ g → g ≤ 256 → m ≤ length items → 256 ≤ length releases
    → x ≡ queued tokens first (length (take m items)) → p ≡ place_of 256 (first + m) → p < 256 → y ≡ queued tokens p (length (take (g - m) releases))
    → Hands (queued tokens first g) m items (x ++ drop m items) releases (y ++ drop (g - m) releases)
handed_over tokens items x releases y first g m p l hf hm hg hi hr ex ep hp ey =
    record {
      hands = read_to tokens items x first 0 m m (omega arith) (omega arith) (omega arith) refl ex ∙ ap (sets items 0) (sym (queued-take tokens first (omega arith) m g hm));
      releases_it =
          read_to tokens releases y p 0 (g - m) (g - m) (omega arith) (omega arith) (omega arith) refl ey
          ∙ ap (sets releases 0) (sym (queued-drop tokens first m g p (omega arith) hm (omega arith) (rw l (place_is 256 (first + m) p ep))));
    }

-- ── The numbers ──

pub discarded : (c : ℕ) (tokens releases x : List ℕ) (at n : ℕ) (q i : Inbox) → q.first < 256 → q.items ≤ 256 → length tokens ≡ 256 → at + q.items ≤ length releases
    → q.written_total < 2 ^ 64 → x ≡ queued tokens q.first (length (take (at + q.items - at) (drop at releases))) → n ≡ count q → i ≡ move_on c q n q.items
    → Discards c tokens releases (put_mid at (at + q.items - at) releases x) at q (record { released = q.items; inbox = i })
unfolding items_in
discarded c tokens releases x at n q i hf hi l hr big ex en ei =
    record {
      released_are = refl;
      releases_it = read_to tokens releases x q.first at q.items (at + q.items - at) (omega arith) (omega arith) hr (omega arith) ex;
      numbers = ei ∙ ap (λ (x : ℕ). move_on c q x q.items) en;
      meet = ap (λ (x : Inbox). x.read_total) ei ∙ ap (λ (x : ℕ). (q.read_total + x) % 2 ^ 64) en ∙ dist_meets q.written_total q.read_total big ∙ sym (ap (λ (x : Inbox). x.written_total) ei);
    }

-- ── The places, one at a time ──

-- the distance of item i, which stands at p
pub distance_at : (q : Inbox) (places : List ℕ) (i p d : ℕ) → length places ≡ 256 → ItemsFit q → i < q.items → p ≡ place_of 256 (q.first + i) → d ≡ dist (get_or places p 0) q.read_total
    → d ≡ get_or (distances q places) i 0
unfolding distances
distance_at q places i p d l fit hg ep ed =
    let hf = fit.0 in
    let hi = fit.1 in
    ed
    ∙ ap (λ (x : ℕ). dist x q.read_total) (sym (queued_at places q.first (omega arith) q.items i p hg (omega arith) (rw l (place_is 256 (q.first + i) p ep))))
    ∙ sym (get_or-map (λ x. dist x q.read_total) (queued places q.first q.items) i 0 0 (omega (arith, queued-length places q.first (omega arith) q.items (omega arith))))

module _ (q : Inbox) (places : List ℕ) (i : ℕ) (l : length places ≡ 256) (fit : ItemsFit q) where
  long : length (distances q places) ≡ q.items
  long = length-distances places q l fit.0 fit.1

  -- d is the one at i
  module _ (d : ℕ) (hg : i < q.items) (e : d ≡ get_or (distances q places) i 0) where
    left_at : drop i (distances q places) ≡ d ∷ drop (i + 1) (distances q places)
    left_at = drop-cons (distances q places) i 0 (omega (arith, long)) ∙ ap₂ (λ (x k : ℕ). x ∷ drop k (distances q places)) (sym e) (sym (add-one i))

    pub reach_next : (n : ℕ) → d ≡ nearest n (drop i (distances q places))
    unfolding nearest
    reach_next n = sym (ap (nearest n) left_at)

    pub rises_on : (low n : ℕ) → low ≤ d → d < n → rises low n (drop i (distances q places)) ≡ rises d n (drop (i + 1) (distances q places))
    unfolding rises
    rises_on low n a b = ap (rises low n) left_at ∙ rw (le-leb low d a, lt-ltb d n b)

    pub falls : (low n : ℕ) → d < low → false ≡ rises low n (drop i (distances q places))
    unfolding rises
    falls low n a = sym (ap (rises low n) left_at ∙ rw (lt-leb low d a))

    pub beyond : (low n : ℕ) → low ≤ d → n ≤ d → false ≡ rises low n (drop i (distances q places))
    unfolding rises
    beyond low n a b = sym (ap (rises low n) left_at ∙ rw (le-leb low d a, le-ltb d n b))

    -- one test for both ends: how far d lies behind low, which is far where d is the less
    module _ (low n left : ℕ) (el : low + left ≡ n) (hn : n < 2 ^ 64) (hd : d < 2 ^ 64) where
      pub rises_inside : (d + (2 ^ 64 - low)) % 2 ^ 64 < left → rises low n (drop i (distances q places)) ≡ rises d n (drop (i + 1) (distances q places))
      rises_inside h = rises_on low n (omega arith) (omega arith)

      pub rises_outside : left ≤ (d + (2 ^ 64 - low)) % 2 ^ 64 → false ≡ rises low n (drop i (distances q places))
      rises_outside h = go (less_or d low)
        where
          go : (d < low) ⊎ (low ≤ d) → false ≡ rises low n (drop i (distances q places))
          go (inl a) = falls low n a
          go (inr a) = beyond low n a (omega arith)

  -- none is left
  module _ (h : q.items ≤ i) where
    left_none : drop i (distances q places) ≡ []
    left_none = drop_of_length-le (distances q places) (omega (arith, long))

    pub reach_end : (n r : ℕ) → r ≡ n → r ≡ nearest n (drop i (distances q places))
    unfolding nearest
    reach_end n r e = e ∙ sym (ap (nearest n) left_none)

    pub rises_end : (low n : ℕ) → true ≡ rises low n (drop i (distances q places))
    unfolding rises
    rises_end low n = sym (ap (rises low n) left_none)

-- ── The group ──

-- k of 0 in front
front_more : (ds : List ℕ) (k : ℕ) → k ≤ length ds → ((j : ℕ) → j < k → get_or ds j 0 ≡ 0) → front ds ≡ k + front (drop k ds)
unfolding front
front_more ds zero h z = omega arith
front_more [] (suc k) h z = absurd (not-suc-le-zero h)
front_more (d ∷ ds) (suc k) h z =
    let e : d ≡ 0 = z 0 (omega arith) in
    let more : front ds ≡ k + front (drop k ds) = front_more ds k (omega arith) (λ j u. z (suc j) (omega arith)) in
    rw (eq-eqb d 0 e) (omega arith)

-- the first that is not 0 ends it, or the end
front_ends : (ds : List ℕ) (k : ℕ) → k ≤ length ds → (k < length ds → get_or ds k 0 ≢ 0) → front (drop k ds) ≡ 0
unfolding front
front_ends ds k h ne =
    by_order k (length ds)
    (λ lo. ap front (drop-cons ds k 0 lo) ∙ rw (ne_eqb (get_or ds k 0) 0 (ne lo)))
    (λ up. ap front (drop_of_length-le ds up))

group_at : (ds : List ℕ) (n k : ℕ) → length ds ≡ n → k ≤ n → AllWithin (λ i. get_or ds i 0 ≡ 0) (range_with_len 0 n) 0 k → (k < n → get_or ds k 0 ≢ 0) → k ≡ front ds
group_at ds n k l h z ne =
    let more = front_more ds k (omega arith) (λ j u. ap (λ (i : ℕ). get_or ds i 0) (sym (get_or-range_with_len 0 n j 0 (omega arith) ∙ zero-add j)) ∙ z j 0 (omega arith) u) in
    let ends = front_ends ds k (omega arith) (λ lo. ne (omega arith)) in
    omega arith

-- what a search for the first that is not 0 found
pub group_found : (ds : List ℕ) (n g : ℕ) (r : Option ℕ) → length ds ≡ n
    → MatchOption r (AllWithin (λ i. get_or ds i 0 ≡ 0) (range_with_len 0 n) 0 (length (range_with_len 0 n)))
    (λ k. (k < length (range_with_len 0 n)) × HoldsAt (λ i. get_or ds i 0 ≢ 0) (range_with_len 0 n) k × AllWithin (λ i. get_or ds i 0 ≡ 0) (range_with_len 0 n) 0 k)
    → g ≡ unwrap_or r n → (g ≡ front ds) × (g ≤ n)
group_found ds n g None l z e =
    let here = group_at ds n n l (omega arith) (λ j d x u. z j d x (omega (arith, length-range_with_len 0 n))) (λ lo. absurd (omega arith)) in
    (omega arith, omega arith)
group_found ds n g (Some k) l f e =
    let lo : k < n = omega (arith, f.0, length-range_with_len 0 n) in
    let here = group_at ds n k l (omega arith) f.2 (λ _ z. f.1 0 (ap (λ (i : ℕ). get_or ds i 0) (get_or-range_with_len 0 n k 0 lo ∙ zero-add k) ∙ z)) in
    (omega arith, omega arith)

-- ── The refusals of a push ──

module _ (c n d m i r : ℕ) (er : r ≡ c - n) (fits : n ≤ c) where
  pub no_room : r ≡ 0 → 8 ≡ push_no c n d m i
  unfolding push_no
  no_room e = rw (le-leb c n (omega arith))

  pub no_items : (r ≡ 0 → ⊥) → i ≡ 0 → 0 ≡ push_no c n d m i
  unfolding push_no
  no_items ne e = rw (lt-leb c n (some r c n er fits ne), e)

  pub no_bytes : (r ≡ 0 → ⊥) → (i ≡ 0 → ⊥) → d ≡ 0 → 2 ≡ push_no c n d m i
  unfolding push_no
  no_bytes ne ni e = rw (lt-leb c n (some r c n er fits ne), lt-ltb 0 i (positive i ni), e)

  pub too_many : (r ≡ 0 → ⊥) → (i ≡ 0 → ⊥) → (d ≡ 0 → ⊥) → m ≤ 256 → 256 - m < i → 11 ≡ push_no c n d m i
  unfolding push_no
  too_many ne ni nd hm h = rw (lt-leb c n (some r c n er fits ne), lt-ltb 0 i (positive i ni), ne_eqb d 0 nd, lt-ltb 256 (m + i) (omega arith))

  pub may-push : (r ≡ 0 → ⊥) → (i ≡ 0 → ⊥) → (d ≡ 0 → ⊥) → m ≤ 256 → i ≤ 256 - m → 0 ≡ push_no c n d m i
  unfolding push_no
  may-push ne ni nd hm h = rw (lt-leb c n (some r c n er fits ne), lt-ltb 0 i (positive i ni), ne_eqb d 0 nd, le-ltb 256 (m + i) (omega arith))

-- ── push, take ──

pub may_fit : (c n d m i : ℕ) → push_no c n d m i ≡ 0 → m ≤ 256 → m + i ≤ 256
unfolding push_no
may_fit c n d m zero e h = omega arith
may_fit c n d m (suc i) e h = go (leb c n) (eqb d 0) (ltb 256 (m + suc i)) refl (rw (lt-ltb 0 (suc i) (omega arith)) at e)
  where
    go : (x y z : Bool) → ltb 256 (m + suc i) ≡ z → ◌≡◌ {A = ℕ} (cond x 8 (cond (true && y) 2 (cond (true && z) 11 0))) 0 → m + suc i ≤ 256
    go true y z ez e = absurd (never 7 e)
    go false true z ez e = absurd (never 1 e)
    go false false true ez e = absurd (never 10 e)
    go false false false ez e = ltb-false 256 (m + suc i) ez

pub pushes : (ring ring' places places' tokens tokens' buf items : List ℕ) (q : Inbox) (k n room t : ℕ) → Well (length ring) places q → MayPush (length ring) q buf items
    → length ring ≤ 65536 → length ring' ≡ length ring → length places ≡ 256 → length places' ≡ length places → length tokens ≡ 256 → length tokens' ≡ length tokens
    → room ≡ length ring - count q → k ≡ min room (length buf) → n ≡ count q
    → whole ring' q.head ≡ paste (whole ring q.head) n (take k buf) (length (take k buf))
    → whole places' q.first ≡ paste (whole places q.first) q.items (replicate (length items) q.written_total) (length items)
    → whole tokens' q.first ≡ paste (whole tokens q.first) q.items items (length items)
    → t ≡ (q.written_total + k) % 2 ^ 64
    → Pushes ring ring' places places' tokens tokens' buf items q
    (record { moved = k; inbox = record { head = q.head; written_total = t; read_total = q.read_total; first = q.first; items = q.items + length items } })
pushes ring ring' places places' tokens tokens' buf items q k n room t w may big lr lp lp' lt lt' eo ek en er ep et ew =
    let after : ℕ → Inbox = λ x. record { head = q.head; written_total = x; read_total = q.read_total; first = q.first; items = q.items + length items } in
    let numbers : after t ≡ come_on q k (length items) = ap after ew in
    let ek' : k ≡ min (length ring - count q) (length buf) = ek ∙ ap (λ (x : ℕ). min x (length buf)) eo in
    let l : length (take k buf) ≡ k = length-take-le k buf (omega arith) in
    let er' : whole ring' q.head ≡ paste (whole ring q.head) (count q) buf k =
    er ∙ ap₂ (λ (n m : ℕ). take n (whole ring q.head) ++ take m (take k buf) ++ drop (n + m) (whole ring q.head)) en l
    ∙ ap (λ (x : List ℕ). take (count q) (whole ring q.head) ++ x ++ drop (count q + k) (whole ring q.head)) (take-take k k buf (omega arith)) in
    record {
      moves = ek';
      shows =
          ap (view ring' places' tokens') numbers
          ∙ push_shows ring ring' places places' tokens tokens' buf items q k w big lr lp (lp' ∙ lp) lt (lt' ∙ lt) (may_fit (length ring) (count q) (length buf) q.items (length items) may w.items-in) ek' er' ep et;
      numbers = numbers;
      in_ring = er';
      in_places = ep;
      in_tokens = et;
    }

-- the group as the policy has it
drop-least : (n : ℕ) (its : List ℕ) → drop (min (length its) n) its ≡ drop n its
drop-least n its = go (less_or n (length its))
  where
    go : (n < length its) ⊎ (length its ≤ n) → drop (min (length its) n) its ≡ drop n its
    go (inl h) = let e : min (length its) n ≡ n = omega arith in ap (λ (k : ℕ). drop k its) e
    go (inr h) = let e : min (length its) n ≡ length its = omega arith in ap (λ (k : ℕ). drop k its) e ∙ drop-length its ∙ sym (drop_of_length-le its h)

more_least : (n g : ℕ) → ltb (min g n) g ≡ ltb n g
more_least n g = go (less_or n g)
  where
    go : (n < g) ⊎ (g ≤ n) → ltb (min g n) g ≡ ltb n g
    go (inl h) = lt-ltb (min g n) g (omega arith) ∙ sym (lt-ltb n g h)
    go (inr h) = le-ltb (min g n) g (omega arith) ∙ sym (le-ltb n g h)

record Policed (p : AttachedItems) (n : ℕ) (its : List ℕ) (m : ℕ) : Type 0 where
  few : m ≤ length its
  room : m ≤ n
  to_items : handed (policy_of p n) its ≡ take m its
  to_releases : released (policy_of p n) its ≡ drop m its
  flagged : flags_for p (length its) m ≡ flags_of (policy_of p n) its

policed : (p : AttachedItems) (n : ℕ) (its : List ℕ) (m : ℕ) → m ≡ handed_of p (length its) n → Policed p n its m
unfolding policy_of handed_of flags_for handed released flags_of
policed Take n its m e =
    record {
      few = omega arith;
      room = omega arith;
      to_items = sym (ap (λ (x : ℕ). take x its) e ∙ (let z : min (length its) n ≡ min n (length its) = omega arith in ap (λ (x : ℕ). take x its) z) ∙ take-least n its);
      to_releases = sym (ap (λ (x : ℕ). drop x its) e ∙ drop-least n its);
      flagged = ap (λ (b : Bool). cond b 8 0) (ap (λ (x : ℕ). ltb x (length its)) e ∙ more_least n (length its));
    }
policed Drop n its m e =
    record {
      few = omega arith;
      room = omega arith;
      to_items = sym (ap (λ (x : ℕ). take x its) e);
      to_releases = sym (ap (λ (x : ℕ). drop x its) e);
      flagged = refl;
    }

pub takes : (ring places tokens buf x items items' releases releases' : List ℕ) (policy : AttachedItems) (q i : Inbox) (g d k m f : ℕ) → Well (length ring) places q
    → length places ≡ 256 → length tokens ≡ 256 → 256 ≤ length releases
    → g ≡ front (distances q places) → g ≤ q.items → d ≡ nearest (count q) (drop g (distances q places)) → k ≡ min (length buf) d → m ≡ handed_of policy g (length items)
    → x ≡ queued ring q.head (length (take k buf)) → Hands (queued tokens q.first g) m items items' releases releases'
    → f ≡ flags_for policy g m → i ≡ move_on (length ring) q k g
    → Takes ring places tokens buf (x ++ drop k buf) (policy_of policy (length items)) items items' releases releases' q (record { moved = k; items = m; released = g - m; flags = f; inbox = i })
takes ring places tokens buf x items items' releases releases' policy q i g d k m f w lp lt lr eg hg ed ek em ex eh ef ei =
    let its = group (groups_of (distances q places) (items_in tokens q)) in
    let is : its ≡ queued tokens q.first g = taken_group places tokens q g w.first_in w.items-in lp lt eg hg in
    let lg : length its ≡ g = ap length is ∙ queued-length tokens q.first (let z = w.first_in in omega arith) g (let z = w.items-in in omega arith) in
    let po : Policed policy (length items) its m = policed policy (length items) its m (em ∙ ap (λ (x : ℕ). handed_of policy x (length items)) (sym lg)) in
    let mv : moved (view ring places tokens q) (length buf) ≡ min (length buf) (nearest (count q) (drop g (distances q places))) = moved_is ring places tokens q (length buf) g w lp lt eg in
    let near : nearest (count q) (drop g (distances q places)) ≤ count q = reach_le places q g w.rising in
    let hk : k ≤ count q = omega arith in
    let fk : count q ≤ length ring = w.fits in
    record {
      moves = ek ∙ ap (min (length buf)) ed ∙ sym mv;
      fills = read_to ring buf x q.head 0 k k w.head_in (omega arith) (omega arith) refl ex ∙ ap (sets buf 0) (sym (bytes_first ring q k w.head_in hk));
      hands = eh.hands ∙ ap (λ (x : List ℕ). sets items 0 (take m x)) (sym is) ∙ ap (sets items 0) (sym po.to_items);
      items_are = sym (ap length po.to_items ∙ length-take-le m its po.few);
      releases_it = eh.releases_it ∙ ap (λ (x : List ℕ). sets releases 0 (drop m x)) (sym is) ∙ ap (sets releases 0) (sym po.to_releases);
      released_are = sym (ap length po.to_releases ∙ length-drop m its ∙ ap (λ (x : ℕ). x - m) lg);
      flags_are = ef ∙ ap (λ (x : ℕ). flags_for policy x m) (sym lg) ∙ po.flagged;
      shows = ap (view ring places tokens) ei ∙ take-shows ring places tokens q k g w lp lt eg hg (omega arith);
      numbers = ei ∙ ap (λ (x : ℕ). move_on (length ring) q k x) (sym lg);
    }

pub handed_few : (p : AttachedItems) (g n : ℕ) → (handed_of p g n ≤ g) × (handed_of p g n ≤ n)
unfolding handed_of
handed_few Take g n = (omega arith, omega arith)
handed_few Drop g n = (omega arith, omega arith)
