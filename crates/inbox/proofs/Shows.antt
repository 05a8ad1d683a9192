-- What the rings and the numbers show after a push, a take and a discard.
use Rattle.std.proofs.Common.{◌≡◌, ℕ, zero, suc, ◌+◌, ◌-◌, ◌%◌, ◌^◌, ◌<◌, ◌≤◌, min, true, cond, eqb, ◌⊎◌, List, [], ◌∷◌, ◌++◌, map, length, take, drop, replicate, sym, refl, ap, ◌∙◌, ap₂, inl, inr, append-nil, arith, length-drop, take_all, lt-ltb, le-leb}
use mathlib.Core.List.{map-append}
use lib.ListN.{length-map, length-replicate}
use lib.Seq.{paste, take-length}
use Rattle.laws.proofs.Tests.{less_or, cond_both}
use Rattle.ring.specs.Ring.{place_of, queued, whole}
use Rattle.ring.proofs.Queued.{queued-length, queued-take, queued-drop, pasted}
use Rattle.std.proofs.lemmas.List.{take-replicate}
use Rattle.ring.proofs.Copying.{place_is}
use Rattle.rules.specs.Table as model
use Rattle.rules.specs.Inbox.{nothing, is_nil, all_items, append, group, up_to, moved, nearer, rest}
use Rattle.inbox.specs.View.{dist, count, bytes_of, items_in, distances, groups_of, view, front, nearest}
use Rattle.inbox.specs.Well.{rises, Well}
use Rattle.inbox.specs.Promise.{come_on, move_on}
use Rattle.inbox.specs.declared.Inbox.{Inbox}
use Rattle.inbox.proofs.Offsets.{dist_come, dist_gone}
use Rattle.inbox.proofs.Groups.{items_all, groups_more, group_is, others_are, up_to-is, groups_nearer, rises_parts}

-- ── Lengths ──

pub length-bytes : (ring : List ℕ) (q : Inbox) → q.head < length ring → count q ≤ length ring → length (bytes_of ring q) ≡ count q
unfolding bytes_of
length-bytes ring q hh hn = queued-length ring q.head hh (count q) hn

pub length-items : (tokens : List ℕ) (q : Inbox) → length tokens ≡ 256 → q.first < 256 → q.items ≤ 256 → length (items_in tokens q) ≡ q.items
unfolding items_in
length-items tokens q l hf hi = queued-length tokens q.first (omega arith) q.items (omega arith)

pub length-distances : (places : List ℕ) (q : Inbox) → length places ≡ 256 → q.first < 256 → q.items ≤ 256 → length (distances q places) ≡ q.items
unfolding distances
length-distances places q l hf hi = length-map (queued places q.first q.items) (λ p. dist p q.read_total) ∙ queued-length places q.first (omega arith) q.items (omega arith)

-- ── push ──

map-replicate : (f : ℕ → ℕ) (m x : ℕ) → map f (replicate m x) ≡ replicate m (f x)
map-replicate f zero x = refl
map-replicate f (suc m) x = ap (λ (r : List ℕ). f x ∷ r) (map-replicate f m x)

pub take-least : (n : ℕ) (l : List ℕ) → take (min n (length l)) l ≡ take n l
take-least n l = by_length (less_or n (length l))
  where
    by_length : (n < length l) ⊎ (length l ≤ n) → take (min n (length l)) l ≡ take n l
    by_length (inl h) = let e : min n (length l) ≡ n = omega arith in ap (λ (k : ℕ). take k l) e
    by_length (inr h) = let e : min n (length l) ≡ length l = omega arith in ap (λ (k : ℕ). take k l) e ∙ take-length l ∙ sym (take_all n l h)

module _ (q : Inbox) (k m : ℕ) where
  pub come_bytes : (ring ring' buf : List ℕ) → q.head < length ring → count q ≤ length ring → length ring ≤ 65536 → length ring' ≡ length ring
      → k ≡ min (length ring - count q) (length buf) → whole ring' q.head ≡ paste (whole ring q.head) (count q) buf k
      → bytes_of ring' (come_on q k m) ≡ bytes_of ring q ++ take (length ring - count q) buf
  unfolding bytes_of
  come_bytes ring ring' buf hh hn big l ek e =
      ap (queued ring' q.head) (dist_come q.written_total q.read_total k (omega arith))
      ∙ pasted ring ring' buf q.head (count q) k l hh (omega arith) (omega arith) e
      ∙ ap (λ (x : List ℕ). queued ring q.head (count q) ++ x) (ap (λ (x : ℕ). take x buf) ek ∙ take-least (length ring - count q) buf)

  pub come_items : (tokens tokens' items : List ℕ) → length tokens ≡ 256 → length tokens' ≡ 256 → q.first < 256 → q.items + m ≤ 256 → m ≡ length items
      → whole tokens' q.first ≡ paste (whole tokens q.first) q.items items m
      → items_in tokens' (come_on q k m) ≡ items_in tokens q ++ items
  unfolding items_in
  come_items tokens tokens' items l l' hf hi em e =
      pasted tokens tokens' items q.first q.items m (omega arith) (omega arith) (omega arith) (omega arith) e
      ∙ ap (λ (x : List ℕ). queued tokens q.first q.items ++ x) (ap (λ (x : ℕ). take x items) em ∙ take-length items)

  pub come_distances : (places places' : List ℕ) → length places ≡ 256 → length places' ≡ 256 → q.first < 256 → q.items + m ≤ 256
      → whole places' q.first ≡ paste (whole places q.first) q.items (replicate m q.written_total) m
      → distances (come_on q k m) places' ≡ distances q places ++ replicate m (count q)
  unfolding distances
  come_distances places places' l l' hf hi e =
      let f : ℕ → ℕ = λ p. dist p q.read_total in
      ap (map f) (pasted places places' (replicate m q.written_total) q.first q.items m (omega arith) (omega arith) (omega arith) (omega (arith, length-replicate m q.written_total)) e)
      ∙ map-append f (queued places q.first q.items) (take m (replicate m q.written_total))
      ∙ ap (λ (x : List ℕ). map f (queued places q.first q.items) ++ x)
      (ap (map f) (take-replicate m m q.written_total (omega arith)) ∙ map-replicate f m q.written_total)

pub push_shows : (ring ring' places places' tokens tokens' buf items : List ℕ) (q : Inbox) (k : ℕ) → Well (length ring) places q → length ring ≤ 65536
    → length ring' ≡ length ring → length places ≡ 256 → length places' ≡ 256 → length tokens ≡ 256 → length tokens' ≡ 256 → q.items + length items ≤ 256
    → k ≡ min (length ring - count q) (length buf) → whole ring' q.head ≡ paste (whole ring q.head) (count q) buf k
    → whole places' q.first ≡ paste (whole places q.first) q.items (replicate (length items) q.written_total) (length items)
    → whole tokens' q.first ≡ paste (whole tokens q.first) q.items items (length items)
    → view ring' places' tokens' (come_on q k (length items)) ≡ append (view ring places tokens q) (take (length ring - count q) buf) items
unfolding append is_nil
push_shows ring ring' places places' tokens tokens' buf items q k w big lr lp lp' lt lt' hi ek er ep et =
    ap₂ (λ (b : List ℕ) (g : List model.Group). record { bytes = b; groups = g })
    (come_bytes q k (length items) ring ring' buf w.head_in w.fits big lr ek er)
    (ap₂ groups_of (come_distances q k (length items) places places' lp lp' w.first_in hi ep) (come_items q k (length items) tokens tokens' items lt lt' w.first_in hi refl et)
    ∙ more items)
  where
    ds : List ℕ
    ds = distances q places

    ts : List ℕ
    ts = items_in tokens q

    same : length ds ≡ length ts
    same = length-distances places q lp w.first_in w.items-in ∙ sym (length-items tokens q lt w.first_in w.items-in)

    more : (its : List ℕ) → groups_of (ds ++ replicate (length its) (count q)) (ts ++ its)
        ≡ groups_of ds ts ++ cond (is_nil its) [] (record { place = length (bytes_of ring q); items = its } ∷ [])
    more [] = ap₂ groups_of (append-nil ds) (append-nil ts) ∙ sym (append-nil (groups_of ds ts))
    more (i ∷ its) =
        groups_more 0 (count q) ds ts i its same w.rising
        ∙ ap (λ (n : ℕ). groups_of ds ts ++ record { place = n; items = i ∷ its } ∷ []) (sym (length-bytes ring q w.head_in w.fits))

-- ── take ──

map-drop : (f : ℕ → ℕ) (g : ℕ) (l : List ℕ) → map f (drop g l) ≡ drop g (map f l)
map-drop f zero l = refl
map-drop f (suc g) [] = refl
map-drop f (suc g) (x ∷ l) = map-drop f g l

-- what is left rises from its own first on
rises-drop : (x low n g : ℕ) (ds : List ℕ) → rises low n ds ≡ true → rises (nearest x (drop g ds)) n (drop g ds) ≡ true
unfolding rises nearest
rises-drop x low n zero [] r = refl
rises-drop x low n zero (d ∷ ds) r = let p = rises_parts low n d ds r in rw (le-leb d d (omega arith), lt-ltb d n p.1) p.2
rises-drop x low n (suc g) [] r = refl
rises-drop x low n (suc g) (d ∷ ds) r = rises-drop x d n g ds (rises_parts low n d ds r).2

nearest_le : (low n : ℕ) (ds : List ℕ) → rises low n ds ≡ true → nearest n ds ≤ n
unfolding nearest
nearest_le low n [] r = omega arith
nearest_le low n (d ∷ ds) r = let p = rises_parts low n d ds r in omega arith

distances_nearer : (r k low n : ℕ) (ps : List ℕ) → k ≤ low → rises low n (map (λ p. dist p r) ps) ≡ true
    → map (λ p. dist p ((r + k) % 2 ^ 64)) ps ≡ map (λ d. d - k) (map (λ p. dist p r) ps)
distances_nearer r k low n [] h u = refl
distances_nearer r k low n (p ∷ ps) h u =
    let x = rises_parts low n (dist p r) (map (λ p. dist p r) ps) u in
    ap₂ (λ (d : ℕ) (ds : List ℕ). d ∷ ds) (dist_gone p r k (omega arith)) (distances_nearer r k (dist p r) n ps (omega arith) x.2)

module _ (q : Inbox) (k g : ℕ) where
  pub gone_bytes : (ring : List ℕ) → q.head < length ring → count q ≤ length ring → k ≤ count q → bytes_of ring (move_on (length ring) q k g) ≡ drop k (bytes_of ring q)
  unfolding bytes_of
  gone_bytes ring hh hn hk =
      let p = place_of (length ring) (q.head + k) in
      ap (queued ring p) (dist_gone q.written_total q.read_total k hk)
      ∙ sym (queued-drop ring q.head k (count q) p hh hk hn (place_is (length ring) (q.head + k) p refl))

  pub gone-items : (c : ℕ) (tokens : List ℕ) → length tokens ≡ 256 → q.first < 256 → q.items ≤ 256 → g ≤ q.items → items_in tokens (move_on c q k g) ≡ drop g (items_in tokens q)
  unfolding items_in
  gone-items c tokens l hf hi hg =
      let p = place_of 256 (q.first + g) in
      sym (queued-drop tokens q.first g q.items p (omega arith) hg (omega arith) (rw l (place_is 256 (q.first + g) p refl)))

  pub gone_distances : (c low n : ℕ) (places : List ℕ) → length places ≡ 256 → q.first < 256 → q.items ≤ 256 → g ≤ q.items → k ≤ low → rises low n (drop g (distances q places)) ≡ true
      → distances (move_on c q k g) places ≡ map (λ d. d - k) (drop g (distances q places))
  unfolding distances
  gone_distances c low n places l hf hi hg hk r =
      let p = place_of 256 (q.first + g) in
      let ps = queued places q.first q.items in
      let e : queued places p (q.items - g) ≡ drop g ps = sym (queued-drop places q.first g q.items p (omega arith) hg (omega arith) (rw l (place_is 256 (q.first + g) p refl))) in
      let m : map (λ x. dist x q.read_total) (drop g ps) ≡ drop g (map (λ x. dist x q.read_total) ps) = map-drop (λ x. dist x q.read_total) g ps in
      ap (map (λ x. dist x ((q.read_total + k) % 2 ^ 64))) e
      ∙ distances_nearer q.read_total k low n (drop g ps) hk (ap (rises low n) m ∙ r)
      ∙ ap (map (λ (d : ℕ). d - k)) m

pub reach_le : (places : List ℕ) (q : Inbox) (g : ℕ) → rises 0 (count q) (distances q places) ≡ true → nearest (count q) (drop g (distances q places)) ≤ count q
reach_le places q g r = nearest_le (nearest 0 (drop g (distances q places))) (count q) (drop g (distances q places)) (rises-drop 0 0 (count q) g (distances q places) r)

pub bytes_first : (ring : List ℕ) (q : Inbox) (k : ℕ) → q.head < length ring → k ≤ count q → take k (bytes_of ring q) ≡ queued ring q.head k
unfolding bytes_of
bytes_first ring q k hh hk = queued-take ring q.head hh k (count q) hk

-- how much a take into room for n moves, where g are at the first byte
pub moved_is : (ring places tokens : List ℕ) (q : Inbox) (n g : ℕ) → Well (length ring) places q → length places ≡ 256 → length tokens ≡ 256 → g ≡ front (distances q places)
    → moved (view ring places tokens q) n ≡ min n (nearest (count q) (drop g (distances q places)))
unfolding moved
moved_is ring places tokens q n g w lp lt eg =
    let ds = distances q places in
    let ts = items_in tokens q in
    let same : length ds ≡ length ts = length-distances places q lp w.first_in w.items-in ∙ sym (length-items tokens q lt w.first_in w.items-in) in
    let left : length (drop g ds) ≡ length (drop g ts) = length-drop g ds ∙ ap (λ (x : ℕ). x - g) same ∙ sym (length-drop g ts) in
    let near : nearest (count q) (drop g ds) ≤ count q = reach_le places q g w.rising in
    let lb : length (bytes_of ring q) ≡ count q = length-bytes ring q w.head_in w.fits in
    ap₂ up_to (others_are ds ts same ∙ ap (λ (x : ℕ). groups_of (drop x ds) (drop x ts)) (sym eg)) (ap (min n) lb)
    ∙ up_to-is (drop g ds) (drop g ts) (min n (count q)) (count q) left (omega arith)
    ∙ omega arith

pub taken_le : (ring places tokens : List ℕ) (q : Inbox) (n k : ℕ) → Well (length ring) places q → length places ≡ 256 → length tokens ≡ 256 → k ≡ moved (view ring places tokens q) n → k ≤ count q
taken_le ring places tokens q n k w lp lt e =
    let m = moved_is ring places tokens q n (front (distances q places)) w lp lt refl in
    let z = reach_le places q (front (distances q places)) w.rising in
    omega arith

pub take-shows : (ring places tokens : List ℕ) (q : Inbox) (k g : ℕ) → Well (length ring) places q → length places ≡ 256 → length tokens ≡ 256
    → g ≡ front (distances q places) → g ≤ q.items → k ≤ nearest (count q) (drop g (distances q places))
    → view ring places tokens (move_on (length ring) q k g) ≡ rest (view ring places tokens q) k
unfolding rest
take-shows ring places tokens q k g w lp lt eg hg hk =
    let ds = distances q places in
    let ts = items_in tokens q in
    let same : length ds ≡ length ts = length-distances places q lp w.first_in w.items-in ∙ sym (length-items tokens q lt w.first_in w.items-in) in
    let low = nearest (count q) (drop g ds) in
    let up : rises low (count q) (drop g ds) ≡ true = rises-drop (count q) 0 (count q) g ds w.rising in
    let near : low ≤ count q = reach_le places q g w.rising in
    ap₂ (λ (b : List ℕ) (gs : List model.Group). record { bytes = b; groups = gs })
    (gone_bytes q k g ring w.head_in w.fits (omega arith))
    (ap₂ groups_of (gone_distances q k g (length ring) low (count q) places lp w.first_in w.items-in hg hk up) (gone-items q k g (length ring) tokens lt w.first_in w.items-in hg)
    ∙ sym (groups_nearer k low (count q) (drop g ds) (drop g ts) hk up)
    ∙ ap (map (nearer k)) (sym (others_are ds ts same ∙ ap (λ (x : ℕ). groups_of (drop x ds) (drop x ts)) (sym eg))))

-- the group that a take removes
pub taken_group : (places tokens : List ℕ) (q : Inbox) (g : ℕ) → q.first < 256 → q.items ≤ 256 → length places ≡ 256 → length tokens ≡ 256 → g ≡ front (distances q places)
    → g ≤ q.items → group (groups_of (distances q places) (items_in tokens q)) ≡ queued tokens q.first g
unfolding items_in
taken_group places tokens q g hf hi lp lt eg hg =
    group_is (distances q places) (items_in tokens q) (length-distances places q lp hf hi ∙ sym (length-items tokens q lt hf hi))
    ∙ ap (λ (x : ℕ). take x (queued tokens q.first q.items)) (sym eg)
    ∙ queued-take tokens q.first (omega arith) g q.items hg

-- no more than there are
front_le : (ds : List ℕ) → front ds ≤ length ds
unfolding front
front_le [] = omega arith
front_le (d ∷ ds) = let z = front_le ds in cond_both (λ (k : ℕ). k ≤ suc (length ds)) (eqb d 0) (λ _. omega arith) (λ _. omega arith)

pub group_le : (places tokens : List ℕ) (q : Inbox) → q.first < 256 → q.items ≤ 256 → length places ≡ 256 → length tokens ≡ 256 → length (group (groups_of (distances q places) (items_in tokens q))) ≤ q.items
group_le places tokens q hf hi lp lt =
    let g = front (distances q places) in
    let z : g ≤ q.items = omega (arith, front_le (distances q places), length-distances places q lp hf hi) in
    rw (taken_group places tokens q g hf hi lp lt refl z, queued-length tokens q.first (omega arith) g (omega arith)) z

-- ── discard ──

pub no_distances : (q : Inbox) (places : List ℕ) → q.items ≡ 0 → distances q places ≡ []
unfolding distances queued
no_distances q places e = ap (λ (n : ℕ). map (λ p. dist p q.read_total) (queued places q.first n)) e

no_bytes : (q : Inbox) (ring : List ℕ) → count q ≡ 0 → bytes_of ring q ≡ []
unfolding bytes_of queued
no_bytes q ring e = ap (queued ring q.head) e

pub discard_shows : (c : ℕ) (ring places tokens : List ℕ) (q : Inbox) → view ring places tokens (move_on c q (count q) q.items) ≡ nothing
unfolding groups_of
discard_shows c ring places tokens q =
    let u : Inbox = move_on c q (count q) q.items in
    let e : count u ≡ 0 = dist_gone q.written_total q.read_total (count q) (omega arith) ∙ omega arith in
    ap₂ (λ (b : List ℕ) (gs : List model.Group). record { bytes = b; groups = gs })
    (no_bytes u ring e)
    (ap (λ (ds : List ℕ). groups_of ds (items_in tokens u)) (no_distances u places (omega arith)))

pub items_are_all : (places tokens : List ℕ) (q : Inbox) → length places ≡ 256 → length tokens ≡ 256 → q.first < 256 → q.items ≤ 256
    → all_items (groups_of (distances q places) (items_in tokens q)) ≡ items_in tokens q
items_are_all places tokens q lp lt hf hi =
    items_all (distances q places) (items_in tokens q) (omega (arith, length-distances places q lp hf hi, length-items tokens q lt hf hi))
