-- The entries of the two item rings are the groups of rules/specs/Inbox.
use Rattle.std.proofs.Common.{◌≡◌, ℕ, suc, ◌-◌, ◌<◌, ◌≤◌, min, true, false, eqb, ltb, leb, ◌≢◌, List, [], ◌∷◌, ◌++◌, map, length, take, drop, replicate, sym, refl, ap, ◌∙◌, subst, not-suc-le-zero, arith, ltb-true, lt-ltb, eq-eqb, ne_eqb, eqb-true, le-leb, leb-true}
use native.Mathlib.Decide.{dec_lt, ℕ_discrete as dec_eq}
use borrow.Author.Tests.{eqb-false}
use Rattle.laws.proofs.Tests.{cond_both, and_three}
use Rattle.rules.specs.Table.{Group}
use Rattle.rules.specs.Inbox.{is_nil, all_items, group, others, up_to, nearer}
use Rattle.rules.proofs.InboxOk.{Rising}
use Rattle.inbox.specs.View.{join, groups_of, front, nearest}
use Rattle.inbox.specs.Well.{rises}

abbrev at : ℕ → List ℕ → Group
at d its = record { place = d; items = its }

never : (n : ℕ) → 0 ≢ suc n
never n e = omega arith

pub rises_parts : (low n d : ℕ) (ds : List ℕ) → rises low n (d ∷ ds) ≡ true → (low ≤ d) × (d < n) × (rises d n ds ≡ true)
unfolding rises
rises_parts low n d ds r = let p = and_three (leb low d) (ltb d n) (rises d n ds) r in (leb-true low d p.0, ltb-true d n p.1, p.2)

-- ── All items ──

items_join : (d t : ℕ) (gs : List Group) → all_items (join d t gs) ≡ t ∷ all_items gs
unfolding join all_items
items_join d t [] = refl
items_join d t (g ∷ gs) = cond_both (λ r. all_items r ≡ t ∷ all_items (g ∷ gs)) (eqb g.place d) (λ _. refl) (λ _. refl)

pub items_all : (ds ts : List ℕ) → length ts ≤ length ds → all_items (groups_of ds ts) ≡ ts
unfolding groups_of all_items
items_all [] [] e = refl
items_all [] (t ∷ ts) e = absurd (not-suc-le-zero e)
items_all (d ∷ ds) [] e = refl
items_all (d ∷ ds) (t ∷ ts) e = items_join d t (groups_of ds ts) ∙ ap (λ (r : List ℕ). t ∷ r) (items_all ds ts (omega arith))

-- ── A push: one more group, at n, where all others lie below n ──

join_last : (d t n : ℕ) (its : List ℕ) (gs : List Group) → d < n → join d t (gs ++ at n its ∷ []) ≡ join d t gs ++ at n its ∷ []
unfolding join
join_last d t n its [] h = rw (ne_eqb n d (λ e. omega arith))
join_last d t n its (g ∷ gs) h = cond_both (λ r. r ≡ join d t (g ∷ gs) ++ at n its ∷ []) (eqb g.place d) (λ e. rw e) (λ e. rw e)

one_group : (n i : ℕ) (its : List ℕ) → groups_of (replicate (suc (length its)) n) (i ∷ its) ≡ at n (i ∷ its) ∷ []
unfolding groups_of join
one_group n i [] = refl
one_group n i (x ∷ its) = ap (join n i) (one_group n x its) ∙ rw (eq-eqb n n refl)

pub groups_more : (low n : ℕ) (ds ts : List ℕ) (i : ℕ) (its : List ℕ) → length ds ≡ length ts → rises low n ds ≡ true
    → groups_of (ds ++ replicate (suc (length its)) n) (ts ++ i ∷ its) ≡ groups_of ds ts ++ at n (i ∷ its) ∷ []
unfolding groups_of rises
groups_more low n [] [] i its e r = one_group n i its
groups_more low n [] (t ∷ ts) i its e r = absurd (never (length ts) e)
groups_more low n (d ∷ ds) [] i its e r = absurd (never (length ds) (sym e))
groups_more low n (d ∷ ds) (t ∷ ts) i its e r =
    let p = rises_parts low n d ds r in
    ap (join d t) (groups_more d n ds ts i its (omega arith) p.2) ∙ join_last d t n (i ∷ its) (groups_of ds ts) p.1

-- ── A take: the group at the first byte ──

front_group : (t : ℕ) (gs : List Group) → group (join 0 t gs) ≡ t ∷ group gs
unfolding join group
front_group t [] = refl
front_group t (g ∷ gs) = cond_both (λ r. group r ≡ t ∷ group (g ∷ gs)) (eqb g.place 0) (λ e. rw e) (λ e. rw e)

front_others : (t : ℕ) (gs : List Group) → others (join 0 t gs) ≡ others gs
unfolding join others
front_others t [] = refl
front_others t (g ∷ gs) = cond_both (λ r. others r ≡ others (g ∷ gs)) (eqb g.place 0) (λ e. rw e) (λ e. rw e)

behind_group : (d t : ℕ) (gs : List Group) → eqb d 0 ≡ false → group (join d t gs) ≡ []
unfolding join group
behind_group d t [] h = rw h
behind_group d t (g ∷ gs) h = cond_both (λ r. group r ≡ []) (eqb g.place d) (λ _. rw h) (λ _. rw h)

behind_others : (d t : ℕ) (gs : List Group) → eqb d 0 ≡ false → others (join d t gs) ≡ join d t gs
unfolding join others
behind_others d t [] h = rw h
behind_others d t (g ∷ gs) h = cond_both (λ r. others r ≡ r) (eqb g.place d) (λ _. rw h) (λ _. rw h)

pub group_is : (ds ts : List ℕ) → length ds ≡ length ts → group (groups_of ds ts) ≡ take (front ds) ts
unfolding groups_of front group
group_is [] ts e = refl
group_is (d ∷ ds) [] e = absurd (never (length ds) (sym e))
group_is (d ∷ ds) (t ∷ ts) e =
    cond_both (λ (k : ℕ). group (join d t (groups_of ds ts)) ≡ take k (t ∷ ts)) (eqb d 0)
    (λ z.
    let zd : d ≡ 0 = eqb-true d 0 z in
    ap (λ (x : ℕ). group (join x t (groups_of ds ts))) zd ∙ front_group t (groups_of ds ts) ∙ ap (λ (r : List ℕ). t ∷ r) (group_is ds ts (omega arith)))
    (λ z. behind_group d t (groups_of ds ts) z)

pub others_are : (ds ts : List ℕ) → length ds ≡ length ts → others (groups_of ds ts) ≡ groups_of (drop (front ds) ds) (drop (front ds) ts)
unfolding groups_of front others
others_are [] ts e = refl
others_are (d ∷ ds) [] e = absurd (never (length ds) (sym e))
others_are (d ∷ ds) (t ∷ ts) e =
    cond_both (λ (k : ℕ). others (join d t (groups_of ds ts)) ≡ groups_of (drop k (d ∷ ds)) (drop k (t ∷ ts))) (eqb d 0)
    (λ z. let zd : d ≡ 0 = eqb-true d 0 z in ap (λ (x : ℕ). others (join x t (groups_of ds ts))) zd ∙ front_others t (groups_of ds ts) ∙ others_are ds ts (omega arith))
    (λ z. behind_others d t (groups_of ds ts) z)

-- ── The distance to the next group ──

up_to-join : (d t n : ℕ) (gs : List Group) → up_to (join d t gs) n ≡ min n d
unfolding join up_to
up_to-join d t n [] = refl
up_to-join d t n (g ∷ gs) = cond_both (λ r. up_to r n ≡ min n d) (eqb g.place d) (λ _. refl) (λ _. refl)

pub up_to-is : (ds ts : List ℕ) (n m : ℕ) → length ds ≡ length ts → n ≤ m → up_to (groups_of ds ts) n ≡ min n (nearest m ds)
unfolding groups_of nearest up_to
up_to-is [] ts n m e h = omega arith
up_to-is (d ∷ ds) [] n m e h = absurd (never (length ds) (sym e))
up_to-is (d ∷ ds) (t ∷ ts) n m e h = up_to-join d t n (groups_of ds ts)

-- ── k bytes have gone: each group is k nearer ──

abbrev From : ℕ → List Group → Type 0
From k [] = Unit {0}
From k (g ∷ gs) = k ≤ g.place

join_from : (k d t : ℕ) (gs : List Group) → k ≤ d → From k (join d t gs)
unfolding join
join_from k d t [] h = h
join_from k d t (g ∷ gs) h = cond_both (λ r. From k r) (eqb g.place d) (λ _. h) (λ _. h)

same_shift : (a b k : ℕ) → k ≤ a → k ≤ b → eqb (a - k) (b - k) ≡ eqb a b
same_shift a b k ha hb =
    elim (dec_eq a b) [
      | yes e ↦ let z : a - k ≡ b - k = omega arith in eq-eqb (a - k) (b - k) z ∙ sym (eq-eqb a b e)
      | no ne ↦ ne_eqb (a - k) (b - k) (λ z. ne (omega arith)) ∙ sym (ne_eqb a b ne)
    ]

shift_join : (k d t : ℕ) (gs : List Group) → k ≤ d → From k gs → map (nearer k) (join d t gs) ≡ join (d - k) t (map (nearer k) gs)
unfolding join nearer
shift_join k d t [] h f = refl
shift_join k d t (g ∷ gs) h f =
    cond_both (λ r. map (nearer k) r ≡ join (d - k) t (map (nearer k) (g ∷ gs))) (eqb g.place d)
    (λ e. rw (same_shift g.place d k f h, e))
    (λ e. rw (same_shift g.place d k f h, e))

groups_from : (k low n : ℕ) (ds ts : List ℕ) → k ≤ low → rises low n ds ≡ true → From k (groups_of ds ts)
unfolding groups_of rises
groups_from k low n [] ts h r = tt
groups_from k low n (d ∷ ds) [] h r = tt
groups_from k low n (d ∷ ds) (t ∷ ts) h r = let p = rises_parts low n d ds r in join_from k d t (groups_of ds ts) (omega arith)

pub groups_nearer : (k low n : ℕ) (ds ts : List ℕ) → k ≤ low → rises low n ds ≡ true → map (nearer k) (groups_of ds ts) ≡ groups_of (map (λ d. d - k) ds) ts
unfolding groups_of rises
groups_nearer k low n [] ts h r = refl
groups_nearer k low n (d ∷ ds) [] h r = refl
groups_nearer k low n (d ∷ ds) (t ∷ ts) h r =
    let p = rises_parts low n d ds r in
    shift_join k d t (groups_of ds ts) (omega arith) (groups_from k d n ds ts (omega arith) p.2)
    ∙ ap (join (d - k) t) (groups_nearer k d n ds ts (omega arith) p.2)

-- ── Rising, both ways ──

apart : (a b : ℕ) → b ≤ a → (a ≡ b → ⊥) → suc b ≤ a
apart a b h ne = elim (dec_lt b a) [ yes p ↦ p | no q ↦ absurd (ne (omega arith)) ]

rising_join : (low n d t : ℕ) (gs : List Group) → low ≤ d → d < n → Rising d n gs → Rising low n (join d t gs)
unfolding join is_nil
rising_join low n d t [] l u r = (l, u, refl, tt)
rising_join low n d t (g ∷ gs) l u r =
    cond_both (λ x. Rising low n x) (eqb g.place d)
    (λ e. (l, u, refl, subst (λ (x : ℕ). Rising (suc x) n gs) (eqb-true g.place d e) r.3))
    (λ e. (l, u, refl, (apart g.place d r.0 (eqb-false g.place d e), r.1, r.2, r.3)))

pub rising : (low n : ℕ) (ds ts : List ℕ) → rises low n ds ≡ true → Rising low n (groups_of ds ts)
unfolding groups_of rises
rising low n [] ts r = tt
rising low n (d ∷ ds) [] r = tt
rising low n (d ∷ ds) (t ∷ ts) r =
    let p = rises_parts low n d ds r in
    rising_join low n d t (groups_of ds ts) p.0 p.1 (rising d n ds ts p.2)

-- the places alone
abbrev Places : ℕ → ℕ → List Group → Type 0
Places low n [] = Unit {0}
Places low n (g ∷ gs) = (low ≤ g.place) × (g.place < n) × Places (suc g.place) n gs

places : (low n : ℕ) (gs : List Group) → Rising low n gs → Places low n gs
places low n [] r = tt
places low n (g ∷ gs) r = (r.0, r.1, places (suc g.place) n gs r.3)

lower : (low low' n : ℕ) (gs : List Group) → low' ≤ low → Places low n gs → Places low' n gs
lower low low' n [] l r = tt
lower low low' n (g ∷ gs) l r = (let z = r.0 in omega arith, r.1, r.2)

place_parts : (low n d t : ℕ) (gs : List Group) → Places low n (join d t gs) → (low ≤ d) × (d < n) × Places d n gs
unfolding join
place_parts low n d t [] = λ r. (r.0, r.1, tt)
place_parts low n d t (g ∷ gs) =
    cond_both (λ x. Places low n x → (low ≤ d) × (d < n) × Places d n (g ∷ gs)) (eqb g.place d)
    (λ e r.
    let z : g.place ≡ d = eqb-true g.place d e in
    let u = r.1 in
    (r.0, r.1, (omega arith, omega arith, subst (λ (x : ℕ). Places (suc x) n gs) (sym z) r.2)))
    (λ e r. (r.0, r.1, lower (suc d) d n (g ∷ gs) (omega arith) r.2))

place_rises : (low n : ℕ) (ds ts : List ℕ) → length ds ≡ length ts → Places low n (groups_of ds ts) → rises low n ds ≡ true
unfolding groups_of rises
place_rises low n [] ts e r = refl
place_rises low n (d ∷ ds) [] e r = absurd (never (length ds) (sym e))
place_rises low n (d ∷ ds) (t ∷ ts) e r =
    let p = place_parts low n d t (groups_of ds ts) r in
    rw (le-leb low d p.0, lt-ltb d n p.1) (place_rises d n ds ts (omega arith) p.2)

pub rises_if : (low n : ℕ) (ds ts : List ℕ) → length ds ≡ length ts → Rising low n (groups_of ds ts) → rises low n ds ≡ true
rises_if low n ds ts e r = place_rises low n ds ts e (places low n (groups_of ds ts) r)
