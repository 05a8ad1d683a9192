-- At most C bytes queued; item groups non-empty, at strictly rising places inside the queued bytes, at most 256 items together: kept by
-- a write and by a read.
use mathlib.Core.Path.{◌≡◌, refl, subst, sym, ap, ◌∙◌}
use Prim.Native.Nat.{ℕ, suc, ◌+◌, ◌-◌, ◌≤◌, ◌<◌, min}
use native.Mathlib.Omega.{arith}
use mathlib.Core.Bool.{Bool, true, false, not, ◌&&◌, true≢false}
use mathlib.Core.List.{List, [], ◌∷◌, ◌++◌, map, append-nil, append_assoc}
use lib.ListN.{length, take, length-append, length-take, length-drop}
use lib.Dec.{ltb, eqb}
use borrow.Author.Tests.{ltb-false}
use Rattle.laws.proofs.Tests.{cond_both}
use Rattle.rules.proofs.Model.{Group, Inbox, is_nil, all_items, append, others, up_to, moved, nearer, rest}

-- places from `low` on and below `len`, rising, and no group empty
abbrev pub Rising : ℕ → ℕ → List Group → Type 0
Rising low len [] = Unit {0}
Rising low len (m ∷ ms) = (low ≤ m.place) × (m.place < len) × (is_nil m.items ≡ false) × Rising (suc m.place) len ms

pub record InboxOk (c : ℕ) (b : Inbox) : Type 0 where
  pub fits : length b.bytes ≤ c
  pub rising : Rising 0 (length b.bytes) b.groups
  pub few : length (all_items b.groups) ≤ 256

-- ── write ──

wider : (low len len' : ℕ) (ms : List Group) → len ≤ len' → Rising low len ms → Rising low len' ms
wider low len len' [] l r = tt
wider low len len' (m ∷ ms) l r = (r.0, omega arith, r.2, wider (suc m.place) len len' ms l r.3)

snoc : (low len len' : ℕ) (ms : List Group) (its : List ℕ) → low ≤ len → len < len' → is_nil its ≡ false → Rising low len ms → Rising low len' (ms ++ record { place = len; items = its } ∷ [])
snoc low len len' [] its a l n r = (a, l, n, tt)
snoc low len len' (m ∷ ms) its a l n r = (r.0, omega arith, r.2, snoc (suc m.place) len len' ms its r.1 l n r.3)

pub items-append : (ms ns : List Group) → all_items (ms ++ ns) ≡ all_items ms ++ all_items ns
unfolding all_items
items-append [] ns = refl
items-append (m ∷ ms) ns = ap (λ (l : List ℕ). m.items ++ l) (items-append ms ns) ∙ sym (append_assoc m.items (all_items ms) (all_items ns))

pub nil-length : (xs : List ℕ) → is_nil xs ≡ false → 1 ≤ length xs
unfolding is_nil
nil-length [] e = absurd (true≢false e)
nil-length (x ∷ xs) e = omega arith

pub append-ok : (c : ℕ) (b : Inbox) (new its : List ℕ) → length b.bytes < c → (not (is_nil its) && is_nil new) ≡ false
    → (not (is_nil its) && ltb 256 (length (all_items b.groups) + length its)) ≡ false → InboxOk c b → InboxOk c (append b (take (c - length b.bytes) new) its)
unfolding append all_items
append-ok c b new its l f g ok = go (is_nil its) refl
  where
    len : length (b.bytes ++ take (c - length b.bytes) new) ≡ length b.bytes + min (c - length b.bytes) (length new)
    len = simp (length-append, length-take)

    go : (z : Bool) → is_nil its ≡ z → InboxOk c (append b (take (c - length b.bytes) new) its)
    go true e =
        record {
          fits = rw len (omega (arith, ok.fits));
          rising = rw (e, append-nil b.groups) (wider 0 _ _ b.groups (rw len (omega arith)) ok.rising);
          few = rw (e, append-nil b.groups) ok.few;
        }
    go false e =
        let some_byte : 1 ≤ length new = nil-length new (rw e at f) in
        let count : length (all_items b.groups) + length its ≤ 256 = ltb-false _ _ (rw e at g) in
        record {
          fits = rw len (omega (arith, ok.fits));
          rising = rw e (snoc 0 (length b.bytes) _ b.groups its (omega arith) (rw len (omega arith)) e ok.rising);
          few = rw (e, items-append) (simp length-append (omega arith));
        }

-- ── read ──

shift : (low len k : ℕ) (ms : List Group) → k ≤ low → Rising low len ms → Rising (low - k) (len - k) (map (nearer k) ms)
unfolding nearer
shift low len k [] l r = tt
shift low len k (m ∷ ms) l r =
    let a = r.0 in
    let b = r.1 in
    let e : suc m.place - k ≡ suc (m.place - k) = omega arith in
    (omega arith, omega arith, r.2, subst (λ z. Rising z (len - k) (map (nearer k) ms)) e (shift (suc m.place) len k ms (omega arith) r.3))

shift_first : (low len k n : ℕ) (ms : List Group) → k ≡ up_to ms n → Rising low len ms → Rising 0 (len - k) (map (nearer k) ms)
unfolding up_to nearer
shift_first low len k n [] e r = tt
shift_first low len k n (m ∷ ms) e r =
    let b = r.1 in
    let z : suc m.place - k ≡ suc (m.place - k) = omega arith in
    (omega arith, omega arith, r.2, subst (λ z. Rising z (len - k) (map (nearer k) ms)) z (shift (suc m.place) len k ms (omega arith) r.3))

pub up_to-le : (ms : List Group) (n : ℕ) → up_to ms n ≤ n
unfolding up_to
up_to-le [] n = omega arith
up_to-le (m ∷ ms) n = omega arith

others_rising : (len : ℕ) (ms : List Group) → Rising 0 len ms → (low : ℕ) × Rising low len (others ms)
unfolding others
others_rising len [] r = (0, tt)
others_rising len (m ∷ ms) r = cond_both (λ o. (low : ℕ) × Rising low len o) (eqb m.place 0) (λ _. (suc m.place, r.3)) (λ _. (0, r))

others_few : (ms : List Group) → length (all_items (others ms)) ≤ length (all_items ms)
unfolding others all_items
others_few [] = omega arith
others_few (m ∷ ms) = cond_both (λ o. length (all_items o) ≤ length (m.items ++ all_items ms)) (eqb m.place 0) (λ _. simp length-append (omega arith)) (λ _. simp length-append (omega arith))

pub items_nearer : (k : ℕ) (ms : List Group) → all_items (map (nearer k) ms) ≡ all_items ms
unfolding all_items nearer
items_nearer k [] = refl
items_nearer k (m ∷ ms) = ap (λ (l : List ℕ). m.items ++ l) (items_nearer k ms)

pub rest_ok : (c : ℕ) (b : Inbox) (n : ℕ) → InboxOk c b → InboxOk c (rest b (moved b n))
unfolding rest moved
rest_ok c b n ok =
    let k : ℕ = moved b n in
    let r = others_rising (length b.bytes) b.groups ok.rising in
    record {
      fits = rw length-drop (omega (arith, ok.fits));
      rising = rw length-drop (shift_first r.0 (length b.bytes) k (min n (length b.bytes)) (others b.groups) refl r.1);
      few = rw items_nearer (omega (arith, others_few b.groups, ok.few));
    }
