-- The turns of the straight runs, and the two ways in which a run of a ring comes out of it.
use mathlib.Core.Path.{◌≡◌, refl, sym, ap, ap₂, ◌∙◌}
use mathlib.Core.List.{List, [], ◌∷◌, ◌++◌, append_assoc, append-nil}
use Prim.Native.Nat.{ℕ, ◌+◌, ◌-◌, ◌<◌, ◌≤◌}
use native.Mathlib.Nat.{suc-ne-zero}
use native.Mathlib.Omega.{arith}
use borrow.Author.Tests.{lt-ltb, le-ltb}
use lib.ListN.{length, take, drop, get_or, replicate, length-drop, length-replicate, drop_of_length-le}
use lib.Seq.{paste, length-paste, length-take-le, take_all, take_at, take-append-le, take-append-add, drop-drop, ext_get_or}
use borrow.Rule.Slice.PartMut.{put_mid}
use Rattle.std.proofs.lemmas.List.{take-replicate, drop-replicate}
use Rattle.ring.specs.Ring.{place_of, queued, whole}
use Rattle.ring.proofs.Queued.{Place, by_order, place_in, some_of, get_or-queued}
use Rattle.ring.proofs.Runs.{one_run, two_runs}

-- ── Places ──

pub place_low : (c k : ℕ) → k < c → (k ≡ place_of c k) × (k < c)
unfolding place_of
place_low c k h = (rw (lt-ltb k c h), h)

pub place_high : (c k : ℕ) → c ≤ k → k < c + c → (k - c ≡ place_of c k) × (k - c < c)
unfolding place_of
place_high c k h l = (rw (le-ltb k c h), omega arith)

pub place_is : (c k p : ℕ) → p ≡ place_of c k → Place c k p
unfolding place_of
place_is c k p e = record { low = λ h. e ∙ rw (lt-ltb k c h); high = λ h. let z : p ≡ k - c = e ∙ rw (le-ltb k c h) in omega arith }

-- ── Into a ring ──

-- a run of a list, written over
written : {A : Type 0} (r x s : List A) (p k m : ℕ) → m ≡ k → x ≡ take k s → put_mid p m r x ≡ paste r p s k
written {A} r x s p k m e ex =
    ap₂ (λ (m : ℕ) (x : List A). put_mid p m r x) e ex
    ∙ sym (append_assoc (take p r) (take k s) (drop k (drop p r)))
    ∙ ap (λ (y : List A). take p r ++ take k s ++ y) (drop-drop k p r)

-- k of s, at most to the ring's end
pub in_one : {A : Type 0} (r x s : List A) (h n k p : ℕ) → p ≡ place_of (length r) (h + n) → h < length r → n + k ≤ length r → k ≤ length s → k ≤ length r - p
    → x ≡ take k s → whole (put_mid p (p + k - p) r x) h ≡ paste (whole r h) n s k
in_one {A} r x s h n k p ep hh hn hs hk ex =
    let pl = place_is (length r) (h + n) p ep in
    ap (λ (x : List A). whole x h) (written r x s p k (p + k - p) (omega arith) ex) ∙ one_run r s h n k p hh hn hs pl (omega (arith, place_in pl (omega arith)))

-- k of s: a of them to its end, and the others from its start
pub in_two : {A : Type 0} (r x y s : List A) (h n k p a : ℕ) → p ≡ place_of (length r) (h + n) → h < length r → n + k ≤ length r → k ≤ length s → a ≡ length r - p → a < k
    → x ≡ take a s → y ≡ take (k - a) (drop a s) → whole (y ++ drop (k - a) (put_mid p a r x)) h ≡ paste (whole r h) n s k
in_two {A} r x y s h n k p a ep hh hn hs ea ha ex ey =
    let pl = place_is (length r) (h + n) p ep in
    ap (λ (x : List A). whole x h) (written (put_mid p a r x) y (drop a s) 0 (k - a) (k - a) refl ey ∙ ap (λ (x : List A). paste x 0 (drop a s) (k - a)) (written r x s p a a refl ex))
    ∙ two_runs r s h n k p hh hn hs pl a (omega (arith, place_in pl (omega arith))) ha

-- a run of as many as lie in a part of a list
run_of : {A : Type 0} (l x : List A) (j k : ℕ) (v : A) → x ≡ replicate (length (take j l)) v → j ≤ length l → j ≤ k → x ≡ take j (replicate k v)
run_of l x j k v ex hl hk = ex ∙ ap (λ (m : ℕ). replicate m v) (length-take-le j l hl) ∙ sym (take-replicate j k v hk)

pub fill_one : {A : Type 0} (r x : List A) (h n k p : ℕ) (v : A) → p ≡ place_of (length r) (h + n) → h < length r → n + k ≤ length r → k ≤ length r - p
    → x ≡ replicate (length (take (p + k - p) (drop p r))) v → whole (put_mid p (p + k - p) r x) h ≡ paste (whole r h) n (replicate k v) k
fill_one r x h n k p v ep hh hn hk ex =
    let pl = place_in (place_is (length r) (h + n) p ep) (omega arith) in
    let m : p + k - p ≡ k = omega arith in
    in_one r x (replicate k v) h n k p ep hh hn (omega (arith, length-replicate k v)) hk
    (run_of (drop p r) x (p + k - p) k v ex (simp length-drop (omega arith)) (omega arith) ∙ ap (λ (j : ℕ). take j (replicate k v)) m)

pub fill_two : {A : Type 0} (r x y : List A) (h n k p a : ℕ) (v : A) → p ≡ place_of (length r) (h + n) → h < length r → n + k ≤ length r → a ≡ length r - p → a < k
    → x ≡ replicate (length (take a (drop p r))) v → y ≡ replicate (length (take (k - a) (put_mid p a r x))) v
    → whole (y ++ drop (k - a) (put_mid p a r x)) h ≡ paste (whole r h) n (replicate k v) k
fill_two r x y h n k p a v ep hh hn ea ha ex ey =
    let pl = place_in (place_is (length r) (h + n) p ep) (omega arith) in
    let s = replicate k v in
    let ls : length s ≡ k = length-replicate k v in
    let ex' : x ≡ take a s = run_of (drop p r) x a k v ex (simp length-drop (omega arith)) (omega arith) in
    let l : length (put_mid p a r x) ≡ length r = ap length (written r x s p a a refl ex') ∙ length-paste r p s a (omega arith) (omega arith) in
    in_two r x y s h n k p a ep hh hn (omega arith) ea ha ex'
    (run_of (put_mid p a r x) y (k - a) (k - a) v ey (omega arith) (omega arith) ∙ ap (take (k - a)) (sym (drop-replicate a k v)))

-- ── Out of a ring ──

-- nothing
pub out_none : {A : Type 0} (r b : List A) (h : ℕ) → length b ≡ 0 → b ≡ queued r h (length b)
unfolding queued
out_none r [] h e = refl
out_none r (x ∷ b) h e = absurd (suc-ne-zero (length b) e)

-- at most to the ring's end
pub out_one : {A : Type 0} (r : List A) (h k m : ℕ) → m ≡ k → k ≤ length r - h → take m (drop h r) ≡ queued r h k
unfolding queued
out_one r h k m e hk =
    let l : k ≤ length (drop h r) = simp length-drop (omega arith) in
    ap (λ (x : ℕ). take x (drop h r)) e ∙ sym (take-append-le k (drop h r) r l)

-- a of them to its end, and the others from its start
pub out_two : {A : Type 0} (r b x y : List A) (h k a : ℕ) → a ≡ length r - h → a < k → k ≡ length b
    → x ≡ take a (drop h r) → y ≡ take (k - a) r → put_mid a (length (x ++ drop a b) - a) (x ++ drop a b) y ≡ queued r h k
unfolding queued
out_two {A} r b x y h k a ea ha hk ex ey =
    let n : length (drop h r) ≡ a = length-drop h r ∙ sym ea in
    let ex' : x ≡ drop h r = ex ∙ take_all a (drop h r) (omega arith) in
    let lx : length x ≡ a = ap length ex' ∙ n in
    let w : List A = x ++ drop a b in
    let rest : drop (length w - a) (drop a w) ≡ [] = drop-drop (length w - a) a w ∙ drop_of_length-le w (omega arith) in
    let e : k ≡ length (drop h r) + (k - a) = omega arith in
    ap₂ (λ (u v : List A). u ++ (y ++ v)) (take_at x (drop a b) a lx ∙ ex') rest
    ∙ ap (λ (v : List A). drop h r ++ v) (append-nil y ∙ ey)
    ∙ sym (ap (λ (m : ℕ). take m (drop h r ++ r)) e ∙ take-append-add (drop h r) r (k - a))

-- ── A ring turned ──

-- each place is reached
reached : (c h p : ℕ) → h < c → p < c → (i : ℕ) × (i < c) × Place c (h + i) p
reached c h p hh hp =
    by_order p h
    (λ lo. (p + c - h, omega arith, record { low = λ l. omega arith; high = λ u. omega arith }))
    (λ up. (p - h, omega arith, record { low = λ l. omega arith; high = λ u. omega arith }))

-- two rings of one length that are the same when turned are the same
pub turned : {A : Type 0} (r r' : List A) (h : ℕ) → h < length r → length r' ≡ length r → whole r h ≡ whole r' h → r ≡ r'
turned {A} r r' h hh l e =
    let d : A = some_of r (omega arith) in
    ext_get_or d r r' (sym l) λ p hp.
    let q = reached (length r) h p hh hp in
    sym (get_or-queued r h hh (length r) q.0 p d q.1 (omega arith) q.2)
    ∙ ap (λ (x : List A). get_or x q.0 d) e
    ∙ get_or-queued r' h (omega arith) (length r') q.0 p d (let z = q.1 in omega arith) (omega arith) (rw l q.2)
