-- The laws of `queued`.
use mathlib.Core.Path.{◌≡◌, refl, sym, ap, ◌∙◌}
use mathlib.Core.Logic.{◌≢◌}
use native.Mathlib.Nat.{not-suc-le-zero}
use mathlib.Core.List.{List, [], ◌∷◌, ◌++◌}
use Prim.Native.Nat.{ℕ, ◌+◌, ◌-◌, ◌<◌, ◌≤◌}
use native.Mathlib.Decide.{dec_lt, ℕ_discrete as dec_eq}
use native.Mathlib.Omega.{arith}
use lib.ListN.{length, take, drop, get_or, set, length-append, length-drop, length-set, get_or-append}
use lib.Seq.{ext_get_or, get_or-take, get_or-drop, get_or-append-add, get_or-set_same, get_or-set_other, take-take, length-take-le, paste, take-paste}
use Rattle.ring.specs.Ring.{queued, whole}

-- p is the place in a ring of c that lies k after its start
pub record Place (c k p : ℕ) : Type 0 where
  pub low : k < c → p ≡ k
  pub high : c ≤ k → p + c ≡ k

-- by cases: one number is below another, or is not
pub by_order : {P : Type 0} (a b : ℕ) → (a < b → P) → (b ≤ a → P) → P
by_order a b f g = elim (dec_lt a b) [ yes p ↦ f p | no q ↦ g (omega arith) ]

-- a place is within the ring
pub place_in : {c k p : ℕ} → Place c k p → k < c + c → p < c
place_in {c} {k} {p} pl h = by_order k c (λ lo. omega (arith, pl.low lo)) (λ hi. omega (arith, pl.high hi))

-- two places less than a round apart are not the same
pub place_apart : {c j k p q : ℕ} → Place c j p → Place c k q → j < k → k < j + c → p ≢ q
place_apart {c} {j} {k} {p} {q} pl ql h g e =
    by_order j c
    (λ jl. by_order k c (λ kl. omega (arith, pl.low jl, ql.low kl)) (λ kh. omega (arith, pl.low jl, ql.high kh)))
    (λ jh. omega (arith, pl.high jh, ql.high (omega arith)))

-- the place i after the place of h + k is that of h + (k + i)
pub place_further : (c h k i : ℕ) {p q : ℕ} → h < c → k + i < c → Place c (h + k) p → Place c (h + (k + i)) q → Place c (p + i) q
place_further c h k i {p} {q} hh hk pl ql =
    by_order (h + k) c
    (λ lo.
    let e : p ≡ h + k = pl.low lo in
    record { low = λ l. omega (arith, ql.low (omega arith)); high = λ u. omega (arith, ql.high (omega arith)) })
    (λ up.
    let e : p + c ≡ h + k = pl.high up in
    record { low = λ l. omega (arith, ql.high (omega arith)); high = λ u. omega arith })

-- a number that goes past the end at most once has a place
pub placed : (c k : ℕ) → k < c + c → (p : ℕ) × Place c k p
placed c k h =
    by_order k c
    (λ lo. (k, record { low = λ _. refl; high = λ up. omega arith }))
    (λ up. (k - c, record { low = λ lo. omega arith; high = λ _. omega arith }))

-- an element of a list that has one
pub some_of : {A : Type 0} (r : List A) → 0 < length r → A
some_of [] h = absurd (not-suc-le-zero h)
some_of (x ∷ r) h = x

module _ {A : Type 0} (r : List A) (h : ℕ) (hh : h < length r) where
  -- it has as many elements as were asked for
  pub queued-length : (n : ℕ) → n ≤ length r → length (queued r h n) ≡ n
  unfolding queued
  queued-length n hn = length-take-le n (drop h r ++ r) (simp (length-append, length-drop) (omega arith))

  -- what stands at i stands in the ring at the place of h + i
  pub get_or-queued : (n i p : ℕ) (d : A) → i < n → n ≤ length r → Place (length r) (h + i) p → get_or (queued r h n) i d ≡ get_or r p d
  unfolding queued
  get_or-queued n i p d hi hn pl =
      get_or-take n (drop h r ++ r) i d hi
      ∙ by_order (h + i) (length r)
      (λ lo. get_or-append (drop h r) r d i (simp length-drop (omega arith)) ∙ get_or-drop h r i d ∙ ap (λ (k : ℕ). get_or r k d) (sym (pl.low lo)))
      (λ up.
      let e : i ≡ length (drop h r) + p = simp length-drop (omega (arith, pl.high up)) in
      ap (λ (k : ℕ). get_or (drop h r ++ r) k d) e ∙ get_or-append-add (drop h r) r p d)

  -- the first k of n
  pub queued-take : (k n : ℕ) → k ≤ n → take k (queued r h n) ≡ queued r h k
  unfolding queued
  queued-take k n hk = take-take k n (drop h r ++ r) hk

-- the same in a ring of numbers
pub queued_at : (r : List ℕ) (h : ℕ) → h < length r → (n i p : ℕ) → i < n → n ≤ length r → Place (length r) (h + i) p → get_or (queued r h n) i 0 ≡ get_or r p 0
queued_at r h hh n i p = get_or-queued r h hh n i p 0

-- a store in the ring is a store in what is read of it
module _ {A : Type 0} (r : List A) (h i p : ℕ) (v : A) (hh : h < length r) (hi : i < length r) (pl : Place (length r) (h + i) p) where
  set-length : length (set r p v) ≡ length r
  set-length = length-set r p v

  at_other : (j : ℕ) → j < length r → j ≢ i → get_or (queued (set r p v) h (length r)) j v ≡ get_or (queued r h (length r)) j v
  at_other j hj ne =
      let q : (q : ℕ) × Place (length r) (h + j) q = placed (length r) (h + j) (omega arith) in
      get_or-queued (set r p v) h (omega (arith, set-length)) (length r) j q.0 v hj (omega (arith, set-length)) (rw set-length q.1)
      ∙ get_or-set_other r p q.0 v v
      (by_order j i
      (λ lo. place_apart q.1 pl (omega arith) (omega arith))
      (λ up e. place_apart pl q.1 (omega arith) (omega arith) (sym e)))
      ∙ sym (get_or-queued r h hh (length r) j q.0 v hj (omega arith) q.1)

  at_same : get_or (queued (set r p v) h (length r)) i v ≡ v
  at_same =
      get_or-queued (set r p v) h (omega (arith, set-length)) (length r) i p v hi (omega (arith, set-length)) (rw set-length pl)
      ∙ get_or-set_same r p v v (place_in pl (omega arith))

  pub whole_set : queued (set r p v) h (length r) ≡ set (whole r h) i v
  whole_set =
      let l : length (queued (set r p v) h (length r)) ≡ length r = queued-length (set r p v) h (omega (arith, set-length)) (length r) (omega (arith, set-length)) in
      let m : length (whole r h) ≡ length r = queued-length r h hh (length r) (omega arith) in
      ext_get_or v (queued (set r p v) h (length r)) (set (whole r h) i v) (l ∙ sym (length-set (whole r h) i v ∙ m))
      (λ j hj.
      elim (dec_eq j i) [
        | yes e ↦ ap (λ (x : ℕ). get_or (queued (set r p v) h (length r)) x v) e ∙ at_same ∙ sym (ap (λ (x : ℕ). get_or (set (whole r h) i v) x v) e ∙ get_or-set_same (whole r h) i v v (omega (arith, m)))
        | no ne ↦ at_other j (omega (arith, l)) ne ∙ sym (get_or-set_other (whole r h) i j v v ne)
      ])

-- without the first k, n start k later
pub queued-drop : {A : Type 0} (r : List A) (h k n p : ℕ) → h < length r → k ≤ n → n ≤ length r → Place (length r) (h + k) p → drop k (queued r h n) ≡ queued r p (n - k)
queued-drop {A} r h k n p hh hk hn pl =
    let l : length (queued r h n) ≡ n = queued-length r h hh n hn in
    let hp : p < length r = place_in pl (omega arith) in
    let d : A = some_of r (omega arith) in
    ext_get_or d (drop k (queued r h n)) (queued r p (n - k))
    (length-drop k (queued r h n) ∙ omega (arith, queued-length r p hp (n - k) (omega arith)))
    (λ i hi.
    let li : i < n - k = omega (arith, length-drop k (queued r h n)) in
    let q : (q : ℕ) × Place (length r) (h + (k + i)) q = placed (length r) (h + (k + i)) (omega arith) in
    get_or-drop k (queued r h n) i d
    ∙ get_or-queued r h hh n (k + i) q.0 d (omega arith) hn q.1
    ∙ sym (get_or-queued r p hp (n - k) i q.0 d li (omega arith) (place_further (length r) h k i hh (omega arith) pl q.1)))

-- what is queued in a ring of c into which k were copied behind n
pub pasted : {A : Type 0} (r r' s : List A) (h n k : ℕ) → length r' ≡ length r → h < length r → n + k ≤ length r → k ≤ length s
    → whole r' h ≡ paste (whole r h) n s k
    → queued r' h (n + k) ≡ queued r h n ++ take k s
pasted {A} r r' s h n k l hh hn hs e =
    sym (queued-take r' h (omega arith) (n + k) (length r') (omega arith))
    ∙ ap (take (n + k)) e
    ∙ take-paste (whole r h) n s k (omega (arith, queued-length r h hh (length r) (omega arith))) hs
    ∙ ap (λ (x : List A). x ++ take k s) (queued-take r h hh n (length r) (omega arith))
