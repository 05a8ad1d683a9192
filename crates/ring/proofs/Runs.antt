-- A copy into a ring by straight runs is the copy behind what is queued.
use mathlib.Core.Path.{◌≡◌, sym, ap, ◌∙◌}
use mathlib.Core.List.{List, ◌++◌}
use Prim.Native.Nat.{ℕ, ◌+◌, ◌-◌, ◌<◌, ◌≤◌}
use native.Mathlib.Omega.{arith}
use lib.ListN.{length, take, drop, get_or, length-drop, get_or-append}
use lib.Seq.{paste, length-paste, length_paste_head, length-take-le, ext_get_or, get_or-take, get_or-drop, get_or-append-add}
use Rattle.ring.specs.Ring.{whole}
use Rattle.ring.proofs.Queued.{Place, by_order, placed, some_of, queued-length, get_or-queued}

-- what stands at j after a copy
module _ {A : Type 0} (d : List A) (at : ℕ) (s : List A) (n : ℕ) (hd : at + n ≤ length d) (hs : n ≤ length s) (j : ℕ) (z : A) where
  lf : length (take at d) ≡ at
  lf = length-take-le at d (omega arith)

  lh : length (take at d ++ take n s) ≡ at + n
  lh = length_paste_head d at s n (omega arith) hs

  get_or-paste_before : j < at → get_or (paste d at s n) j z ≡ get_or d j z
  get_or-paste_before h =
      get_or-append (take at d ++ take n s) (drop (at + n) d) z j (omega (arith, lh))
      ∙ get_or-append (take at d) (take n s) z j (omega (arith, lf))
      ∙ get_or-take at d j z h

  get_or-paste_in : (i : ℕ) → j ≡ at + i → i < n → get_or (paste d at s n) j z ≡ get_or s i z
  get_or-paste_in i e h =
      get_or-append (take at d ++ take n s) (drop (at + n) d) z j (omega (arith, lh))
      ∙ ap (λ (x : ℕ). get_or (take at d ++ take n s) x z) (e ∙ ap (λ (x : ℕ). x + i) (sym lf))
      ∙ get_or-append-add (take at d) (take n s) i z
      ∙ get_or-take n s i z h

  get_or-paste_behind : at + n ≤ j → get_or (paste d at s n) j z ≡ get_or d j z
  get_or-paste_behind h =
      let e : j ≡ length (take at d ++ take n s) + (j - (at + n)) = omega (arith, lh) in
      let f : at + n + (j - (at + n)) ≡ j = omega arith in
      ap (λ (x : ℕ). get_or (paste d at s n) x z) e
      ∙ get_or-append-add (take at d ++ take n s) (drop (at + n) d) (j - (at + n)) z
      ∙ get_or-drop (at + n) d (j - (at + n)) z
      ∙ ap (λ (x : ℕ). get_or d x z) f

-- the same in numbers
module _ (d : List ℕ) (at : ℕ) (s : List ℕ) (n : ℕ) (hd : at + n ≤ length d) (hs : n ≤ length s) (j : ℕ) where
  pub paste-before : j < at → get_or (paste d at s n) j 0 ≡ get_or d j 0
  paste-before = get_or-paste_before d at s n hd hs j 0

  pub paste-in : (i : ℕ) → j ≡ at + i → i < n → get_or (paste d at s n) j 0 ≡ get_or s i 0
  paste-in = get_or-paste_in d at s n hd hs j 0

  pub paste-behind : at + n ≤ j → get_or (paste d at s n) j 0 ≡ get_or d j 0
  paste-behind = get_or-paste_behind d at s n hd hs j 0

by_place : {P : Type 0} {c k p : ℕ} → Place c k p → (k < c → p ≡ k → P) → (c ≤ k → p + c ≡ k → P) → P
by_place {c = c} {k = k} pl f g = by_order k c (λ lo. f lo (pl.low lo)) (λ up. g up (pl.high up))

module _ {A : Type 0} (r s : List A) (h n k p : ℕ) (hh : h < length r) (hn : n + k ≤ length r) (hs : k ≤ length s) (pl : Place (length r) (h + n) p) where
  -- an element, which is read where a list has none
  z : A
  z = some_of r (omega arith)

  -- a ring r' that has s behind the first n, and else what r has, by places
  module _ (r' : List A) (l : length r' ≡ length r)
      (old : (i q : ℕ) → i < n → Place (length r) (h + i) q → get_or r' q z ≡ get_or r q z)
      (new : (i q : ℕ) → i < k → Place (length r) (h + (n + i)) q → get_or r' q z ≡ get_or s i z)
      (rest : (i q : ℕ) → n + k ≤ i → i < length r → Place (length r) (h + i) q → get_or r' q z ≡ get_or r q z)
    where
      m : length (whole r h) ≡ length r
      m = queued-length r h hh (length r) (omega arith)

      m' : length (whole r' h) ≡ length r'
      m' = queued-length r' h (omega arith) (length r') (omega arith)

      hd : n + k ≤ length (whole r h)
      hd = omega (arith, m)

      at_place : (i q : ℕ) → i < length r → Place (length r) (h + i) q → get_or (whole r' h) i z ≡ get_or (paste (whole r h) n s k) i z
      at_place i q hi ql =
          let e : get_or (whole r' h) i z ≡ get_or r' q z = get_or-queued r' h (omega arith) (length r') i q z (omega arith) (omega arith) (rw l ql) in
          let f : get_or (whole r h) i z ≡ get_or r q z = get_or-queued r h hh (length r) i q z (omega arith) (omega arith) ql in
          by_order i n
          (λ lo. e ∙ old i q lo ql ∙ sym (get_or-paste_before (whole r h) n s k hd hs i z lo ∙ f))
          (λ up.
          by_order i (n + k)
          (λ inside.
          let d : n + (i - n) ≡ i = omega arith in
          e ∙ new (i - n) q (omega arith) (rw d ql) ∙ sym (get_or-paste_in (whole r h) n s k hd hs i z (i - n) (sym d) (omega arith)))
          (λ out. e ∙ rest i q out hi ql ∙ sym (get_or-paste_behind (whole r h) n s k hd hs i z out ∙ f)))

      ring_is : whole r' h ≡ paste (whole r h) n s k
      ring_is =
          ext_get_or z (whole r' h) (paste (whole r h) n s k) (m' ∙ l ∙ sym (length-paste (whole r h) n s k hd hs ∙ m))
          (λ i hi.
          let hi' : i < length r = omega (arith, m') in
          let q : (q : ℕ) × Place (length r) (h + i) q = placed (length r) (h + i) (omega arith) in
          at_place i q.0 hi' q.1)

  -- one run, which ends in the ring
  pub one_run : p + k ≤ length r → whole (paste r p s k) h ≡ paste (whole r h) n s k
  one_run hp =
      ring_is (paste r p s k) (length-paste r p s k hp hs)
      (λ i q hi ql.
      by_order q p
      (λ lo. get_or-paste_before r p s k hp hs q z lo)
      (λ up. get_or-paste_behind r p s k hp hs q z (by_place pl (λ x u. by_place ql (λ y v. omega arith) (λ y v. omega arith)) (λ x u. by_place ql (λ y v. omega arith) (λ y v. omega arith)))))
      (λ i q hi ql.
      get_or-paste_in r p s k hp hs q z i
      (by_place pl (λ x u. by_place ql (λ y v. omega arith) (λ y v. omega arith)) (λ x u. by_place ql (λ y v. omega arith) (λ y v. omega arith))) hi)
      (λ i q hi hc ql.
      by_order q p
      (λ lo. get_or-paste_before r p s k hp hs q z lo)
      (λ up. get_or-paste_behind r p s k hp hs q z (by_place pl (λ x u. by_place ql (λ y v. omega arith) (λ y v. omega arith)) (λ x u. by_place ql (λ y v. omega arith) (λ y v. omega arith)))))

  -- two runs: a up to the ring's end, and the others from its start
  module _ (a : ℕ) (ea : p + a ≡ length r) (ha : a < k) where
    r1 : List A
    r1 = paste r p s a

    l1 : length r1 ≡ length r
    unfolding r1
    l1 = length-paste r p s a (omega arith) (omega arith)

    f2 : 0 + (k - a) ≤ length r1
    f2 = omega (arith, l1)

    s2 : k - a ≤ length (drop a s)
    s2 = simp length-drop (omega arith)

    r2 : List A
    r2 = paste r1 0 (drop a s) (k - a)

    old2 : (q : ℕ) → k - a ≤ q → q < p → get_or r2 q z ≡ get_or r q z
    unfolding r2 r1
    old2 q h1 h2 = get_or-paste_behind r1 0 (drop a s) (k - a) f2 s2 q z (omega arith) ∙ get_or-paste_before r p s a (omega arith) (omega arith) q z h2

    new2 : (i q : ℕ) → i < k → Place (length r) (h + (n + i)) q → get_or r2 q z ≡ get_or s i z
    unfolding r2 r1
    new2 i q hi ql =
        by_order i a
        (λ lo.
        let e : q ≡ p + i = by_place pl (λ x u. by_place ql (λ y v. omega arith) (λ y v. omega arith)) (λ x u. by_place ql (λ y v. omega arith) (λ y v. omega arith)) in
        get_or-paste_behind r1 0 (drop a s) (k - a) f2 s2 q z (by_place pl (λ x u. omega arith) (λ x u. omega arith))
        ∙ get_or-paste_in r p s a (omega arith) (omega arith) q z i e lo)
        (λ up.
        let e : q ≡ 0 + (i - a) = by_place pl (λ x u. by_place ql (λ y v. omega arith) (λ y v. omega arith)) (λ x u. by_place ql (λ y v. omega arith) (λ y v. omega arith)) in
        let d : a + (i - a) ≡ i = omega arith in
        get_or-paste_in r1 0 (drop a s) (k - a) f2 s2 q z (i - a) e (omega arith)
        ∙ get_or-drop a s (i - a) z
        ∙ ap (λ (x : ℕ). get_or s x z) d)

    pub two_runs : whole (paste (paste r p s a) 0 (drop a s) (k - a)) h ≡ paste (whole r h) n s k
    unfolding r2 r1
    two_runs =
        ring_is r2 (length-paste r1 0 (drop a s) (k - a) f2 s2 ∙ l1)
        (λ i q hi ql.
        old2 q
        (by_place pl (λ x u. by_place ql (λ y v. omega arith) (λ y v. omega arith)) (λ x u. omega arith))
        (by_place pl (λ x u. by_place ql (λ y v. omega arith) (λ y v. omega arith)) (λ x u. omega arith)))
        new2
        (λ i q hi hc ql.
        old2 q
        (by_place pl (λ x u. by_place ql (λ y v. omega arith) (λ y v. omega arith)) (λ x u. omega arith))
        (by_place pl (λ x u. by_place ql (λ y v. omega arith) (λ y v. omega arith)) (λ x u. omega arith)))
