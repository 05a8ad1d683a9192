-- Each pending server is in one queue, and a queue holds pending servers: kept by every call.
use mathlib.Core.Path.{◌≡◌, refl, sym, ap, ◌∙◌, subst}
use mathlib.Core.Logic.{◌≢◌, ◌⊎◌, inl, inr, ⊎_elim}
use Prim.Native.Nat.{ℕ, suc, ◌≤◌, ◌<◌}
use native.Mathlib.Omega.{arith}
use native.Mathlib.Decide.{ℕ_discrete}
use mathlib.Core.Bool.{Bool, true, false, true≢false, false≢true}
use mathlib.Core.List.{List, [], ◌∷◌, ◌++◌, Memᴰ}
use lib.ListN.{length}
use Rattle.rules.specs.WellFormed.{is_connected}
use Rattle.rules.proofs.Model.{Table, State, slot_of, handle, at, is_open, state_of, become, give, enter, leave, queued, close_all}
use Rattle.rules.proofs.Calm.{fewer-close_all}
use Rattle.rules.proofs.Frame.{at_put_same, at_put_other, field_put, in-range, open_by, open_used, open_same, open_become, open_give, open_leave, at_enter, enter_open, enter_new, state_become, state_become_same, state_give, become_at, give_at, slot_handle, given_of, given_enter, given_new, cons-nil, given_become}

abbrev pub In : ℕ → State → Type 0
In s σ = Memᴰ s (queued σ)

-- no element twice
abbrev pub Once : List ℕ → Type 0
Once [] = Unit {0}
Once (x ∷ xs) = (Memᴰ x xs → ⊥) × Once xs

conn_none : (σ : State) → is_connected σ ≡ true → queued σ ≡ []
unfolding is_connected queued
conn_none State.Unbound e = refl
conn_none (State.Bound m) e = refl
conn_none (State.Listening m b q) e = absurd (false≢true e)
conn_none (State.Connected p i x y) e = refl

-- a server that connect made and accept has not returned
pub record Pending (t : Table) (s : ℕ) : Type 0 where
  pub here : is_open t s ≡ true
  pub kept : given_of t s ≡ false
  pub conn : is_connected (state_of t s) ≡ true

pub record Owner (t : Table) (s : ℕ) : Type 0 where
  pub by : ℕ
  pub open' : is_open t by ≡ true
  pub holds' : In s (state_of t by)

pub record Queues (t : Table) : Type 0 where
  pub entries : (l s : ℕ) → is_open t l ≡ true → In s (state_of t l) → Pending t s
  pub owned : (s : ℕ) → is_open t s ≡ true → given_of t s ≡ false → Owner t s
  pub one : (l l' s : ℕ) → is_open t l ≡ true → is_open t l' ≡ true → In s (state_of t l) → In s (state_of t l') → l ≡ l'
  pub once : (l : ℕ) → is_open t l ≡ true → Once (queued (state_of t l))

-- ── a change that touches no queue ──

pub record Even (t u : Table) : Type 0 where
  pub opens : (g : ℕ) → is_open u g ≡ is_open t g
  pub given : (g : ℕ) → is_open t g ≡ true → given_of u g ≡ given_of t g
  pub queue : (g : ℕ) → is_open t g ≡ true → queued (state_of u g) ≡ queued (state_of t g)
  pub conns : (g : ℕ) → is_open t g ≡ true → is_connected (state_of t g) ≡ true → is_connected (state_of u g) ≡ true

pub queues_even : {t u : Table} → Even t u → Queues t → Queues u
queues_even {t} {u} e q =
    let back : (g : ℕ) → is_open u g ≡ true → is_open t g ≡ true = λ g o. sym (e.opens g) ∙ o in
    let mem : (s l : ℕ) → is_open u l ≡ true → In s (state_of u l) → In s (state_of t l) = λ s l o m. subst (Memᴰ s) (e.queue l (back l o)) m in
    record {
      entries = λ l s o m. let a = q.entries l s (back l o) (mem s l o m) in record { here = e.opens s ∙ a.here; kept = e.given s a.here ∙ a.kept; conn = e.conns s a.here a.conn };
      owned = λ s o g.
          let a = q.owned s (back s o) (sym (e.given s (back s o)) ∙ g) in
          record { by = a.by; open' = e.opens a.by ∙ a.open'; holds' = subst (Memᴰ s) (sym (e.queue a.by a.open')) a.holds' };
      one = λ l l' s o o' m m'. q.one l l' s (back l o) (back l' o') (mem s l o m) (mem s l' o' m');
      once = λ l o. subst Once (sym (e.queue l (back l o))) (q.once l (back l o));
    }

pub even_then : {t u v : Table} → Even t u → Even u v → Even t v
even_then a b =
    record {
      opens = λ g. b.opens g ∙ a.opens g;
      given = λ g o. b.given g (a.opens g ∙ o) ∙ a.given g o;
      queue = λ g o. b.queue g (a.opens g ∙ o) ∙ a.queue g o;
      conns = λ g o z. b.conns g (a.opens g ∙ o) (a.conns g o z);
    }

pub even_become : (t : Table) (h : ℕ) (σ : State) → queued σ ≡ queued (state_of t h) → (is_connected (state_of t h) ≡ true → is_connected σ ≡ true) → Even t (become t h σ)
unfolding become state_of
even_become t h σ e c =
    record {
      opens = λ g. open_become t h σ g;
      given = λ g o. given_become t h σ g;
      queue = λ g o. field_put (λ s. queued s.state) t (slot_of h) _ (slot_of g) e;
      conns = λ g o z. ⊎_elim (λ k. ap is_connected k.1 ∙ c (ap (λ i. is_connected (at t i).state) (sym k.0) ∙ z)) (λ k. ap is_connected k ∙ z) (state_become t h σ g);
    }

-- ── accept: the oldest server leaves the queue and is handed out ──

module _ (t : Table) (q : Queues t) (h s : ℕ) (rest : List ℕ) (o : is_open t h ≡ true) (σ : State) (was : queued (state_of t h) ≡ s ∷ rest) (is : queued σ ≡ rest) where
  abbrev u : Table
  u = give (become t h σ) s

  opened : (g : ℕ) → is_open u g ≡ is_open t g
  opened g = open_give (become t h σ) s g ∙ open_become t h σ g

  front : Pending t s
  front = q.entries h s o (subst (Memᴰ s) (sym was) (mathlib.Core.List.Memᴰ.head refl))

  given_u : (g : ℕ) → is_open t g ≡ true → ((g ≡ s) × (given_of u g ≡ true)) ⊎ ((g ≢ s) × (given_of u g ≡ given_of t g))
  unfolding given_of
  given_u g a =
      ⊎_elim (λ z. inl z) (λ z. inr (z.0, z.1 ∙ given_become t h σ g)) (give_at (become t h σ) s g (open_become t h σ s ∙ front.here) (open_become t h σ g ∙ a))

  queue_u : (g : ℕ) → is_open t g ≡ true → ((g ≡ h) × (queued (state_of u g) ≡ rest)) ⊎ ((g ≢ h) × (queued (state_of u g) ≡ queued (state_of t g)))
  queue_u g a =
      ⊎_elim
      (λ z. inl (z.0, ap queued (state_give (become t h σ) s g ∙ z.1) ∙ is))
      (λ z. inr (z.0, ap queued (state_give (become t h σ) s g ∙ z.1)))
      (become_at t h σ g o a)

  -- what is in a queue was in it, and is not the server that was handed out
  in_old : (x l : ℕ) → is_open t l ≡ true → In x (state_of u l) → In x (state_of t l) × (x ≢ s)
  in_old x l a m =
      ⊎_elim
      (λ z. let m' : Memᴰ x rest = subst (Memᴰ x) z.1 m in (
        subst (λ g. In x (state_of t g)) (sym z.0) (subst (Memᴰ x) (sym was) (mathlib.Core.List.Memᴰ.tail m')),
        λ e. (subst Once was (q.once h o)).0 (mathlib.Core.List.Memᴰ.cast (sym e) m'),
      ))
      (λ z. let m' : In x (state_of t l) = subst (Memᴰ x) z.1 m in
      (m', λ e. z.0 (q.one l h s a o (mathlib.Core.List.Memᴰ.cast (sym e) m') (subst (Memᴰ s) (sym was) (mathlib.Core.List.Memᴰ.head refl)))))
      (queue_u l a)

  -- and the others are in it still
  old_in : (x l : ℕ) → is_open t l ≡ true → x ≢ s → In x (state_of t l) → In x (state_of u l)
  old_in x l a n m =
      ⊎_elim
      (λ z. subst (Memᴰ x) (sym z.1)
      (⊎_elim (λ e. absurd (n e)) (λ m'. m') (mathlib.Core.List.Memᴰ.cases_cons (subst (Memᴰ x) was (subst (λ g. In x (state_of t g)) z.0 m)))))
      (λ z. subst (Memᴰ x) (sym z.1) m)
      (queue_u l a)

  pub queues_accept : Queues u
  queues_accept =
      let back : (g : ℕ) → is_open u g ≡ true → is_open t g ≡ true = λ g a. sym (opened g) ∙ a in
      record {
        entries = λ l x a m.
            let b = in_old x l (back l a) m in
            let d = q.entries l x (back l a) b.0 in
            record {
              here = opened x ∙ d.here;
              kept = ⊎_elim (λ z. absurd (b.1 z.0)) (λ z. z.1 ∙ d.kept) (given_u x d.here);
              conn =
                  ⊎_elim
                  (λ z. absurd (cons-nil (sym was ∙ conn_none (state_of t h) (subst (λ g. is_connected (state_of t g) ≡ true) z.0 d.conn))))
                  (λ z. ap is_connected (state_give (become t h σ) s x ∙ z.1) ∙ d.conn)
                  (become_at t h σ x o d.here);
            };
        owned = λ x a g.
            ⊎_elim
            (λ z. absurd (true≢false (sym z.1 ∙ g)))
            (λ z. let w = q.owned x (back x a) (sym z.1 ∙ g) in
            record { by = w.by; open' = opened w.by ∙ w.open'; holds' = old_in x w.by w.open' z.0 w.holds' })
            (given_u x (back x a));
        one = λ l l' x a a' m m'. q.one l l' x (back l a) (back l' a') (in_old x l (back l a) m).0 (in_old x l' (back l' a') m').0;
        once = λ l a. ⊎_elim (λ z. subst Once (sym z.1) (subst Once was (q.once h o)).1) (λ z. subst Once (sym z.1) (q.once l (back l a))) (queue_u l (back l a));
      }

once_snoc : (xs : List ℕ) (x : ℕ) → Once xs → (Memᴰ x xs → ⊥) → Once (xs ++ x ∷ [])
once_snoc [] x a n = (λ m. mathlib.Core.List.Memᴰ.not-nil m, tt)
once_snoc (y ∷ ys) x a n = (
  λ m. ⊎_elim (λ z. a.0 z) (λ z. n (mathlib.Core.List.Memᴰ.head (sym (mathlib.Core.List.Memᴰ.eq_of_singleton z)))) (mathlib.Core.List.Memᴰ.append_cases ys m),
  once_snoc ys x a.1 (λ m. n (mathlib.Core.List.Memᴰ.tail m)),
)

-- ── connect: a server enters, and the listener's queue ──

module _ (t : Table) (q : Queues t) (i h l : ℕ) (fit : length t.slots ≤ 1024) (r : i < length t.slots) (v : (at t i).in_use ≡ false)
    (o : is_open t h ≡ true) (ol : is_open t l ≡ true) (un : queued (state_of t h) ≡ []) (nc : is_connected (state_of t h) ≡ false) (lc : is_connected (state_of t l) ≡ false)
    (σ₁ σ₂ σ₃ : State) (q₁ : queued σ₁ ≡ []) (c₁ : is_connected σ₁ ≡ true) (q₂ : queued σ₂ ≡ []) (q₃ : queued σ₃ ≡ queued (state_of t l) ++ handle (suc (at t i).gen) i ∷ []) where
  abbrev s' : ℕ
  s' = handle (suc (at t i).gen) i

  abbrev t₁ : Table
  t₁ = enter t i false σ₁

  abbrev t₂ : Table
  t₂ = become t₁ h σ₂

  abbrev v' : Table
  v' = become t₂ l σ₃

  to_1 : (g : ℕ) → is_open t g ≡ true → is_open t₁ g ≡ true
  to_1 g a = (enter_open t i false σ₁ g v a).0

  from_1 : (g : ℕ) → is_open v' g ≡ true → is_open t₁ g ≡ true
  from_1 g a = sym (open_become t₁ h σ₂ g) ∙ sym (open_become t₂ l σ₃ g) ∙ a

  up : (g : ℕ) → is_open t₁ g ≡ true → is_open v' g ≡ true
  up g a = open_become t₂ l σ₃ g ∙ open_become t₁ h σ₂ g ∙ a

  new_or_old : (g : ℕ) → is_open v' g ≡ true → (g ≡ s') ⊎ (is_open t g ≡ true)
  new_or_old g a = ⊎_elim (λ z. inl z.0) (λ z. inr z.0) (at_enter t i false σ₁ g (from_1 g a))

  not_new : is_open t s' ≡ true → ⊥
  not_new a = false≢true (sym v ∙ ap (λ k. (at t k).in_use) (sym (slot_handle (suc (at t i).gen) i (omega arith))) ∙ open_used t s' a)

  given_v : (g : ℕ) → is_open t g ≡ true → given_of v' g ≡ given_of t g
  given_v g a = given_become t₂ l σ₃ g ∙ given_become t₁ h σ₂ g ∙ given_enter t i false σ₁ g v a

  -- the state of a socket that was there, where it is neither of the two
  state_v : (g : ℕ) → is_open t g ≡ true → g ≢ l → g ≢ h → state_of v' g ≡ state_of t g
  state_v g a n m =
      ⊎_elim (λ z. absurd (n z.0)) (λ z. z.1) (become_at t₂ l σ₃ g (open_become t₁ h σ₂ l ∙ to_1 l ol) (open_become t₁ h σ₂ g ∙ to_1 g a))
      ∙ ⊎_elim (λ z. absurd (m z.0)) (λ z. z.1) (become_at t₁ h σ₂ g (to_1 h o) (to_1 g a))
      ∙ (enter_open t i false σ₁ g v a).1

  queue_l : queued (state_of v' l) ≡ queued (state_of t l) ++ s' ∷ []
  queue_l = ap queued (state_become_same t₂ l σ₃ (open_become t₁ h σ₂ l ∙ to_1 l ol)) ∙ q₃

  state_new : state_of v' s' ≡ σ₁
  state_new =
      ⊎_elim (λ z. absurd (not_new (subst (λ g. is_open t g ≡ true) (sym z.0) ol))) (λ z. z.1) (become_at t₂ l σ₃ s' (open_become t₁ h σ₂ l ∙ to_1 l ol) (open_become t₁ h σ₂ s' ∙ (enter_new t i false σ₁ fit r).0))
      ∙ ⊎_elim (λ z. absurd (not_new (subst (λ g. is_open t g ≡ true) (sym z.0) o))) (λ z. z.1) (become_at t₁ h σ₂ s' (to_1 h o) (enter_new t i false σ₁ fit r).0)
      ∙ (enter_new t i false σ₁ fit r).1

  -- the caller's queue was empty and is
  queue_h : h ≢ l → queued (state_of v' h) ≡ []
  queue_h n =
      ap queued
      (⊎_elim (λ z. absurd (n z.0)) (λ z. z.1) (become_at t₂ l σ₃ h (open_become t₁ h σ₂ l ∙ to_1 l ol) (open_become t₁ h σ₂ h ∙ to_1 h o)) ∙ state_become_same t₁ h σ₂ (to_1 h o))
      ∙ q₂

  queue_v : (g : ℕ) → is_open t g ≡ true → g ≢ l → queued (state_of v' g) ≡ queued (state_of t g)
  queue_v g a n = go (ℕ_discrete g h)
    where
      go : Dec (g ≡ h) → queued (state_of v' g) ≡ queued (state_of t g)
      go (yes e) = ap (λ k. queued (state_of v' k)) e ∙ queue_h (λ z. n (e ∙ z)) ∙ sym un ∙ ap (λ k. queued (state_of t k)) (sym e)
      go (no m) = ap queued (state_v g a n m)

  in_v : (x g : ℕ) → is_open v' g ≡ true → In x (state_of v' g) → ((g ≡ l) × (x ≡ s')) ⊎ ((is_open t g ≡ true) × In x (state_of t g))
  in_v x g a m = go (ℕ_discrete g l) (new_or_old g a)
    where
      go : Dec (g ≡ l) → (g ≡ s') ⊎ (is_open t g ≡ true) → ((g ≡ l) × (x ≡ s')) ⊎ ((is_open t g ≡ true) × In x (state_of t g))
      go (yes e) _ =
          ⊎_elim
          (λ z. inr (ap (is_open t) e ∙ ol, subst (λ k. In x (state_of t k)) (sym e) z))
          (λ z. inl (e, mathlib.Core.List.Memᴰ.eq_of_singleton z))
          (mathlib.Core.List.Memᴰ.append_cases (queued (state_of t l)) (subst (Memᴰ x) (ap (λ k. queued (state_of v' k)) e ∙ queue_l) m))
      go (no n) (inl e) = absurd (mathlib.Core.List.Memᴰ.not-nil (subst (Memᴰ x) (ap (λ k. queued (state_of v' k)) e ∙ ap queued state_new ∙ q₁) m))
      go (no n) (inr b) = inr (b, subst (Memᴰ x) (queue_v g b n) m)

  v_in : (x g : ℕ) → is_open t g ≡ true → In x (state_of t g) → In x (state_of v' g)
  v_in x g a m = go (ℕ_discrete g l)
    where
      go : Dec (g ≡ l) → In x (state_of v' g)
      go (yes e) = subst (λ k. In x (state_of v' k)) (sym e) (subst (Memᴰ x) (sym queue_l) (mathlib.Core.List.Memᴰ.append_left _ (subst (λ k. In x (state_of t k)) e m)))
      go (no n) = subst (Memᴰ x) (sym (queue_v g a n)) m

  pend_v : (x : ℕ) → Pending t x → Pending v' x
  pend_v x p =
      record {
        here = up x (to_1 x p.here);
        kept = given_v x p.here ∙ p.kept;
        conn =
            ap is_connected
            (state_v x p.here
            (λ e. false≢true (sym lc ∙ ap (λ k. is_connected (state_of t k)) (sym e) ∙ p.conn))
            (λ e. false≢true (sym nc ∙ ap (λ k. is_connected (state_of t k)) (sym e) ∙ p.conn)))
            ∙ p.conn;
      }

  pend_new : Pending v' s'
  pend_new =
      record {
        here = up s' (enter_new t i false σ₁ fit r).0;
        kept = given_become t₂ l σ₃ s' ∙ given_become t₁ h σ₂ s' ∙ given_new t i false σ₁ fit r;
        conn = ap is_connected state_new ∙ c₁;
      }

  once_v : (g : ℕ) → is_open v' g ≡ true → Once (queued (state_of v' g))
  once_v g a = go (ℕ_discrete g l) (new_or_old g a)
    where
      go : Dec (g ≡ l) → (g ≡ s') ⊎ (is_open t g ≡ true) → Once (queued (state_of v' g))
      go (yes e) _ =
          subst Once (sym (ap (λ k. queued (state_of v' k)) e ∙ queue_l))
          (once_snoc (queued (state_of t l)) s' (q.once l ol) (λ m. not_new (q.entries l s' ol m).here))
      go (no n) (inl e) = subst Once (sym (ap (λ k. queued (state_of v' k)) e ∙ ap queued state_new ∙ q₁)) tt
      go (no n) (inr b) = subst Once (sym (queue_v g b n)) (q.once g b)

  pub queues_connect : Queues v'
  queues_connect =
      record {
        entries = λ g x a m. ⊎_elim (λ z. subst (Pending v') (sym z.1) pend_new) (λ z. pend_v x (q.entries g x z.0 z.1)) (in_v x g a m);
        owned = λ x a k.
            ⊎_elim
            (λ e. record { by = l; open' = up l (to_1 l ol); holds' = subst (Memᴰ x) (sym queue_l) (mathlib.Core.List.Memᴰ.append_right (queued (state_of t l)) (mathlib.Core.List.Memᴰ.head e)) })
            (λ b. let w = q.owned x b (sym (given_v x b) ∙ k) in
            record { by = w.by; open' = up w.by (to_1 w.by w.open'); holds' = v_in x w.by w.open' w.holds' })
            (new_or_old x a);
        one = λ g g' x a a' m m'.
            ⊎_elim
            (λ z. ⊎_elim
            (λ z'. z.0 ∙ sym z'.0)
            (λ z'. absurd (not_new (subst (λ k. is_open t k ≡ true) z.1 (q.entries g' x z'.0 z'.1).here)))
            (in_v x g' a' m'))
            (λ z. ⊎_elim
            (λ z'. absurd (not_new (subst (λ k. is_open t k ≡ true) z'.1 (q.entries g x z.0 z.1).here)))
            (λ z'. q.one g g' x z.0 z'.0 z.1 z'.1)
            (in_v x g' a' m'))
            (in_v x g a m);
        once = once_v;
      }

-- ── close ──

leave_shut : (t : Table) (h : ℕ) → is_open (leave t h) h ≡ false
unfolding leave
leave_shut t h = go (is_open (leave t h) h) refl
  where
    go : (b : Bool) → is_open (leave t h) h ≡ b → b ≡ false
    go false e = refl
    go true e =
        absurd
        (false≢true
        (sym (ap (λ s. s.in_use) (at_put_same t (slot_of h) _ (in-range t (slot_of h) (open_used t h (open_leave t h h e).0))))
        ∙ open_used (leave t h) h e))

close_all-at : (t : Table) (hs : List ℕ) (g : ℕ) → ((s : ℕ) → Memᴰ s hs → slot_of g ≢ slot_of s) → at (close_all t hs).next (slot_of g) ≡ at t (slot_of g)
unfolding close_all leave
close_all-at t [] g n = refl
close_all-at t (h ∷ hs) g n =
    close_all-at (leave t h) hs g (λ s m. n s (mathlib.Core.List.Memᴰ.tail m)) ∙ at_put_other t (slot_of h) _ (slot_of g) (n h (mathlib.Core.List.Memᴰ.head refl))

close_all-shut : (t : Table) (hs : List ℕ) (s : ℕ) → Memᴰ s hs → is_open (close_all t hs).next s ≡ false
unfolding close_all
close_all-shut t [] s m = absurd (mathlib.Core.List.Memᴰ.not-nil m)
close_all-shut t (h ∷ hs) s m =
    let rec : Memᴰ s hs → is_open (close_all (leave t h) hs).next s ≡ false = close_all-shut (leave t h) hs s in
    ⊎_elim (λ e. rw e ((fewer-close_all (leave t h) hs).shut h (leave_shut t h))) rec (mathlib.Core.List.Memᴰ.cases_cons m)

module _ (t : Table) (q : Queues t) (h : ℕ) (o : is_open t h ≡ true) (gv : given_of t h ≡ true) where
  abbrev hs : List ℕ
  hs = h ∷ queued (state_of t h)

  abbrev z : Table
  z = (close_all t hs).next

  all_open : (s : ℕ) → Memᴰ s hs → is_open t s ≡ true
  all_open s m = ⊎_elim (λ e. ap (is_open t) e ∙ o) (λ m'. (q.entries h s o m').here) (mathlib.Core.List.Memᴰ.cases_cons m)

  -- what is open was open, and is none of the closed
  old_z : (g : ℕ) → is_open z g ≡ true → is_open t g ≡ true
  old_z g a = go (is_open t g) refl
    where
      go : (b : Bool) → is_open t g ≡ b → b ≡ true
      go true e = refl
      go false e = absurd (false≢true (sym ((fewer-close_all t hs).shut g e) ∙ a))

  out_z : (g : ℕ) → is_open z g ≡ true → Memᴰ g hs → ⊥
  out_z g a m = false≢true (sym (close_all-shut t hs g m) ∙ a)

  same_z : (g : ℕ) → is_open t g ≡ true → (Memᴰ g hs → ⊥) → at z (slot_of g) ≡ at t (slot_of g)
  same_z g a n = close_all-at t hs g (λ s m e. n (mem_cast (open_same t g s a (all_open s m) e) m))
    where
      mem_cast : {a b : ℕ} {l : List ℕ} → a ≡ b → Memᴰ b l → Memᴰ a l
      mem_cast e m = mathlib.Core.List.Memᴰ.cast e m

  state_z : (g : ℕ) → is_open t g ≡ true → (Memᴰ g hs → ⊥) → state_of z g ≡ state_of t g
  unfolding state_of
  state_z g a n = ap (λ s. s.state) (same_z g a n)

  given_z : (g : ℕ) → is_open t g ≡ true → (Memᴰ g hs → ⊥) → given_of z g ≡ given_of t g
  unfolding given_of
  given_z g a n = ap (λ s. s.given) (same_z g a n)

  open_z : (g : ℕ) → is_open t g ≡ true → (Memᴰ g hs → ⊥) → is_open z g ≡ true
  open_z g a n = open_by t z g (ap (λ s. s.gen) (same_z g a n)) (ap (λ s. s.in_use) (same_z g a n)) ∙ a

  in_z : (x g : ℕ) → is_open z g ≡ true → In x (state_of z g) → In x (state_of t g)
  in_z x g a m = subst (λ σ. In x σ) (state_z g (old_z g a) (out_z g a)) m

  pub queues_close : Queues z
  queues_close =
      record {
        entries = λ g x a m.
            let p = q.entries g x (old_z g a) (in_z x g a m) in
            let n : Memᴰ x hs → ⊥ = λ k.
            ⊎_elim
            (λ e. false≢true (sym p.kept ∙ ap (given_of t) e ∙ gv))
            (λ k'. out_z g a (mathlib.Core.List.Memᴰ.head (q.one g h x (old_z g a) o (in_z x g a m) k')))
            (mathlib.Core.List.Memᴰ.cases_cons k) in
            record { here = open_z x p.here n; kept = given_z x p.here n ∙ p.kept; conn = ap is_connected (state_z x p.here n) ∙ p.conn };
        owned = λ x a k.
            let w = q.owned x (old_z x a) (sym (given_z x (old_z x a) (out_z x a)) ∙ k) in
            let n : Memᴰ w.by hs → ⊥ = λ m.
            ⊎_elim
            (λ e. out_z x a (mathlib.Core.List.Memᴰ.tail (subst (λ g. In x (state_of t g)) e w.holds')))
            (λ m'. mathlib.Core.List.Memᴰ.not-nil (subst (Memᴰ x) (conn_none (state_of t w.by) (q.entries h w.by o m').conn) w.holds'))
            (mathlib.Core.List.Memᴰ.cases_cons m) in
            record { by = w.by; open' = open_z w.by w.open' n; holds' = subst (λ σ. In x σ) (sym (state_z w.by w.open' n)) w.holds' };
        one = λ g g' x a a' m m'. q.one g g' x (old_z g a) (old_z g' a') (in_z x g a m) (in_z x g' a' m');
        once = λ g a. subst (λ σ. Once (queued σ)) (sym (state_z g (old_z g a) (out_z g a))) (q.once g (old_z g a));
      }

-- ── socket ──

module _ (t : Table) (q : Queues t) (i : ℕ) (fit : length t.slots ≤ 1024) (r : i < length t.slots) (v : (at t i).in_use ≡ false) where
  abbrev e' : Table
  e' = enter t i true State.Unbound

  in_e : (x g : ℕ) → is_open e' g ≡ true → In x (state_of e' g) → (is_open t g ≡ true) × In x (state_of t g)
  unfolding queued
  in_e x g a m =
      ⊎_elim
      (λ k. absurd (mathlib.Core.List.Memᴰ.not-nil (subst (λ σ. Memᴰ x (queued σ)) k.2 m)))
      (λ k. (k.0, subst (λ σ. In x σ) k.1 m))
      (at_enter t i true State.Unbound g a)

  pub queues_socket : Queues e'
  unfolding queued
  queues_socket =
      let to : (g : ℕ) → is_open t g ≡ true → (is_open e' g ≡ true) × (state_of e' g ≡ state_of t g) = λ g a. enter_open t i true State.Unbound g v a in
      record {
        entries = λ g x a m.
            let b = in_e x g a m in
            let p = q.entries g x b.0 b.1 in
            record { here = (to x p.here).0; kept = given_enter t i true State.Unbound x v p.here ∙ p.kept; conn = ap is_connected (to x p.here).1 ∙ p.conn };
        owned = λ x a k.
            ⊎_elim
            (λ n. absurd (true≢false (sym (ap (given_of e') n.0 ∙ given_new t i true State.Unbound fit r) ∙ k)))
            (λ n. let w = q.owned x n.0 (sym (given_enter t i true State.Unbound x v n.0) ∙ k) in
            record { by = w.by; open' = (to w.by w.open').0; holds' = subst (λ σ. In x σ) (sym (to w.by w.open').1) w.holds' })
            (at_enter t i true State.Unbound x a);
        one = λ g g' x a a' m m'. let b = in_e x g a m in let d = in_e x g' a' m' in q.one g g' x b.0 d.0 b.1 d.1;
        once = λ g a. ⊎_elim (λ k. subst (λ σ. Once (queued σ)) (sym k.2) tt) (λ k. subst (λ σ. Once (queued σ)) (sym k.1) (q.once g k.0)) (at_enter t i true State.Unbound g a);
      }
