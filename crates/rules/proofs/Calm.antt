-- What a sleeping call looks at, and what it means that a change of the table is told to whoever looks.
use mathlib.Core.Path.{◌≡◌, refl, sym, ap, ◌∙◌, subst}
use mathlib.Core.Logic.{◌⊎◌, inl, inr, ⊎_elim}
use Prim.Native.Nat.{ℕ, ◌≤◌}
use mathlib.Core.Bool.{Bool, true, false}
use mathlib.Core.List.Memᴰ
use mathlib.Core.List.{List, [], ◌∷◌, Memᴰ}
use lib.ListN.{length}
use Rattle.laws.proofs.Tests.{cond_both}
use Rattle.rules.proofs.Model.{Table, State, Inbox, at, is_open, state_of, become, give, enter, leave, is_nil, same, close_wakes, open_one, close_all}
use Rattle.rules.proofs.Frame.{open_become, open_give, state_become, state_give, open_same, at_leave, enter_open}

-- what one socket's state may show to a sleeper
pub data End : Type 0 where
  linked : End  -- it is connected
  silent : End  -- its inbox is empty and not closed
  sending : End  -- its outbox is not closed
  full : End  -- its inbox has no room

pub data Look : Type 0 where
  idle : Look  -- it listens, and nothing is pending
  crowded : List ℕ → Look  -- it listens at this name, pending at or above backlog
  peered : (p : ℕ) → End → Look  -- it is connected to p, and this is so

abbrev pub FactL : Look → List ℕ → ℕ → List ℕ → Type 0
FactL idle m b q = q ≡ []
FactL (crowded n) m b q = (same m n ≡ true) × (b ≤ length q)
FactL (peered p e) m b q = ⊥

abbrev pub FactE : ℕ → End → Inbox → Bool → Bool → Type 0
FactE c linked i x y = Unit {0}
FactE c silent i x y = (is_nil i.bytes ≡ true) × (x ≡ false)
FactE c sending i x y = y ≡ false
FactE c full i x y = c ≤ length i.bytes

abbrev pub FactC : ℕ → Look → ℕ → Inbox → Bool → Bool → Type 0
FactC c idle p i x y = ⊥
FactC c (crowded n) p i x y = ⊥
FactC c (peered p' e) p i x y = (p ≡ p') × FactE c e i x y

abbrev pub Fact : ℕ → Look → State → Type 0
Fact c k State.Unbound = ⊥
Fact c k (State.Bound m) = ⊥
Fact c k (State.Listening m b q) = FactL k m b q
Fact c k (State.Connected p i x y) = FactC c k p i x y

-- whom the change of a look of socket g must be told: itself, its peer, or the registry
abbrev pub key_e : End → ℕ → ℕ → ℕ
key_e linked g p = p
key_e silent g p = g
key_e sending g p = g
key_e full g p = p

abbrev pub key : Look → ℕ → ℕ
key idle g = g
key (crowded n) g = 0
key (peered p e) g = key_e e g p

abbrev pub Gone : Look → Table → ℕ → Type 0
Gone idle u k = is_open u k ≡ false
Gone (crowded n) u k = ⊥
Gone (peered p e) u k = is_open u k ≡ false

-- it is in the wakes, or is itself closed
abbrev pub Told : Table → List ℕ → Look → ℕ → Type 0
Told u w k g = Memᴰ (key k g) w ⊎ Gone k u (key k g)

-- socket g is open and shows k
abbrev pub Shows : ℕ → Table → Look → ℕ → Type 0
Shows c t k g = (is_open t g ≡ true) × Fact c k (state_of t g)

-- each look of each socket is the same after the change, or is told
pub record Calm (c : ℕ) (t : Table) (w : List ℕ) (u : Table) : Type 0 where
  pub capacity : u.capacity ≡ t.capacity
  pub says : (k : Look) (g : ℕ) → Shows c t k g → Shows c u k g ⊎ Told u w k g

-- nothing that was closed is open
pub record Fewer (t u : Table) : Type 0 where
  pub shut : (g : ℕ) → is_open t g ≡ false → is_open u g ≡ false

pub calm_refl : {c : ℕ} {t : Table} {w : List ℕ} → Calm c t w t
calm_refl = record { capacity = refl; says = λ k g s. inl s }

gone_fewer : {t u : Table} (k : Look) (g : ℕ) → Fewer t u → Gone k t g → Gone k u g
gone_fewer idle g f o = f.shut g o
gone_fewer (crowded n) g f o = o
gone_fewer (peered p e) g f o = f.shut g o

pub told_fewer : {t u : Table} {w : List ℕ} (k : Look) (g : ℕ) → Fewer t u → Told t w k g → Told u w k g
told_fewer k g f (inl m) = inl m
told_fewer k g f (inr o) = inr (gone_fewer k (key k g) f o)

pub calm_then : {c : ℕ} {t u v : Table} {w : List ℕ} → Calm c t w u → Calm c u w v → Fewer u v → Calm c t w v
calm_then a b f =
    record {
      capacity = b.capacity ∙ a.capacity;
      says = λ k g s. ⊎_elim (λ s'. b.says k g s') (λ m. inr (told_fewer k g f m)) (a.says k g s);
    }

pub calm_more : {c : ℕ} {t u : Table} {w w' : List ℕ} → ((x : ℕ) → Memᴰ x w → Memᴰ x w') → Calm c t w u → Calm c t w' u
calm_more f a = record { capacity = a.capacity; says = λ k g s. ⊎_elim (λ s'. inl s') (⊎_elim (λ m. inr (inl (f _ m))) (λ o. inr (inr o))) (a.says k g s) }

-- ── the four changes of a table ──

pub fewer_become : (t : Table) (h : ℕ) (σ : State) → Fewer t (become t h σ)
fewer_become t h σ = record { shut = λ g o. open_become t h σ g ∙ o }

-- a socket changes its state: each look of the old state is in the new one, or told
pub record Turn (c : ℕ) (t : Table) (w : List ℕ) (h : ℕ) (σ σ' : State) : Type 0 where
  pub turns : (k : Look) → Fact c k σ → Fact c k σ' ⊎ Told t w k h

pub calm_become : {c : ℕ} {w : List ℕ} {σ : State} (t : Table) (h : ℕ) (σ' : State) → is_open t h ≡ true → state_of t h ≡ σ → Turn c t w h σ σ' → Calm c t w (become t h σ')
unfolding become
calm_become {c} {w} t h σ' o is turn =
    record {
      capacity = refl;
      says = λ k g s.
          ⊎_elim
          (λ e. let gh = open_same t g h s.0 o e.0 in
          ⊎_elim
          (λ f. inl (open_become t h σ' g ∙ s.0, subst (Fact c k) (sym e.1) f))
          (λ m. inr (told_fewer k g (fewer_become t h σ') (subst (Told t w k) (sym gh) m)))
          (turn.turns k (subst (Fact c k) (ap (state_of t) gh ∙ is) s.1)))
          (λ e. inl (open_become t h σ' g ∙ s.0, subst (Fact c k) (sym e) s.1))
          (state_become t h σ' g);
    }

pub calm_give : {c : ℕ} {w : List ℕ} (t : Table) (h : ℕ) → Calm c t w (give t h)
unfolding give
calm_give {c} {w} t h = record { capacity = refl; says = λ k g s. inl (open_give t h g ∙ s.0, subst (Fact c k) (sym (state_give t h g)) s.1) }

pub fewer_give : (t : Table) (h : ℕ) → Fewer t (give t h)
fewer_give t h = record { shut = λ g o. open_give t h g ∙ o }

pub calm_enter : {c : ℕ} {w : List ℕ} (t : Table) (i : ℕ) (b : Bool) (σ : State) → (at t i).in_use ≡ false → Calm c t w (enter t i b σ)
unfolding enter
calm_enter {c} {w} t i b σ v =
    record { capacity = refl; says = λ k g s. let e = enter_open t i b σ g v s.0 in inl (e.0, subst (Fact c k) (sym e.1) s.1) }

pub fewer_leave : (t : Table) (h : ℕ) → Fewer t (leave t h)
fewer_leave t h = record { shut = λ g o. ⊎_elim (λ e. e.1) (λ e. e.0 ∙ o) (at_leave t h g) }

fewer_then : {t u v : Table} → Fewer t u → Fewer u v → Fewer t v
fewer_then a b = record { shut = λ g o. b.shut g (a.shut g o) }

pub fewer-close_all : (t : Table) (hs : List ℕ) → Fewer t (close_all t hs).next
unfolding close_all
fewer-close_all t [] = record { shut = λ g o. o }
fewer-close_all t (h ∷ hs) = fewer_then (fewer_leave t h) (fewer-close_all (leave t h) hs)

-- what is closed has told its peer or the registry
pub open_one-told : (t : Table) (p : ℕ) → Memᴰ p (open_one t p) ⊎ (is_open t p ≡ false)
unfolding open_one
open_one-told t p = cond_both (λ l. Memᴰ p l ⊎ (is_open t p ≡ false)) (is_open t p) (λ e. inl (Memᴰ.head refl)) (λ e. inr e)

told_peer : (t : Table) (h p p' : ℕ) → p ≡ p' → Memᴰ p' (open_one t p) ⊎ (is_open (leave t h) p' ≡ false)
told_peer t h p p' e =
    rw (← e) (⊎_elim (λ m. inl m) (λ o. inr ((fewer_leave t h).shut p o)) (open_one-told t p))

told_leave : (c : ℕ) (t : Table) (h : ℕ) (σ : State) (k : Look) (g : ℕ) → is_open (leave t h) g ≡ false → Fact c k σ → Told (leave t h) (close_wakes t σ) k g
unfolding close_wakes
told_leave c t h State.Unbound k g o f = absurd f
told_leave c t h (State.Bound m) k g o f = absurd f
told_leave c t h (State.Listening m b q) idle g o f = inr o
told_leave c t h (State.Listening m b q) (crowded n) g o f = inl (Memᴰ.head refl)
told_leave c t h (State.Listening m b q) (peered p e) g o f = absurd f
told_leave c t h (State.Connected p i x y) idle g o f = absurd f
told_leave c t h (State.Connected p i x y) (crowded n) g o f = absurd f
told_leave c t h (State.Connected p i x y) (peered p' linked) g o f = told_peer t h p p' f.0
told_leave c t h (State.Connected p i x y) (peered p' silent) g o f = inr o
told_leave c t h (State.Connected p i x y) (peered p' sending) g o f = inr o
told_leave c t h (State.Connected p i x y) (peered p' full) g o f = told_peer t h p p' f.0

-- slot of h is left: whoever looked at it is told
pub calm_leave : {c : ℕ} (t : Table) (h : ℕ) → Calm c t (close_wakes t (state_of t h)) (leave t h)
unfolding leave state_of
calm_leave {c} t h =
    record {
      capacity = refl;
      says = λ k g s.
          ⊎_elim
          (λ e. inr (told_leave c t h (state_of t h) k g e.1 (subst (λ i. Fact c k (at t i).state) e.0 s.1)))
          (λ e. inl (e.0 ∙ s.0, subst (Fact c k) (sym e.1) s.1))
          (at_leave t h g);
    }

-- several sockets close, one after another
pub calm-close_all : {c : ℕ} (t : Table) (hs : List ℕ) → Calm c t (close_all t hs).wakes (close_all t hs).next
unfolding close_all
calm-close_all t [] = calm_refl
calm-close_all t (h ∷ hs) =
    calm_then
    (calm_more (λ x m. Memᴰ.append_left _ m) (calm_leave t h))
    (calm_more (λ x m. Memᴰ.append_right (close_wakes t (state_of t h)) m) (calm-close_all (leave t h) hs))
    (fewer-close_all (leave t h) hs)
