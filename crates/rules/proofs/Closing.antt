-- Sockets that close, one after the other: who is woken is open, and is woken once.
use mathlib.Core.Path.{◌≡◌, refl, sym, ap, ◌∙◌, subst}
use mathlib.Core.Logic.{◌≢◌, ◌⊎◌, inl, inr, ⊎_elim}
use mathlib.Core.Option.{some}
use Prim.Native.Nat.{ℕ}
use mathlib.Core.Bool.{true, true≢false, false≢true}
use mathlib.Core.List.{List, [], ◌∷◌, ◌++◌, Memᴰ}
use Rattle.laws.proofs.Tests.{cond_both}
use Rattle.rules.specs.WellFormed.{is_connected}
use Rattle.rules.proofs.Model.{Table, State, slot_of, is_open, state_of, leave, open_one, close_wakes, queued, close_all}
use Rattle.rules.proofs.Frame.{open_leave, open_same, at_leave, slots_apart, some_inj, given_of}
use Rattle.rules.proofs.Wf.{peer_of, WellFormed, wf_steady, steady-close_all}
use Rattle.rules.proofs.Queues.{Once, Pending, Queues}
use Rattle.rules.proofs.Clients.{Clients}

-- ── the sockets that are woken ──

pub open_one-is : (t : Table) (p x : ℕ) → Memᴰ x (open_one t p) → (x ≡ p) × (is_open t p ≡ true)
unfolding open_one
open_one-is t p x = cond_both (λ l. Memᴰ x l → (x ≡ p) × (is_open t p ≡ true)) (is_open t p) (λ o m. (mathlib.Core.List.Memᴰ.eq_of_singleton m, o)) (λ o m. absurd (mathlib.Core.List.Memᴰ.not-nil m))

pub open_one-once : (t : Table) (p : ℕ) (rest : List ℕ) → (is_open t p ≡ true → Memᴰ p rest → ⊥) → Once rest → Once (open_one t p ++ rest)
unfolding open_one
open_one-once t p rest f a = cond_both (λ l. Once (l ++ rest)) (is_open t p) (λ o. (f o, a)) (λ _. a)

leave_other : (t : Table) (h g : ℕ) → is_open t h ≡ true → is_open t g ≡ true → g ≢ h → (is_open (leave t h) g ≡ true) × (state_of (leave t h) g ≡ state_of t g)
leave_other t h g o a n = ⊎_elim (λ z. absurd (slots_apart t g h a o n z.0)) (λ z. (z.0 ∙ a, z.1)) (at_leave t h g)

-- ── sockets that close, one after the other ──

-- they are open and connected, and none stands twice
record Row (t : Table) (hs : List ℕ) : Type 0 where
  apart : Once hs
  opens : (s : ℕ) → Memᴰ s hs → is_open t s ≡ true
  conns : (s : ℕ) → Memᴰ s hs → is_connected (state_of t s) ≡ true

-- when the first has closed, the others are what they were
module _ (t : Table) (h : ℕ) (hs : List ℕ) (r : Row t (h ∷ hs)) where
  row_other : (s : ℕ) → Memᴰ s hs → (is_open (leave t h) s ≡ true) × (state_of (leave t h) s ≡ state_of t s)
  row_other s m = leave_other t h s (r.opens h (mathlib.Core.List.Memᴰ.head refl)) (r.opens s (mathlib.Core.List.Memᴰ.tail m)) (λ e. r.apart.0 (mathlib.Core.List.Memᴰ.cast (sym e) m))

  row_rest : Row (leave t h) hs
  row_rest = record { apart = r.apart.1; opens = λ s m. (row_other s m).0; conns = λ s m. ap is_connected (row_other s m).1 ∙ r.conns s (mathlib.Core.List.Memᴰ.tail m) }

pub record Peer (t : Table) (σ : State) : Type 0 where
  pub peer : ℕ
  pub is : peer_of σ ≡ some peer
  pub wakes : close_wakes t σ ≡ open_one t peer

pub conn_peer : (t : Table) (σ : State) → is_connected σ ≡ true → Peer t σ
unfolding is_connected peer_of close_wakes
conn_peer t State.Unbound e = absurd (false≢true e)
conn_peer t (State.Bound m) e = absurd (false≢true e)
conn_peer t (State.Listening m b q) e = absurd (false≢true e)
conn_peer t (State.Connected p i x y) e = record { peer = p; is = refl; wakes = refl }

-- who is woken is the open peer of one of them
record By (t : Table) (hs : List ℕ) (x : ℕ) : Type 0 where
  by : ℕ
  among : Memᴰ by hs
  peer : peer_of (state_of t by) ≡ some x
  here : is_open t x ≡ true

told_by : (t : Table) (hs : List ℕ) (x : ℕ) → Row t hs → Memᴰ x (close_all t hs).wakes → By t hs x
unfolding close_all
told_by t [] x r m = absurd (mathlib.Core.List.Memᴰ.not-nil m)
told_by t (h ∷ hs) x r m =
    let rec : Memᴰ x (close_all (leave t h) hs).wakes → By (leave t h) hs x = told_by (leave t h) hs x (row_rest t h hs r) in
    let p = conn_peer t (state_of t h) (r.conns h (mathlib.Core.List.Memᴰ.head refl)) in
    ⊎_elim
    (λ a. let b = open_one-is t p.peer x (subst (Memᴰ x) p.wakes a) in
    record { by = h; among = mathlib.Core.List.Memᴰ.head refl; peer = p.is ∙ ap some (sym b.0); here = ap (is_open t) b.0 ∙ b.1 })
    (λ a. let b = rec a in
    record { by = b.by; among = mathlib.Core.List.Memᴰ.tail b.among; peer = ap peer_of (sym (row_other t h hs r b.by b.among).1) ∙ b.peer; here = (open_leave t h x b.here).0 })
    (mathlib.Core.List.Memᴰ.append_cases (close_wakes t (state_of t h)) m)

wf_leave : (t : Table) (h : ℕ) → WellFormed t → WellFormed (leave t h)
unfolding close_all
wf_leave t h w = wf_steady (steady-close_all t (h ∷ [])) w

-- nobody is woken twice: a socket is the peer of one
row_once : (t : Table) (hs : List ℕ) → WellFormed t → Row t hs → Once (close_all t hs).wakes
unfolding close_all
row_once t [] w r = tt
row_once t (h ∷ hs) w r =
    let p = conn_peer t (state_of t h) (r.conns h (mathlib.Core.List.Memᴰ.head refl)) in
    let rec : Once (close_all (leave t h) hs).wakes = row_once (leave t h) hs (wf_leave t h w) (row_rest t h hs r) in
    rw p.wakes
    (open_one-once t p.peer _
    (λ o m. let b = told_by (leave t h) hs p.peer (row_rest t h hs r) m in
    let s = b.by in
    let e : peer_of (state_of t s) ≡ some p.peer = ap peer_of (sym (row_other t h hs r s b.among).1) ∙ b.peer in
    let z : s ≡ h = some_inj (sym (w.paired s p.peer (r.opens s (mathlib.Core.List.Memᴰ.tail b.among)) e o) ∙ w.paired h p.peer (r.opens h (mathlib.Core.List.Memᴰ.head refl)) p.is o) in
    r.apart.0 (mathlib.Core.List.Memᴰ.cast (sym z) b.among))
    rec)

-- a socket that is in another slot stays open
stays : (t : Table) (hs : List ℕ) (x : ℕ) → is_open t x ≡ true → ((s : ℕ) → Memᴰ s hs → slot_of x ≢ slot_of s) → is_open (close_all t hs).next x ≡ true
unfolding close_all
stays t [] x o n = o
stays t (h ∷ hs) x o n =
    let rec : is_open (leave t h) x ≡ true → is_open (close_all (leave t h) hs).next x ≡ true = λ a. stays (leave t h) hs x a (λ s m. n s (mathlib.Core.List.Memᴰ.tail m)) in
    rec (⊎_elim (λ z. absurd (n h (mathlib.Core.List.Memᴰ.head refl) z.0)) (λ z. z.0 ∙ o) (at_leave t h x))

-- ── close ──

module _ (t : Table) (w : WellFormed t) (q : Queues t) (c : Clients t) (h : ℕ) (o : is_open t h ≡ true) where
  -- the pending servers of a listener, when it has closed
  module _ (m : List ℕ) (b : ℕ) (ss : List ℕ) (e : state_of t h ≡ State.Listening m b ss) where
    pends : (s : ℕ) → Memᴰ s ss → Pending t s
    unfolding queued
    pends s k = q.entries h s o (rw e k)

    not_pending : (s : ℕ) → Memᴰ s ss → s ≢ h
    unfolding is_connected
    not_pending s k z = false≢true (sym (ap is_connected (ap (state_of t) z ∙ e)) ∙ (pends s k).conn)

    still : (s : ℕ) → Memᴰ s ss → (is_open (leave t h) s ≡ true) × (state_of (leave t h) s ≡ state_of t s)
    still s k = leave_other t h s o (pends s k).here (not_pending s k)

    row : Row (leave t h) ss
    unfolding queued
    row = record { apart = subst (λ σ. Once (queued σ)) e (q.once h o); opens = λ s k. (still s k).0; conns = λ s k. ap is_connected (still s k).1 ∙ (pends s k).conn }

    -- who is woken is a client that is open, and no server that closes
    client_stays : (x : ℕ) → Memᴰ x (close_all (leave t h) ss).wakes → is_open (close_all (leave t h) ss).next x ≡ true
    client_stays x k =
        let a = told_by (leave t h) ss x row k in
        let s = pends a.by a.among in
        let given = c.clients a.by x s.here s.kept (ap peer_of (sym (still a.by a.among).1) ∙ a.peer) (open_leave t h x a.here).0 in
        stays (leave t h) ss x a.here λ s' k' z.
        true≢false (sym given ∙ ap (given_of t) (open_same (leave t h) x s' a.here (still s' k').0 z) ∙ (pends s' k').kept)

  pub close_occupied : (σ : State) → state_of t h ≡ σ → (x : ℕ) → Memᴰ x (close_wakes t σ ++ (close_all (leave t h) (queued σ)).wakes)
      → (x ≡ 0) ⊎ (is_open (close_all (leave t h) (queued σ)).next x ≡ true)
  unfolding close_wakes queued close_all peer_of
  close_occupied State.Unbound e x k = absurd (mathlib.Core.List.Memᴰ.not-nil k)
  close_occupied (State.Bound m) e x k = inl (mathlib.Core.List.Memᴰ.eq_of_singleton k)
  close_occupied (State.Listening m b ss) e x k = ⊎_elim (λ z. inl z) (λ z. inr (client_stays m b ss e x z)) (mathlib.Core.List.Memᴰ.cases_cons k)
  close_occupied (State.Connected p i x' y') e x k =
      ⊎_elim
      (λ z. let a = open_one-is t p x z in
      inr (leave_other t h x o (ap (is_open t) a.0 ∙ a.1) (λ d. w.apart h o (ap peer_of e ∙ ap some (sym a.0 ∙ d)))).0)
      (λ z. absurd (mathlib.Core.List.Memᴰ.not-nil z))
      (mathlib.Core.List.Memᴰ.append_cases (open_one t p) k)

  pub close_once : (σ : State) → state_of t h ≡ σ → Once (close_wakes t σ ++ (close_all (leave t h) (queued σ)).wakes)
  unfolding close_wakes queued close_all
  close_once State.Unbound e = tt
  close_once (State.Bound m) e = (λ k. mathlib.Core.List.Memᴰ.not-nil k, tt)
  close_once (State.Listening m b ss) e = (
    λ k. c.born 0 (open_leave t h 0 (told_by (leave t h) ss 0 (row m b ss e) k).here).0 refl,
    row_once (leave t h) ss (wf_leave t h w) (row m b ss e),
  )
  close_once (State.Connected p i x y) e = open_one-once t p [] (λ a k. mathlib.Core.List.Memᴰ.not-nil k) tt
