-- The bits of a socket's readiness: in one call none rises, or the socket is woken.
use mathlib.Core.Path.{◌≡◌, refl, sym, ap, ◌∙◌, subst}
use mathlib.Core.Logic.{◌⊎◌, inl, inr, ⊎_elim}
use mathlib.Core.Option.{some}
use Prim.Native.Nat.{ℕ, ◌+◌, ◌/◌, ◌%◌, ◌≤◌}
use native.Mathlib.Omega.{arith}
use mathlib.Core.Bool.{Bool, true, false, cond, not, ◌&&◌, ◌||◌, true≢false, false≢true, and-false}
use mathlib.Core.List.{List, [], ◌∷◌, Memᴰ}
use borrow.Author.Tests.{le-ltb, ltb-false, not-false}
use Rattle.laws.proofs.Tests.{cond_both, or_left, or_right}
use Rattle.rules.specs.WellFormed.{is_connected}
use Rattle.rules.proofs.Model.{Table, State, Inbox, Call, is_open, state_of, is_nil, queued, has_room, ready, run}
use Rattle.rules.proofs.Frame.{none_some, some_inj}
use Rattle.rules.proofs.Wf.{peer_of, WellFormed}
use Rattle.rules.proofs.Ends.{out_of}
use Rattle.rules.proofs.Calm.{End, Look, Fact, Shows, key, Calm}
use Rattle.rules.proofs.Each.{calm_run}
use Rattle.rules.proofs.Moves.{Next, Moves, tells_run}
use Rattle.rules.proofs.Closing.{conn_peer}

-- no bit of a readiness is set that was not
pub record Level (r r' : ℕ) : Type 0 where
  pub read : r' % 2 ≤ r % 2
  pub write : r' / 2 % 2 ≤ r / 2 % 2
  pub hung : r' / 4 ≤ r / 4

-- a state that has a peer
record Joined (σ : State) (p : ℕ) : Type 0 where
  inbox : Inbox
  in_closed : Bool
  out_closed : Bool
  is : σ ≡ State.Connected p inbox in_closed out_closed

as_connected : (σ : State) {p : ℕ} → peer_of σ ≡ some p → Joined σ p
unfolding peer_of
as_connected State.Unbound e = absurd (none_some e)
as_connected (State.Bound m) e = absurd (none_some e)
as_connected (State.Listening m b q) e = absurd (none_some e)
as_connected (State.Connected p i x y) e = record { inbox = i; in_closed = x; out_closed = y; is = ap (λ k. State.Connected k i x y) (some_inj e) }

-- of a socket that is not connected
plain_ready : (t : Table) (σ : State) → is_connected σ ≡ false → ready t σ ≡ cond (is_nil (queued σ)) 0 1
unfolding is_connected queued ready is_nil
plain_ready t State.Unbound e = refl
plain_ready t (State.Bound m) e = refl
plain_ready t (State.Listening m b q) e = refl
plain_ready t (State.Connected p i x y) e = absurd (true≢false e)

nil_is : (q : List ℕ) → is_nil q ≡ true → q ≡ []
unfolding is_nil
nil_is [] e = refl
nil_is (x ∷ q) e = absurd (false≢true e)

level_plain : (t u : Table) (σ σ' : State) → is_connected σ ≡ false → is_connected σ' ≡ false → (queued σ ≡ [] → queued σ' ≡ []) → Level (ready t σ) (ready u σ')
unfolding is_nil
level_plain t u σ σ' a b f =
    rw (plain_ready t σ a, plain_ready u σ' b)
    (cond_both (λ r. Level r (cond (is_nil (queued σ')) 0 1)) (is_nil (queued σ))
    (λ e. rw (f (nil_is (queued σ) e)) (omega arith))
    (λ e. cond_both (Level 1) (is_nil (queued σ')) (λ _. omega arith) (λ _. omega arith)))

-- of a connected one whose peer is open: a for the readable bit, b for the writable one
bits : (a b : Bool) → ((cond a 1 0 + cond b 2 0) % 2 ≡ cond a 1 0) × ((cond a 1 0 + cond b 2 0) / 2 % 2 ≡ cond b 1 0) × ((cond a 1 0 + cond b 2 0) / 4 ≡ 0)
bits true true = (refl, refl, refl)
bits true false = (refl, refl, refl)
bits false true = (refl, refl, refl)
bits false false = (refl, refl, refl)

under : (a a' : Bool) → (a ≡ false → a' ≡ false) → cond {A = ℕ} a' 1 0 ≤ cond a 1 0
under true a' f = cond_both (λ (n : ℕ). n ≤ 1) a' (λ _. omega arith) (λ _. omega arith)
under false a' f = rw (f refl) (omega arith)

level_bits : (a b a' b' : Bool) → (a ≡ false → a' ≡ false) → (b ≡ false → b' ≡ false) → Level (cond a 1 0 + cond b 2 0) (cond a' 1 0 + cond b' 2 0)
level_bits a b a' b' f g =
    let m = bits a b in
    let n = bits a' b' in
    record { read = rw (m.0, n.0) (under a a' f); write = rw (m.1, n.1) (under b b' g); hung = rw (m.2, n.2) (omega arith) }

full_room : (u : Table) (h c : ℕ) (σ : State) → u.capacity ≡ c → Fact c (Look.peered h End.full) σ → has_room u σ ≡ false
unfolding has_room
full_room u h c State.Unbound e f = refl
full_room u h c (State.Bound m) e f = refl
full_room u h c (State.Listening m b q) e f = refl
full_room u h c (State.Connected p i x y) e f = rw e (le-ltb _ _ f.1)

module _ (t : Table) (w : WellFormed t) (y : Call) (h : ℕ) (o : is_open t h ≡ true) (o' : is_open (run t y).next h ≡ true) where
  abbrev u : Table
  u = (run t y).next

  -- h is in the wakes
  abbrev Told : Type 0
  Told = Memᴰ h (run t y).wakes

  calm : Calm t.capacity t (run t y).wakes u
  calm = (calm_run t w.sized y).calm

  pub moves : Moves t (run t y).wakes u
  moves = (tells_run t w.sized y).moves

  -- what a socket shows, and h must be told of, it still shows, or h is told
  look : (p : ℕ) (k : End) (g : ℕ) → key (Look.peered p k) g ≡ h → Shows t.capacity t (Look.peered p k) g → Shows t.capacity u (Look.peered p k) g ⊎ Told
  look p k g z s =
      ⊎_elim
      (λ a. inl a)
      (⊎_elim (λ m. inr (subst (λ j. Memᴰ j (run t y).wakes) z m)) (λ d. absurd (true≢false (sym o' ∙ ap (is_open u) (sym z) ∙ d))))
      (calm.says (Look.peered p k) g s)

  module _ (p : ℕ) (i : Inbox) (x out : Bool) (e : state_of t h ≡ State.Connected p i x out)
      (i' : Inbox) (x' out' : Bool) (e' : state_of u h ≡ State.Connected p i' x' out') (n : out ≡ true → out' ≡ true) where
    -- the peer is gone
    level_gone : is_open t p ≡ false → Level (ready t (State.Connected p i x out)) (ready u (State.Connected p i' x' out'))
    unfolding ready peer_of
    level_gone a = rw (a, moves.shut p (w.past h p o (ap peer_of e)) a) (omega arith)

    -- or open
    module _ (a : is_open t p ≡ true) where
      back : Joined (state_of t p) h
      unfolding peer_of
      back = as_connected (state_of t p) (w.paired h p o (ap peer_of e) a)

      still_open : (is_open u p ≡ true) ⊎ Told
      still_open = ⊎_elim (λ z. inl z.0) (λ m. inr m) (look h End.linked p refl (a, rw back.is (refl, tt)))

      -- the readable bit
      read_level : ((not (is_nil i.bytes) || x) ≡ false → (not (is_nil i'.bytes) || x') ≡ false) ⊎ Told
      read_level = go (not (is_nil i.bytes) || x) refl
        where
          go : (b : Bool) → (not (is_nil i.bytes) || x) ≡ b → (b ≡ false → (not (is_nil i'.bytes) || x') ≡ false) ⊎ Told
          go true z = inl (λ f. absurd (true≢false f))
          go false z =
              ⊎_elim
              (λ s. let f = subst (Fact t.capacity (Look.peered p End.silent)) e' s.1 in inl (λ _. rw (f.1.0, f.1.1) refl))
              (λ m. inr m)
              (look p End.silent h refl (o, rw e (refl, (not-false _ (or_left (not (is_nil i.bytes)) x z), or_right (not (is_nil i.bytes)) x z))))

      -- the writable bit
      write_level : ((not out && has_room t (state_of t p)) ≡ false → (not out' && has_room u (state_of u p)) ≡ false) ⊎ Told
      unfolding has_room
      write_level = go out (has_room t (state_of t p)) refl n
        where
          go : (d r : Bool) → has_room t (state_of t p) ≡ r → (d ≡ true → out' ≡ true) → (not d && r ≡ false → (not out' && has_room u (state_of u p)) ≡ false) ⊎ Told
          go true r z f = inl (λ _. rw (f refl) refl)
          go false true z f = inl (λ v. absurd (true≢false v))
          go false false z f =
              ⊎_elim
              (λ s. inl (λ _. rw (full_room u h t.capacity (state_of u p) calm.capacity s.1) (and-false (not out'))))
              (λ m. inr m)
              (look h End.full p refl (a, rw back.is (refl, ltb-false _ _ (rw back.is at z))))

      level_here : Level (ready t (State.Connected p i x out)) (ready u (State.Connected p i' x' out')) ⊎ Told
      unfolding ready
      level_here =
          ⊎_elim
          (λ b. ⊎_elim (λ r. ⊎_elim (λ s. inl (rw a (rw b (level_bits _ _ _ _ r s)))) (λ m. inr m) write_level) (λ m. inr m) read_level)
          (λ m. inr m)
          still_open

  pub level : Next (state_of t h) (state_of u h) → (b : Bool) → is_connected (state_of t h) ≡ b → Level (ready t (state_of t h)) (ready u (state_of u h)) ⊎ Told
  unfolding out_of
  level n false z = inl (level_plain t u (state_of t h) (state_of u h) z (n.plain z) n.none)
  level n true z =
      let p = conn_peer t (state_of t h) z in
      let was = as_connected (state_of t h) p.is in
      let is = as_connected (state_of u h) (n.peer p.peer p.is) in
      let closed : was.out_closed ≡ true → is.out_closed ≡ true = λ e. ap out_of (sym is.is) ∙ n.out (ap out_of was.is ∙ e) in
      rw (was.is, is.is)
      (go p.peer was.inbox was.in_closed was.out_closed was.is is.inbox is.in_closed is.out_closed is.is closed (is_open t p.peer) refl)
    where
      go : (p : ℕ) (i : Inbox) (x out : Bool) (e : state_of t h ≡ State.Connected p i x out) (i' : Inbox) (x' out' : Bool) (e' : state_of u h ≡ State.Connected p i' x' out')
          → (out ≡ true → out' ≡ true) → (b : Bool) → is_open t p ≡ b → Level (ready t (State.Connected p i x out)) (ready u (State.Connected p i' x' out')) ⊎ Told
      go p i x out e i' x' out' e' n true a = level_here p i x out e i' x' out' e' n a
      go p i x out e i' x' out' e' n false a = inl (level_gone p i x out e i' x' out' e' n a)
