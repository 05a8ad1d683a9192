-- What may become of a socket in one call that does not wake it, and that a closed socket stays closed: so of every call.
use mathlib.Core.Path.{◌≡◌, refl, sym, ap, ◌∙◌, subst}
use mathlib.Core.Logic.{◌⊎◌, inl, inr, ⊎_elim}
use mathlib.Core.Option.{some}
use Prim.Native.Nat.{ℕ, ◌≤◌}
use native.Mathlib.Omega.{arith}
use mathlib.Core.Bool.{Bool, true, false, cond, ◌||◌, true≢false}
use mathlib.Core.List.Memᴰ
use mathlib.Core.List.{List, [], ◌∷◌, Memᴰ}
use lib.ListN.{length}
use Rattle.laws.proofs.Tests.{cond_both}
use Rattle.rules.specs.WellFormed.{is_connected}
use Rattle.rules.proofs.Model.{Table, State, Inbox, Call, Outcome, slot_of, handle_at, at, is_open, is_live, state_of, become, give, enter, free_slot, connected, queued, drained, do_shutdown, do_close, close_all, open_one, nothing, run}
use Rattle.rules.proofs.Frame.{live_open, open_become, open_give, state_give, become_at, at_enter, enter_open, cons-nil}
use Rattle.rules.proofs.Walk.{Steps, walk}
use Rattle.rules.proofs.Calm.{fewer_become, fewer_give, fewer-close_all, open_one-told}
use Rattle.rules.proofs.Wf.{peer_of}
use Rattle.rules.proofs.Ends.{out_of, close_all-old}

-- it gets no peer and no first server, keeps its peer, and its outbox does not open again
pub record Next (σ σ' : State) : Type 0 where
  pub plain : is_connected σ ≡ false → is_connected σ' ≡ false
  pub none : queued σ ≡ [] → queued σ' ≡ []
  pub peer : (p : ℕ) → peer_of σ ≡ some p → peer_of σ' ≡ some p
  pub out : out_of σ ≡ true → out_of σ' ≡ true

pub record Moves (t : Table) (w : List ℕ) (u : Table) : Type 0 where
  pub next : (g : ℕ) → is_open t g ≡ true → is_open u g ≡ true → Next (state_of t g) (state_of u g) ⊎ Memᴰ g w
  -- "a socket already closed"
  pub shut : (p : ℕ) → p ≤ handle_at t (slot_of p) → is_open t p ≡ false → is_open u p ≡ false

next_then : {a b c : State} → Next a b → Next b c → Next a c
next_then m n = record { plain = λ e. n.plain (m.plain e); none = λ e. n.none (m.none e); peer = λ p e. n.peer p (m.peer p e); out = λ e. n.out (m.out e) }

next_like : {σ σ' : State} → is_connected σ' ≡ is_connected σ → queued σ' ≡ queued σ → peer_of σ' ≡ peer_of σ → out_of σ' ≡ out_of σ → Next σ σ'
next_like a b c d = record { plain = λ e. a ∙ e; none = λ e. b ∙ e; peer = λ p e. c ∙ e; out = λ e. d ∙ e }

next_same : {σ σ' : State} → σ' ≡ σ → Next σ σ'
next_same z = next_like (ap is_connected z) (ap queued z) (ap peer_of z) (ap out_of z)

-- ── the changes of a table ──

moves_refl : {t : Table} {w : List ℕ} → Moves t w t
moves_refl = record { next = λ g o a. inl (next_same refl); shut = λ p l a. a }

moves_become : {t : Table} {w : List ℕ} (u : Table) (h : ℕ) (σ : State) → is_open u h ≡ true → Next (state_of u h) σ ⊎ Memᴰ h w → Moves t w u → Moves t w (become u h σ)
moves_become {t} {w} u h σ o n m =
    record {
      next = λ g a b.
          let c : is_open u g ≡ true = sym (open_become u h σ g) ∙ b in
          ⊎_elim
          (λ d. ⊎_elim
          (λ z. ⊎_elim (λ i. inl (next_then d (subst (λ ρ. Next (state_of u g) ρ) (sym z.1) (subst (λ k. Next (state_of u k) σ) (sym z.0) i)))) (λ i. inr (Memᴰ.cast z.0 i)) n)
          (λ z. inl (next_then d (next_same z.1)))
          (become_at u h σ g o c))
          (λ d. inr d)
          (m.next g a c);
      shut = λ p l a. (fewer_become u h σ).shut p (m.shut p l a);
    }

moves_give : {t : Table} {w : List ℕ} (u : Table) (h : ℕ) → Moves t w u → Moves t w (give u h)
moves_give u h m =
    record {
      next = λ g a b. ⊎_elim (λ d. inl (next_then d (next_same (state_give u h g)))) (λ d. inr d) (m.next g a (sym (open_give u h g) ∙ b));
      shut = λ p l a. (fewer_give u h).shut p (m.shut p l a);
    }

moves_enter : {w : List ℕ} (t : Table) (i : ℕ) (b : Bool) (σ : State) → (at t i).in_use ≡ false → Moves t w (enter t i b σ)
moves_enter t i b σ v =
    record {
      next = λ g o a. inl (next_same (enter_open t i b σ g v o).1);
      shut = λ p l a. go p l a (is_open (enter t i b σ) p) refl;
    }
  where
    go : (p : ℕ) → p ≤ handle_at t (slot_of p) → is_open t p ≡ false → (z : Bool) → is_open (enter t i b σ) p ≡ z → z ≡ false
    go p l a false e = refl
    go p l a true e = absurd (⊎_elim (λ z. let l' = rw z.1 at l in let n = z.0 in omega arith) (λ z. true≢false (sym z.0 ∙ a)) (at_enter t i b σ p e))

moves-close_all : {w : List ℕ} (t : Table) (hs : List ℕ) → Moves t w (close_all t hs).next
moves-close_all t hs =
    record { next = λ g o a. inl (next_same (close_all-old t hs g a).1); shut = λ p l a. (fewer-close_all t hs).shut p a }

-- ── every call ──

pub record Tells (t : Table) (o : Outcome) : Type 0 where
  pub moves : Moves t o.wakes o.next

module _ (t : Table) (fit : length t.slots ≤ 1024) where
  quiet : (w : List ℕ) (h : ℕ) (σ : State) → is_live t h ≡ true → Next (state_of t h) σ → Moves t w (become t h σ)
  quiet w h σ l n = moves_become t h σ (live_open t h l) (inl n) moves_refl

  tells_connect : (h k : ℕ) (m : List ℕ) (b : ℕ) (q : List ℕ) → is_open t h ≡ true → is_open t k ≡ true → (at t (free_slot t)).in_use ≡ false → Moves t (k ∷ h ∷ []) (connected t h k m b q)
  unfolding connected
  tells_connect h k m b q o o' v =
      let σ : State = State.Connected h nothing false false in
      let t₁ : Table = enter t (free_slot t) false σ in
      let old : (g : ℕ) → is_open t g ≡ true → is_open t₁ g ≡ true = λ g a. (enter_open t (free_slot t) false σ g v a).0 in
      moves_become _ k _ (open_become t₁ h _ k ∙ old k o') (inr (Memᴰ.head refl))
      (moves_become t₁ h _ (old h o) (inr (Memᴰ.tail (Memᴰ.head refl))) (moves_enter t (free_slot t) false σ v))

  tells_shutdown : (h p : ℕ) (i : Inbox) (x y rd wr : Bool) → is_open t h ≡ true → Tells t (do_shutdown t h rd wr (State.Connected p i x y))
  unfolding do_shutdown
  tells_shutdown h p i x y rd wr o =
      let u : Table = become t h (State.Connected p (cond rd nothing i) (x || rd) (y || wr)) in
      let mine : Moves t (h ∷ open_one t p) u = moves_become t h _ o (inr (Memᴰ.head refl)) moves_refl in
      record {
        moves =
            cond_both (Moves t (h ∷ open_one t p)) (is_open t p)
            (λ a. moves_become u p _ (open_become t h _ p ∙ a) (inr (Memᴰ.tail (⊎_elim (λ m. m) (λ e. absurd (true≢false (sym a ∙ e))) (open_one-told t p)))) mine)
            (λ _. mine);
      }

  steps : Steps t (Tells t)
  unfolding drained do_close is_connected queued peer_of out_of
  steps =
      record {
        refused = λ n. record { moves = moves_refl };
        unchanged = λ v. record { moves = moves_refl };
        socket = λ r v z. record { moves = moves_enter t (free_slot t) true State.Unbound v };
        bind = λ h n l e a b f. record { moves = quiet _ h _ l (rw e (next_like refl refl refl refl)) };
        listen = λ h k m l e. record { moves = quiet _ h _ l (rw e (next_like refl refl refl refl)) };
        again = λ h k m b q l e. record { moves = quiet _ h _ l (rw e (next_like refl refl refl refl)) };
        accept = λ h m b s q l e. record { moves = moves_give _ s (quiet _ h _ l (rw e (record { plain = λ z. z; none = λ z. absurd (cons-nil z); peer = λ p z. z; out = λ z. z }))) };
        connect = λ h k m b q l un o e f r v z. record { moves = tells_connect h k m b q (live_open t h l) o v };
        read = λ h k m p i x y l e n. record { moves = quiet _ h _ l (rw e (next_like refl refl refl refl)) };
        write = λ h p i x y new its o e r f g. record { moves = moves_become t p _ o (inr (Memᴰ.head refl)) moves_refl };
        shutdown = λ h p i x y rd wr l e. tells_shutdown h p i x y rd wr (live_open t h l);
        close = λ h l. record { moves = moves-close_all t _ };
      }

  pub tells_run : (y : Call) → Tells t (run t y)
  tells_run y = walk t fit (Tells t) steps y
