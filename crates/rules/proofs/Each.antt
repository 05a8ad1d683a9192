-- Each call tells whoever looks at what it changes.
use mathlib.Core.Path.{◌≡◌, refl, sym, ap, ◌∙◌, subst}
use mathlib.Core.Logic.{◌⊎◌, inl, inr, ⊎_elim}
use Prim.Native.Nat.{ℕ, ◌≤◌, ◌<◌}
use native.Mathlib.Omega.{arith}
use mathlib.Core.Bool.{Bool, true, false, cond, ◌||◌, true≢false, false≢true}
use mathlib.Core.List.{List, [], ◌∷◌, Memᴰ}
use lib.ListN.{length, length-append}
use lib.Dec.{ltb}
use borrow.Author.Tests.{ltb-false}
use Rattle.laws.proofs.Tests.{cond_both}
use Rattle.rules.proofs.Model.{Table, State, Inbox, Call, Outcome, at, is_open, state_of, become, enter, is_nil, open_one, free_slot, new_handle, nothing, close_ends, connected, drained, do_shutdown, do_close, run}
use Rattle.rules.proofs.Frame.{open_become, open_same, state_become, enter_open, live_open, unbound_not_listening, cons-nil}
use Rattle.rules.proofs.Walk.{Steps, walk}
use Rattle.rules.proofs.Calm.{End, Look, FactL, FactC, Told, Calm, Turn, calm_refl, calm_then, calm_become, fewer_become, calm_give, fewer_give, calm_enter, calm-close_all, open_one-told}

-- ── changes of state ──

turn_unbound : {c : ℕ} {t : Table} {w : List ℕ} {h : ℕ} {σ : State} → Turn c t w h State.Unbound σ
turn_unbound = record { turns = λ k f. absurd f }

turn_bound : {c : ℕ} {t : Table} {w : List ℕ} {h : ℕ} {m : List ℕ} {σ : State} → Turn c t w h (State.Bound m) σ
turn_bound = record { turns = λ k f. absurd f }

-- of a listening socket, and of a connected one: what is left to say
turn_listening : {c : ℕ} {t : Table} {w : List ℕ} {h : ℕ} {m : List ℕ} {b : ℕ} {q : List ℕ} {b' : ℕ} {q' : List ℕ}
    → (q ≡ [] → (q' ≡ []) ⊎ Memᴰ h w)
    → (b ≤ length q → (b' ≤ length q') ⊎ Memᴰ 0 w)
    → Turn c t w h (State.Listening m b q) (State.Listening m b' q')
turn_listening {c} {t} {w} {h} {m} {b} {q} {b'} {q'} a r = record { turns = go }
  where
    go : (k : Look) → FactL k m b q → FactL k m b' q' ⊎ Told t w k h
    go Look.idle f = ⊎_elim (λ e. inl e) (λ m. inr (inl m)) (a f)
    go (Look.crowded n) f = ⊎_elim (λ e. inl (f.0, e)) (λ m. inr (inl m)) (r f.1)
    go (Look.peered p e) f = absurd f

turn_connected : {c : ℕ} {t : Table} {w : List ℕ} {h p : ℕ} {i : Inbox} {x y : Bool} {i' : Inbox} {x' y' : Bool}
    → ((is_nil i.bytes ≡ true) × (x ≡ false) → ((is_nil i'.bytes ≡ true) × (x' ≡ false)) ⊎ Memᴰ h w)
    → (y ≡ false → (y' ≡ false) ⊎ Memᴰ h w)
    → (c ≤ length i.bytes → (c ≤ length i'.bytes) ⊎ Memᴰ p w ⊎ (is_open t p ≡ false))
    → Turn c t w h (State.Connected p i x y) (State.Connected p i' x' y')
turn_connected {c} {t} {w} {h} {p} {i} {x} {y} {i'} {x'} {y'} a r l = record { turns = go }
  where
    go : (k : Look) → FactC c k p i x y → FactC c k p i' x' y' ⊎ Told t w k h
    go Look.idle f = absurd f
    go (Look.crowded n) f = absurd f
    go (Look.peered q End.linked) f = inl f
    go (Look.peered q End.silent) f = ⊎_elim (λ e. inl (f.0, e)) (λ m. inr (inl m)) (a f.1)
    go (Look.peered q End.sending) f = ⊎_elim (λ e. inl (f.0, e)) (λ m. inr (inl m)) (r f.1)
    go (Look.peered q End.full) f = ⊎_elim (λ e. inl (f.0, e)) (λ m. inr (subst (λ z. Memᴰ z w ⊎ (is_open t z ≡ false)) f.0 m)) (l f.1)

-- a socket that is told may have its ends closed
turn_ends : {c : ℕ} (t : Table) (w : List ℕ) (h : ℕ) (a b : Bool) (σ : State) → Memᴰ h w → Turn c t w h σ (close_ends a b σ)
unfolding close_ends
turn_ends t w h a b State.Unbound m = turn_unbound
turn_ends t w h a b (State.Bound n) m = turn_bound
turn_ends t w h a b (State.Listening n k q) m = turn_listening (λ e. inl e) (λ e. inl e)
turn_ends t w h a b (State.Connected p i x y) m = turn_connected (λ f. inr m) (λ f. inr m) (λ f. inl f)

open_one-in : (t : Table) (p : ℕ) → is_open t p ≡ true → Memᴰ p (open_one t p)
open_one-in t p a = ⊎_elim (λ m. m) (λ e. absurd (true≢false (sym a ∙ e))) (open_one-told t p)

-- ── every call ──

-- what P of the walk says of an outcome here
pub record Good (t : Table) (o : Outcome) : Type 0 where
  pub calm : Calm t.capacity t o.wakes o.next

module _ (t : Table) (fit : length t.slots ≤ 1024) where
  good_connect : (h l : ℕ) (m : List ℕ) (b : ℕ) (q : List ℕ) → is_open t h ≡ true → state_of t h ≡ State.Unbound → is_open t l ≡ true → state_of t l ≡ State.Listening m b q
      → (at t (free_slot t)).in_use ≡ false → Calm t.capacity t (l ∷ h ∷ []) (connected t h l m b q)
  unfolding connected
  good_connect h l m b q o un ol e v =
      let s = free_slot t in
      let σ₁ : State = State.Connected h nothing false false in
      let σ₂ : State = State.Connected (new_handle t) nothing false false in
      let t₁ : Table = enter t s false σ₁ in
      let t₂ : Table = become t₁ h σ₂ in
      let eh = enter_open t s false σ₁ h v o in
      let el = enter_open t s false σ₁ l v ol in
      calm_then
      (calm_then (calm_enter t s false σ₁ v) (calm_become t₁ h σ₂ eh.0 (eh.1 ∙ un) turn_unbound) (fewer_become t₁ h σ₂))
      (calm_become t₂ l _ (open_become t₁ h σ₂ l ∙ el.0)
      (⊎_elim (λ z. absurd (unbound_not_listening (sym un ∙ ap (state_of t) (open_same t h l o ol (sym z.0)) ∙ e))) (λ z. z ∙ el.1 ∙ e) (state_become t₁ h σ₂ l))
      (turn_listening (λ z. inr (Memᴰ.head refl)) (λ z. inl (simp length-append (omega arith)))))
      (fewer_become t₂ l _)

  good_shutdown : (h p : ℕ) (i : Inbox) (x y rd wr : Bool) → is_open t h ≡ true → state_of t h ≡ State.Connected p i x y → Good t (do_shutdown t h rd wr (State.Connected p i x y))
  unfolding do_shutdown
  good_shutdown h p i x y rd wr o e =
      let σ' : State = State.Connected p (cond rd nothing i) (x || rd) (y || wr) in
      let u : Table = become t h σ' in
      let w : List ℕ = h ∷ open_one t p in
      let mine : Calm t.capacity t w u =
      calm_become t h σ' o e
      (turn_connected (λ f. inr (Memᴰ.head refl)) (λ f. inr (Memᴰ.head refl)) (λ f. inr (⊎_elim (λ m. inl (Memᴰ.tail m)) (λ g. inr g) (open_one-told t p)))) in
      record {
        calm =
            cond_both (λ v. Calm t.capacity t w v) (is_open t p)
            (λ a. calm_then mine (calm_become u p _ (open_become t h σ' p ∙ a) refl (turn_ends u w p wr rd (state_of u p) (Memᴰ.tail (open_one-in t p a)))) (fewer_become u p _))
            (λ a. mine);
      }

  good_steps : Steps t (Good t)
  unfolding drained do_close
  good_steps =
      record {
        refused = λ n. record { calm = calm_refl };
        unchanged = λ v. record { calm = calm_refl };
        socket = λ r v y. record { calm = calm_enter t (free_slot t) true State.Unbound v };
        bind = λ h n l e a b f. record { calm = calm_become t h _ (live_open t h l) e turn_unbound };
        listen = λ h k m l e. record { calm = calm_become t h _ (live_open t h l) e turn_bound };
        again = λ h k m b q l e.
            record {
              calm =
                  calm_become t h _ (live_open t h l) e
                  (turn_listening
                  (λ z. inl z)
                  (λ z. cond_both (λ w. (k ≤ length q) ⊎ Memᴰ {A = ℕ} 0 w) (ltb b k) (λ _. inr (Memᴰ.head refl)) (λ n. inl (omega (arith, ltb-false b k n)))));
            };
        accept = λ h m b s q l e.
            record {
              calm =
                  calm_then
                  (calm_become t h _ (live_open t h l) e (turn_listening (λ z. absurd (cons-nil z)) (λ z. inr (Memᴰ.head refl))))
                  (calm_give _ s)
                  (fewer_give _ s);
            };
        connect = λ h k m b q l un o e f r v y. record { calm = good_connect h k m b q (live_open t h l) un o e v };
        read = λ h k m p i x y l e n.
            record { calm = calm_become t h _ (live_open t h l) e (turn_connected (λ f. absurd (false≢true (sym n ∙ f.0))) (λ f. inl f) (λ f. inr (open_one-told t p))) };
        write = λ h p i x y new its o e r f g.
            record { calm = calm_become t p _ o e (turn_connected (λ f. inr (Memᴰ.head refl)) (λ f. inl f) (λ f. absurd (no_room f r))) };
        shutdown = λ h p i x y rd wr l e. good_shutdown h p i x y rd wr (live_open t h l) e;
        close = λ h l. record { calm = calm-close_all t _ };
      }
    where
      no_room : {a b : ℕ} → a ≤ b → b < a → ⊥
      no_room f r = omega arith

  pub calm_run : (y : Call) → Good t (run t y)
  calm_run y = walk t fit (Good t) good_steps y
