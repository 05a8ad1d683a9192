-- One case analysis of `run`, for every fact that is proved of all calls: what holds of a refusal and of each accepted outcome holds of every
-- call.
use mathlib.Core.Path.{◌≡◌, refl, sym, ap, ◌∙◌}
use Prim.Native.Nat.{ℕ, ◌+◌, ◌≤◌, ◌<◌, min}
use mathlib.Core.Bool.{Bool, true, false, cond, not, ◌&&◌, ◌||◌}
use mathlib.Core.List.{List, [], ◌∷◌}
use lib.ListN.{length, take}
use lib.Dec.{ltb}
use lib.IntN.{ℤ}
use borrow.Author.Tests.{leb-false, ltb-false, not-false}
use Rattle.laws.proofs.Tests.{or_right}
use Rattle.rules.proofs.Model.{Table, State, Inbox, Call, Outcome, Policy, refuse, refuse_if, answer, at, handle_at, is_open, is_live, state_of, become, give, enter, is_nil, all_items, append, room, is_full, holds, holder, no_slot, free_slot, new_handle, ready, connected, reach, drained, drain, send, do_socket, do_bind, do_listen, do_accept, do_connect, do_send, do_shutdown, do_close, on_live, on_name, run}
use Rattle.rules.proofs.Frame.{open_at, found_used, unbound_not_listening, free_unused, free_young}

-- P of each outcome, with what is known where the call comes to it
pub record Steps (t : Table) (P : Outcome → Type 0) : Type 0 where
  pub refused : (n : ℕ) → P (refuse t n)
  pub unchanged : (v : ℕ) → P (answer t v [] [])
  pub socket : free_slot t < length t.slots → (at t (free_slot t)).in_use ≡ false → (at t (free_slot t)).gen < 4294967295
      → P (answer (enter t (free_slot t) true State.Unbound) (new_handle t) [] [])
  pub bind : (h : ℕ) (n : List ℕ) → is_live t h ≡ true → state_of t h ≡ State.Unbound → is_nil n ≡ false → length n ≤ 255 → holds n (at t (holder t n)) ≡ false
      → P (answer (become t h (State.Bound n)) 0 [] [])
  pub listen : (h k : ℕ) (m : List ℕ) → is_live t h ≡ true → state_of t h ≡ State.Bound m → P (answer (become t h (State.Listening m k [])) 0 [] [])
  pub again : (h k : ℕ) (m : List ℕ) (b : ℕ) (q : List ℕ) → is_live t h ≡ true → state_of t h ≡ State.Listening m b q
      → P (answer (become t h (State.Listening m k q)) 0 (cond (ltb b k) (0 ∷ []) []) [])
  pub accept : (h : ℕ) (m : List ℕ) (b s : ℕ) (q : List ℕ) → is_live t h ≡ true → state_of t h ≡ State.Listening m b (s ∷ q)
      → P (answer (give (become t h (State.Listening m b q)) s) s (0 ∷ []) [])
  pub connect : (h l : ℕ) (m : List ℕ) (b : ℕ) (q : List ℕ) → is_live t h ≡ true → state_of t h ≡ State.Unbound → is_open t l ≡ true → state_of t l ≡ State.Listening m b q
      → length q < b → free_slot t < length t.slots → (at t (free_slot t)).in_use ≡ false → (at t (free_slot t)).gen < 4294967295
      → P (answer (connected t h l m b q) 0 (l ∷ h ∷ []) [])
  pub read : (h size : ℕ) (policy : Policy) (p : ℕ) (i : Inbox) (x y : Bool) → is_live t h ≡ true → state_of t h ≡ State.Connected p i x y → is_nil i.bytes ≡ false
      → P (drained t h size policy p i x y)
  pub write : (h p : ℕ) (i : Inbox) (x y : Bool) (new its : List ℕ) → is_open t p ≡ true → state_of t p ≡ State.Connected h i x y → length i.bytes < t.capacity
      → (not (is_nil its) && is_nil new) ≡ false → (not (is_nil its) && ltb 256 (length (all_items i.groups) + length its)) ≡ false
      → P (answer (become t p (State.Connected h (append i (take (room t i) new) its) x y)) (min (room t i) (length new)) (p ∷ []) [])
  pub shutdown : (h p : ℕ) (i : Inbox) (x y rd wr : Bool) → is_live t h ≡ true → state_of t h ≡ State.Connected p i x y → P (do_shutdown t h rd wr (State.Connected p i x y))
  pub close : (h : ℕ) → is_live t h ≡ true → P (do_close t h)

module _ (t : Table) (fit : length t.slots ≤ 1024) (P : Outcome → Type 0) (w : Steps t P) where
  guard : (b : Bool) (n : ℕ) (o : Outcome) → (b ≡ false → P o) → P (refuse_if b n t o)
  unfolding refuse_if
  guard true n o f = w.refused n
  guard false n o f = f refl

  on-live : (h : ℕ) (o : Outcome) → (is_live t h ≡ true → P o) → P (on_live t h o)
  unfolding on_live
  on-live h o f = guard (not (is_live t h)) 1 o λ e. f (not-false _ e)

  on-name : (h : ℕ) (n : List ℕ) (o : Outcome) → (is_live t h ≡ true → is_nil n ≡ false → length n ≤ 255 → P o) → P (on_name t h n o)
  unfolding on_name
  on-name h n o f = on-live h _ λ l. guard _ 2 _ λ a. guard _ 17 _ λ b. f l a (ltb-false 255 (length n) b)

  free : no_slot t ≡ false → free_slot t < length t.slots
  unfolding no_slot
  free e = leb-false _ _ e

  walk_socket : (d y p : ℤ) → P (do_socket t d y p)
  unfolding do_socket
  walk_socket d y p = guard _ 12 _ λ _. guard _ 14 _ λ _. guard _ 15 _ λ _. guard _ 16 _ λ e. w.socket (free e) (free_unused t e) (free_young t e)

  walk_send : (p : ℕ) → is_open t p ≡ true → (new its : List ℕ) (σ : State) → state_of t p ≡ σ → P (send t p new its σ)
  unfolding send
  walk_send p a new its State.Unbound e = w.refused 19
  walk_send p a new its (State.Bound m) e = w.refused 19
  walk_send p a new its (State.Listening m b q) e = w.refused 19
  walk_send p a new its (State.Connected h i x y) e = guard _ 8 _ λ r. guard _ 2 _ λ f. guard _ 11 _ λ g. w.write h p i x y new its a e (leb-false _ _ r) f g

  walk-do_send : (new its : List ℕ) (σ : State) → P (do_send t new its σ)
  unfolding do_send
  walk-do_send new its State.Unbound = w.refused 9
  walk-do_send new its (State.Bound m) = w.refused 9
  walk-do_send new its (State.Listening m b q) = w.refused 9
  walk-do_send new its (State.Connected p i x y) = guard _ 10 _ λ e. walk_send p (not-false _ (or_right y _ e)) new its (state_of t p) refl

  module _ (h : ℕ) (l : is_live t h ≡ true) where
    walk_bind : (n : List ℕ) → is_nil n ≡ false → length n ≤ 255 → (σ : State) → state_of t h ≡ σ → P (do_bind t h n σ)
    unfolding do_bind
    walk_bind n a b State.Unbound e = guard _ 3 _ λ f. w.bind h n l e a b f
    walk_bind n a b (State.Bound m) e = w.refused 2
    walk_bind n a b (State.Listening m k q) e = w.refused 2
    walk_bind n a b (State.Connected p i x y) e = w.refused 2

    walk_listen : (k : ℕ) (σ : State) → state_of t h ≡ σ → P (do_listen t h k σ)
    unfolding do_listen
    walk_listen k State.Unbound e = w.refused 4
    walk_listen k (State.Bound m) e = w.listen h k m l e
    walk_listen k (State.Listening m b q) e = w.again h k m b q l e
    walk_listen k (State.Connected p i x y) e = w.refused 2

    walk_accept : (σ : State) → state_of t h ≡ σ → P (do_accept t h σ)
    unfolding do_accept
    walk_accept State.Unbound e = w.refused 2
    walk_accept (State.Bound m) e = w.refused 2
    walk_accept (State.Listening m b []) e = w.refused 8
    walk_accept (State.Listening m b (s ∷ q)) e = w.accept h m b s q l e
    walk_accept (State.Connected p i x y) e = w.refused 2

    walk_read : (k : ℕ) (most : Policy) (σ : State) → state_of t h ≡ σ → P (drain t h k most σ)
    unfolding drain
    walk_read k most State.Unbound e = w.refused 9
    walk_read k most (State.Bound m) e = w.refused 9
    walk_read k most (State.Listening m b q) e = w.refused 9
    walk_read k most (State.Connected p i x y) e = both (is_nil i.bytes) (both' (x || not (is_open t p)) (w.unchanged 0) (w.refused 8)) (λ n. w.read h k most p i x y l e n)
      where
        both : (b : Bool) {o o' : Outcome} → P o → (b ≡ false → P o') → P (cond b o o')
        both true f g = f
        both false f g = g refl

        both' : (b : Bool) {o o' : Outcome} → P o → P o' → P (cond b o o')
        both' true f g = f
        both' false f g = g

    walk_shutdown : (rd wr : Bool) (σ : State) → state_of t h ≡ σ → P (do_shutdown t h rd wr σ)
    unfolding do_shutdown
    walk_shutdown rd wr State.Unbound e = w.refused 9
    walk_shutdown rd wr (State.Bound m) e = w.refused 9
    walk_shutdown rd wr (State.Listening m b q) e = w.refused 9
    walk_shutdown rd wr (State.Connected p i x y) e = w.shutdown h p i x y rd wr l e

    module _ (un : state_of t h ≡ State.Unbound) (n : List ℕ) where
      walk_found : (σ : State) → (at t (holder t n)).state ≡ σ → P (reach t h (handle_at t (holder t n)) σ)
      unfolding reach state_of is_full
      walk_found State.Unbound e = w.refused 7
      walk_found (State.Bound m) e = w.refused 7
      walk_found (State.Connected p i x y) e = w.refused 7
      walk_found (State.Listening m b q) e =
          let a = open_at t (holder t n) fit (found_used t n (State.Listening m b q) e (λ z. unbound_not_listening (sym z))) in
          guard _ 8 _ λ f. guard _ 16 _ λ g.
          w.connect h (handle_at t (holder t n)) m b q l un a.1 (ap (λ k. (at t k).state) a.0 ∙ e) (leb-false _ _ f) (free g) (free_unused t g) (free_young t g)

    walk_connect : (n : List ℕ) (σ : State) → state_of t h ≡ σ → P (do_connect t h n σ)
    unfolding do_connect
    walk_connect n State.Unbound e = walk_found e n (at t (holder t n)).state refl
    walk_connect n (State.Bound m) e = w.refused 2
    walk_connect n (State.Listening m b q) e = w.refused 6
    walk_connect n (State.Connected p i x y) e = w.refused 5

  pub walk : (y : Call) → P (run t y)
  unfolding run
  walk (Call.Socket d y p) = walk_socket d y p
  walk (Call.Bind h n) = on-name h n _ λ l a b. walk_bind h l n a b (state_of t h) refl
  walk (Call.Listen h k) = on-live h _ λ l. walk_listen h l k (state_of t h) refl
  walk (Call.Accept h) = on-live h _ λ l. walk_accept h l (state_of t h) refl
  walk (Call.Connect h n) = on-name h n _ λ l a b. walk_connect h l n (state_of t h) refl
  walk (Call.Read h k) = on-live h _ λ l. walk_read h l k Policy.Drop (state_of t h) refl
  walk (Call.Recvmsg h k m) = on-live h _ λ l. guard _ 2 _ λ _. walk_read h l k (Policy.Take m) (state_of t h) refl
  walk (Call.Write h b) = on-live h _ λ l. walk-do_send b [] (state_of t h)
  walk (Call.Sendmsg h b i) = on-live h _ λ l. walk-do_send b i (state_of t h)
  walk (Call.Shutdown h how) = on-live h _ λ l. guard _ 2 _ λ _. walk_shutdown h l _ _ (state_of t h) refl
  walk (Call.Close h) = on-live h _ λ l. w.close h l
  walk (Call.Readiness h) = on-live h _ λ l. w.unchanged (ready t (state_of t h))
