-- Demand 3, proved: no lost wake-up.
use mathlib.Core.Path.{◌≡◌, refl, sym, ap, ◌∙◌, subst}
use mathlib.Core.Logic.{◌≢◌, ◌⊎◌, inl, inr, ⊎_elim}
use mathlib.Core.Option.{some}
use Prim.Native.Nat.{ℕ, ◌≤◌}
use native.Mathlib.Omega.{arith}
use mathlib.Core.Bool.{Bool, true, false, not, ◌||◌, true≢false, false≢true}
use mathlib.Core.List.{List, [], ◌∷◌, Memᴰ}
use lib.ListN.{length}
use lib.IntN.{ℤ}
use lib.Dec.{ltb, eqb}
use borrow.Author.Tests.{le-leb, leb-true, not-false}
use Rattle.laws.proofs.Tests.{and_left, and_right, cond_both, or_left, or_right}
use Rattle.rules.proofs.Model.{Call, Outcome, Policy, Slot, State, Table, after, answer, at, do_accept, do_bind, do_close, do_connect, do_listen, do_send, do_shutdown, do_socket, drain, drained, fresh, handle_at, has_name, holder, holds, is_full, is_live, is_nil, is_open, on_live, on_name, reach, refuse, refuse_if, run, send, slot_of, state_of, vacant}
use Rattle.rules.proofs.Frame.{live_open, open_at, first_found}
use Rattle.rules.proofs.Calm.{End, Look, Fact, Gone, Shows, key, Calm}
use Rattle.rules.proofs.Each.{calm_run}
use Rattle.rules.proofs.Frame.{cons-nil, none_some, some_inj}
use Rattle.rules.proofs.Wf.{peer_of, name_of, WellFormed, has-name, found}
use Rattle.rules.proofs.Formed.{few}
use Rattle.rules.proofs.WfRun.{kept_run, wf_fresh, wf_after}
use Rattle.rules.specs.Demand.{Blocks, NoLostWake, Asleep, Demand3}

-- an outcome that is EAGAIN
record Again (o : Outcome) : Type 0 where
  is : o.no ≡ 8

-- a rule that answers 8 has passed the refusals before
pass : (t : Table) (b : Bool) (n : ℕ) (o : Outcome) → n ≢ 8 → Again (refuse_if b n t o) → (b ≡ false) × Again o
unfolding refuse_if
pass t true n o d e = absurd (d e.is)
pass t false n o d e = (refl, e)

through : (t : Table) (b : Bool) (n : ℕ) {o : Outcome} → b ≡ false → Again o → Again (refuse_if b n t o)
unfolding refuse_if
through t true n d e = absurd (true≢false d)
through t false n d e = e

other : (t : Table) (n : ℕ) → n ≢ 8 → Again (refuse t n) → ⊥
other t n d e = d e.is

-- the refusal that is 8 itself, where nothing after it is
stop : (t : Table) (b : Bool) {o : Outcome} → Again (refuse_if b 8 t o) → (Again o → ⊥) → b ≡ true
unfolding refuse_if
stop t true e f = refl
stop t false e f = absurd (f e)

never : (t : Table) (b : Bool) (n : ℕ) {o : Outcome} → Again (refuse_if b n t o) → n ≢ 8 → (Again o → ⊥) → ⊥
unfolding refuse_if
never t true n e d f = d e.is
never t false n e d f = f e

done : {v : ℕ} {w r : List ℕ} {t : Table} → Again (answer t v w r) → ⊥
done e = let z = e.is in omega arith

-- ── what answers 8, and when ──

accept_8 : (c : ℕ) (t : Table) (h : ℕ) (σ : State) → Again (do_accept t h σ) → Fact c Look.idle σ
unfolding do_accept
accept_8 c t h State.Unbound e = absurd (other t 2 (omega arith) e)
accept_8 c t h (State.Bound m) e = absurd (other t 2 (omega arith) e)
accept_8 c t h (State.Listening m b []) e = refl
accept_8 c t h (State.Listening m b (s ∷ q)) e = let z = e.is in absurd (omega arith)
accept_8 c t h (State.Connected p i x y) e = absurd (other t 2 (omega arith) e)

8-accept : (c : ℕ) (t : Table) (h : ℕ) (σ : State) → Fact c Look.idle σ → Again (do_accept t h σ)
unfolding do_accept
8-accept c t h State.Unbound f = absurd f
8-accept c t h (State.Bound m) f = absurd f
8-accept c t h (State.Listening m b []) f = record { is = refl }
8-accept c t h (State.Listening m b (s ∷ q)) f = absurd (cons-nil f)
8-accept c t h (State.Connected p i x y) f = absurd f

-- a connected socket whose inbox is silent, and whose peer is open
record Reads (c : ℕ) (t : Table) (σ : State) : Type 0 where
  peer : ℕ
  mine : Fact c (Look.peered peer End.silent) σ
  theirs : is_open t peer ≡ true

read_8 : (c : ℕ) (t : Table) (h k : ℕ) (most : Policy) (σ : State) → Again (drain t h k most σ) → Reads c t σ
unfolding drain drained
read_8 c t h k most State.Unbound e = absurd (other t 9 (omega arith) e)
read_8 c t h k most (State.Bound m) e = absurd (other t 9 (omega arith) e)
read_8 c t h k most (State.Listening m b q) e = absurd (other t 9 (omega arith) e)
read_8 c t h k most (State.Connected p i x y) e₀ =
    cond_both (λ o. Again o → Reads c t (State.Connected p i x y)) (is_nil i.bytes)
    (λ a. cond_both (λ o. Again o → Reads c t (State.Connected p i x y)) (x || not (is_open t p))
    (λ _ e. let z = e.is in absurd (omega arith))
    (λ n e. record { peer = p; mine = (refl, (a, or_left x _ n)); theirs = not-false _ (or_right x _ n) }))
    (λ _ e. let z = e.is in absurd (omega arith))
    e₀

8-read : (c : ℕ) (t : Table) (h k : ℕ) (most : Policy) (σ : State) → Reads c t σ → Again (drain t h k most σ)
unfolding drain
8-read c t h k most State.Unbound f = absurd f.mine
8-read c t h k most (State.Bound m) f = absurd f.mine
8-read c t h k most (State.Listening m b q) f = absurd f.mine
8-read c t h k most (State.Connected p i x y) f = rw (f.mine.1.0, f.mine.1.1, f.mine.0, f.theirs) (record { is = refl })

-- a connected socket whose outbox is open, and whose peer is open and full
record Writes (c : ℕ) (t : Table) (σ : State) : Type 0 where
  peer : ℕ
  back : ℕ
  mine : Fact c (Look.peered peer End.sending) σ
  theirs : is_open t peer ≡ true
  capacity : Fact c (Look.peered back End.full) (state_of t peer)

record FullAt (c : ℕ) (σ : State) : Type 0 where
  back : ℕ
  capacity : Fact c (Look.peered back End.full) σ

send_8 : (t : Table) (p : ℕ) (new its : List ℕ) (σ : State) → Again (send t p new its σ) → FullAt t.capacity σ
unfolding send
send_8 t p new its State.Unbound e = absurd (other t 19 (omega arith) e)
send_8 t p new its (State.Bound m) e = absurd (other t 19 (omega arith) e)
send_8 t p new its (State.Listening m b q) e = absurd (other t 19 (omega arith) e)
send_8 t p new its (State.Connected h i x y) e = record { back = h; capacity = (refl, leb-true _ _ (stop t _ e λ e. never t _ 2 e (omega arith) λ e. never t _ 11 e (omega arith) done)) }

8-send : (t : Table) (p : ℕ) (new its : List ℕ) (σ : State) → FullAt t.capacity σ → Again (send t p new its σ)
unfolding send refuse_if
8-send t p new its State.Unbound f = absurd f.capacity
8-send t p new its (State.Bound m) f = absurd f.capacity
8-send t p new its (State.Listening m b q) f = absurd f.capacity
8-send t p new its (State.Connected h i x y) f = rw (le-leb t.capacity (length i.bytes) f.capacity.1) (record { is = refl })

write_8 : (t : Table) (new its : List ℕ) (σ : State) → Again (do_send t new its σ) → Writes t.capacity t σ
unfolding do_send
write_8 t new its State.Unbound e = absurd (other t 9 (omega arith) e)
write_8 t new its (State.Bound m) e = absurd (other t 9 (omega arith) e)
write_8 t new its (State.Listening m b q) e = absurd (other t 9 (omega arith) e)
write_8 t new its (State.Connected p i x y) e =
    let a = pass t (y || not (is_open t p)) 10 (send t p new its (state_of t p)) (omega arith) e in
    let b = send_8 t p new its (state_of t p) a.1 in
    record { peer = p; back = b.back; mine = (refl, or_left y _ a.0); theirs = not-false _ (or_right y _ a.0); capacity = b.capacity }

8-write : (t : Table) (new its : List ℕ) (σ : State) → Writes t.capacity t σ → Again (do_send t new its σ)
unfolding do_send
8-write t new its State.Unbound f = absurd f.mine
8-write t new its (State.Bound m) f = absurd f.mine
8-write t new its (State.Listening m b q) f = absurd f.mine
8-write t new its (State.Connected p i x y) f =
    let e = f.mine.0 in
    through t (y || not (is_open t p)) 10 (rw (f.mine.1, e, f.theirs) refl) (8-send t p new its (state_of t p) (rw e (record { back = f.back; capacity = f.capacity })))

-- the listener of that name has no room
record Finds (c : ℕ) (t : Table) (n : List ℕ) : Type 0 where
  listener : ℕ
  there : is_open t listener ≡ true
  crowd : Fact c (Look.crowded n) (state_of t listener)

reach_8 : (c : ℕ) (t : Table) (h l : ℕ) (n : List ℕ) (σ : State) → has_name n σ ≡ true → Again (reach t h l σ) → Fact c (Look.crowded n) σ
unfolding reach has_name is_full
reach_8 c t h l n State.Unbound a e = absurd (other t 7 (omega arith) e)
reach_8 c t h l n (State.Bound m) a e = absurd (other t 7 (omega arith) e)
reach_8 c t h l n (State.Listening m b q) a e = (a, leb-true _ _ (stop t _ e λ e. never t _ 16 e (omega arith) done))
reach_8 c t h l n (State.Connected p i x y) a e = absurd (other t 7 (omega arith) e)

vacant_7 : (t : Table) (h l : ℕ) (s : Slot) → s ≡ vacant → Again (reach t h l s.state) → ⊥
unfolding reach
vacant_7 t h l s z e = other t 7 (omega arith) (subst (λ r. Again (reach t h l r.state)) z e)

8-reach : (c : ℕ) (t : Table) (h l : ℕ) (n : List ℕ) (σ : State) → Fact c (Look.crowded n) σ → Again (reach t h l σ)
unfolding reach refuse_if is_full
8-reach c t h l n State.Unbound f = absurd f
8-reach c t h l n (State.Bound m) f = absurd f
8-reach c t h l n (State.Listening m b q) f = rw (le-leb b (length q) f.1) (record { is = refl })
8-reach c t h l n (State.Connected p i x y) f = absurd f

-- the socket that has the name, where there is one
record Named (t : Table) (n : List ℕ) : Type 0 where
  has : has_name n (at t (holder t n)).state ≡ true
  slot : slot_of (handle_at t (holder t n)) ≡ holder t n
  there : is_open t (handle_at t (holder t n)) ≡ true

named : (t : Table) → length t.slots ≤ 1024 → (n : List ℕ) → holds n (at t (holder t n)) ≡ true → Named t n
unfolding holds
named t fit n e =
    let a = open_at t (holder t n) fit (and_left (at t (holder t n)).in_use _ e) in
    record { has = and_right (at t (holder t n)).in_use _ e; slot = a.0; there = a.1 }

connect_8 : (t : Table) → length t.slots ≤ 1024 → (h : ℕ) (n : List ℕ) (σ : State) → Again (do_connect t h n σ) → Finds t.capacity t n
unfolding do_connect holder state_of
connect_8 t fit h n State.Unbound e =
    ⊎_elim
    (λ z. let a = named t fit n z in
    record {
      listener = handle_at t (holder t n);
      there = a.there;
      crowd = subst (λ k. Fact t.capacity (Look.crowded n) (at t k).state) (sym a.slot) (reach_8 t.capacity t h (handle_at t (holder t n)) n (at t (holder t n)).state a.has e);
    })
    (λ z. absurd (vacant_7 t h (handle_at t (holder t n)) (at t (holder t n)) z e))
    (first_found (holds n) t.slots)
connect_8 t fit h n (State.Bound m) e = absurd (other t 2 (omega arith) e)
connect_8 t fit h n (State.Listening m b q) e = absurd (other t 6 (omega arith) e)
connect_8 t fit h n (State.Connected p i x y) e = absurd (other t 5 (omega arith) e)

crowded_name : (c : ℕ) (n : List ℕ) (σ : State) → Fact c (Look.crowded n) σ → has_name n σ ≡ true
unfolding has_name
crowded_name c n State.Unbound f = absurd f
crowded_name c n (State.Bound m) f = absurd f
crowded_name c n (State.Listening m b q) f = f.0
crowded_name c n (State.Connected p i x y) f = absurd f

8-connect : (t : Table) → WellFormed t → (h : ℕ) (n : List ℕ) → Finds t.capacity t n → Again (do_connect t h n State.Unbound)
unfolding do_connect state_of
8-connect t w h n f =
    let mine = has-name n (state_of t f.listener) (crowded_name t.capacity n (state_of t f.listener) f.crowd) in
    let a = named t w.sized n (found t n f.listener f.there mine) in
    let e : f.listener ≡ handle_at t (holder t n) =
    w.single f.listener (handle_at t (holder t n)) n f.there a.there mine (ap (λ k. name_of (at t k).state) a.slot ∙ has-name n _ a.has) in
    8-reach t.capacity t h (handle_at t (holder t n)) n (at t (holder t n)).state (subst (λ k. Fact t.capacity (Look.crowded n) (at t k).state) (ap slot_of e ∙ a.slot) f.crowd)

-- ── the calls that never answer 8 ──

never_socket : (t : Table) (d y p : ℤ) → Again (do_socket t d y p) → ⊥
unfolding do_socket
never_socket t d y p e =
    never t _ 12 e (omega arith) λ e. never t _ 14 e (omega arith) λ e. never t _ 15 e (omega arith) λ e. never t _ 16 e (omega arith) done

never_bind : (t : Table) (h : ℕ) (n : List ℕ) (σ : State) → Again (do_bind t h n σ) → ⊥
unfolding do_bind
never_bind t h n State.Unbound e = never t _ 3 e (omega arith) done
never_bind t h n (State.Bound m) e = other t 2 (omega arith) e
never_bind t h n (State.Listening m b q) e = other t 2 (omega arith) e
never_bind t h n (State.Connected p i x y) e = other t 2 (omega arith) e

never_listen : (t : Table) (h k : ℕ) (σ : State) → Again (do_listen t h k σ) → ⊥
unfolding do_listen
never_listen t h k State.Unbound e = other t 4 (omega arith) e
never_listen t h k (State.Bound m) e = done e
never_listen t h k (State.Listening m b q) e = done e
never_listen t h k (State.Connected p i x y) e = other t 2 (omega arith) e

never_shutdown : (t : Table) (h : ℕ) (rd wr : Bool) (σ : State) → Again (do_shutdown t h rd wr σ) → ⊥
unfolding do_shutdown
never_shutdown t h rd wr State.Unbound e = other t 9 (omega arith) e
never_shutdown t h rd wr (State.Bound m) e = other t 9 (omega arith) e
never_shutdown t h rd wr (State.Listening m b q) e = other t 9 (omega arith) e
never_shutdown t h rd wr (State.Connected p i x y) e = done e

never_close : (t : Table) (h : ℕ) → Again (do_close t h) → ⊥
unfolding do_close
never_close t h e = done e

-- ── the handle ──

live_8 : (t : Table) (h : ℕ) (o : Outcome) → Again (on_live t h o) → (is_live t h ≡ true) × Again o
unfolding on_live
live_8 t h o e = let a = pass t (not (is_live t h)) 1 o (omega arith) e in (not-false _ a.0, a.1)

8-live : (t : Table) (h : ℕ) {o : Outcome} → is_live t h ≡ true → Again o → Again (on_live t h o)
unfolding on_live
8-live t h l a = through t (not (is_live t h)) 1 (rw l refl) a

record NameOk (n : List ℕ) : Type 0 where
  some_byte : is_nil n ≡ false
  short : ltb 255 (length n) ≡ false

name_8 : (t : Table) (h : ℕ) (n : List ℕ) (o : Outcome) → Again (on_name t h n o) → (is_live t h ≡ true) × NameOk n × Again o
unfolding on_name
name_8 t h n o e =
    let a = live_8 t h _ e in
    let b = pass t (is_nil n) 2 (refuse_if (ltb 255 (length n)) 17 t o) (omega arith) a.1 in
    let d = pass t (ltb 255 (length n)) 17 o (omega arith) b.1 in
    (a.0, record { some_byte = b.0; short = d.0 }, d.1)

8-name : (t : Table) (h : ℕ) (n : List ℕ) {o : Outcome} → is_live t h ≡ true → NameOk n → Again o → Again (on_name t h n o)
unfolding on_name
8-name t h n l k a = 8-live t h l (through t _ 2 k.some_byte (through t _ 17 k.short a))

-- ── no lost wake-up ──

fact_peer : (c p : ℕ) (k : End) (σ : State) → Fact c (Look.peered p k) σ → peer_of σ ≡ some p
unfolding peer_of
fact_peer c p k State.Unbound f = absurd f
fact_peer c p k (State.Bound m) f = absurd f
fact_peer c p k (State.Listening m b q) f = absurd f
fact_peer c p k (State.Connected p' i x y) f = ap some f.0

peer_fact : (c p : ℕ) (σ : State) → peer_of σ ≡ some p → Fact c (Look.peered p End.linked) σ
unfolding peer_of
peer_fact c p State.Unbound e = absurd (none_some e)
peer_fact c p (State.Bound m) e = absurd (none_some e)
peer_fact c p (State.Listening m b q) e = absurd (none_some e)
peer_fact c p (State.Connected p' i x y) e = (some_inj e, tt)

module _ (t : Table) (w : WellFormed t) (y : Call) where
  abbrev u : Table
  u = (run t y).next

  abbrev ws : List ℕ
  ws = (run t y).wakes

  calm : Calm t.capacity t ws u
  calm = (calm_run t w.sized y).calm

  -- a look of an open socket is still there, or its sleeper is in the wakes
  look : (k : Look) (g : ℕ) → Shows t.capacity t k g → (Gone k u (key k g) → ⊥) → Shows t.capacity u k g ⊎ Memᴰ (key k g) ws
  look k g s n = ⊎_elim (λ z. inl z) (⊎_elim (λ m. inr m) (λ o. absurd (n o))) (calm.says k g s)

  module _ (h : ℕ) (l : is_live t h ≡ true) (l' : is_live u h ≡ true) where
    not_gone : is_open u h ≡ false → ⊥
    not_gone o = false≢true (sym o ∙ live_open u h l')

    wake_accept : Again (do_accept t h (state_of t h)) → (Again (do_accept u h (state_of u h)) → ⊥) → Memᴰ h ws
    wake_accept a n =
        ⊎_elim
        (λ z. absurd (n (8-accept t.capacity u h (state_of u h) z.1)))
        (λ m. m)
        (look Look.idle h (live_open t h l, accept_8 t.capacity t h (state_of t h) a) not_gone)

    wake_read : (k : ℕ) (most : Policy) → Again (drain t h k most (state_of t h)) → (Again (drain u h k most (state_of u h)) → ⊥) → Memᴰ h ws
    wake_read k most a n =
        let r = read_8 t.capacity t h k most (state_of t h) a in
        let back = w.paired h r.peer (live_open t h l) (fact_peer t.capacity r.peer End.silent (state_of t h) r.mine) r.theirs in
        ⊎_elim
        (λ z. ⊎_elim
        (λ z'. absurd (n (8-read t.capacity u h k most (state_of u h) (record { peer = r.peer; mine = z.1; theirs = z'.0 }))))
        (λ m. m)
        (look (Look.peered h End.linked) r.peer (r.theirs, peer_fact t.capacity h (state_of t r.peer) back) not_gone))
        (λ m. m)
        (look (Look.peered r.peer End.silent) h (live_open t h l, r.mine) not_gone)

    wake_write : (new its : List ℕ) → Again (do_send t new its (state_of t h)) → (Again (do_send u new its (state_of u h)) → ⊥) → Memᴰ h ws
    wake_write new its a n =
        let r = write_8 t new its (state_of t h) a in
        let back = w.paired h r.peer (live_open t h l) (fact_peer t.capacity r.peer End.sending (state_of t h) r.mine) r.theirs in
        let e : r.back ≡ h = some_inj (sym (fact_peer t.capacity r.back End.full (state_of t r.peer) r.capacity) ∙ back) in
        ⊎_elim
        (λ z. ⊎_elim
        (λ z'. absurd (n (8-write u new its (state_of u h) (subst (λ c. Writes c u (state_of u h)) (sym calm.capacity) (record { peer = r.peer; back = h; mine = z.1; theirs = z'.0; capacity = z'.1 })))))
        (λ m. m)
        (look (Look.peered h End.full) r.peer (r.theirs, subst (λ b. Fact t.capacity (Look.peered b End.full) (state_of t r.peer)) e r.capacity) not_gone))
        (λ m. m)
        (look (Look.peered r.peer End.sending) h (live_open t h l, r.mine) not_gone)

    wake_connect : (n : List ℕ) → state_of u h ≡ State.Unbound → Again (do_connect t h n (state_of t h)) → (Again (do_connect u h n (state_of u h)) → ⊥) → Memᴰ 0 ws
    wake_connect n un a d =
        let f = connect_8 t w.sized h n (state_of t h) a in
        ⊎_elim
        (λ z. absurd (d (rw un (8-connect u (kept_run t w y) h n (subst (λ c. Finds c u n) (sym calm.capacity) (record { listener = f.listener; there = z.0; crowd = z.1 }))))))
        (λ m. m)
        (look (Look.crowded n) f.listener (f.there, f.crowd) (λ o. o))

-- what a call that answered 8 sleeps on is in the wakes of the first call after which it would answer otherwise
pub no_lost_wake : (t : Table) → WellFormed t → NoLostWake t
unfolding run
no_lost_wake t w (Call.Socket d y' p) y b s n = absurd (never_socket t d y' p (record { is = b }))
no_lost_wake t w (Call.Bind h m) y b s n = absurd (never_bind t h m (state_of t h) (name_8 t h m _ (record { is = b })).2)
no_lost_wake t w (Call.Listen h k) y b s n = absurd (never_listen t h k (state_of t h) (live_8 t h _ (record { is = b })).1)
no_lost_wake t w (Call.Accept h) y b s n =
    let a = live_8 t h (do_accept t h (state_of t h)) (record { is = b }) in
    wake_accept t w y h a.0 s.live a.1 (λ z. n (8-live _ h s.live z).is)
no_lost_wake t w (Call.Connect h m) y b s n =
    let a = name_8 t h m (do_connect t h m (state_of t h)) (record { is = b }) in
    wake_connect t w y h a.0 s.live m s.unbound a.2 (λ z. n (8-name _ h m s.live a.1 z).is)
no_lost_wake t w (Call.Read h k) y b s n =
    let a = live_8 t h (drain t h k Policy.Drop (state_of t h)) (record { is = b }) in
    wake_read t w y h a.0 s.live k Policy.Drop a.1 (λ z. n (8-live _ h s.live z).is)
no_lost_wake t w (Call.Recvmsg h k m) y b s n =
    let a = live_8 t h _ (record { is = b }) in
    let d = pass t (eqb k 0) 2 (drain t h k (Policy.Take m) (state_of t h)) (omega arith) a.1 in
    wake_read t w y h a.0 s.live k (Policy.Take m) d.1 (λ z. n (8-live _ h s.live (through _ (eqb k 0) 2 d.0 z)).is)
no_lost_wake t w (Call.Write h m) y b s n =
    let a = live_8 t h (do_send t m [] (state_of t h)) (record { is = b }) in
    wake_write t w y h a.0 s.live m [] a.1 (λ z. n (8-live _ h s.live z).is)
no_lost_wake t w (Call.Sendmsg h m i) y b s n =
    let a = live_8 t h (do_send t m i (state_of t h)) (record { is = b }) in
    wake_write t w y h a.0 s.live m i a.1 (λ z. n (8-live _ h s.live z).is)
no_lost_wake t w (Call.Shutdown h k) y b s n = absurd (never_shutdown t h _ _ (state_of t h) (pass t _ 2 _ (omega arith) (live_8 t h _ (record { is = b })).1).1)
no_lost_wake t w (Call.Close h) y b s n = absurd (never_close t h (live_8 t h _ (record { is = b })).1)
no_lost_wake t w (Call.Readiness h) y b s n = absurd (done (live_8 t h _ (record { is = b })).1)

asleep_last : (t : Table) (x : Call) (cs : List Call) → Asleep t x cs → Blocks (after t cs) x
unfolding after
asleep_last t x [] a = a
asleep_last t x (c ∷ cs) a = asleep_last (run t c).next x cs a.1

pub demand_3 : Demand3
demand_3 n c r before between x y a s d =
    no_lost_wake
    (after (after (fresh n c) before) between)
    (wf_after (after (fresh n c) before) between (wf_after (fresh n c) before (wf_fresh n c (few n c r))))
    x
    y
    (asleep_last (after (fresh n c) before) x between a)
    s
    d
