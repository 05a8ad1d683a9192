-- A socket's closed outbox equals its open peer's closed inbox, and each inbox is in order: kept by every call.
use mathlib.Core.Path.{◌≡◌, refl, sym, ap, ◌∙◌, subst}
use mathlib.Core.Logic.{◌≢◌, ⊎_elim}
use mathlib.Core.Option.{some}
use Prim.Native.Nat.{ℕ, suc, ◌≤◌, ◌<◌}
use native.Mathlib.Omega.{arith}
use mathlib.Core.Bool.{Bool, true, false, cond, ◌||◌, false≢true}
use mathlib.Core.List.{List, [], ◌∷◌}
use lib.ListN.{length}
use Rattle.laws.proofs.Tests.{cond_both}
use Rattle.rules.proofs.Model.{Call, Inbox, State, Table, all_items, at, become, close_all, close_ends, connected, do_close, do_shutdown, drained, enter, free_slot, give, handle, is_open, leave, new_handle, nothing, room, run, slot_of, state_of}
use Rattle.rules.proofs.Frame.{live_open, open_become, open_give, state_give, state_become, become_at, open_leave, at_enter, enter_open, unbound_not_listening, none_some, some_inj, slot_handle, open_used}
use Rattle.rules.proofs.Wf.{peer_of, WellFormed, joined, others_stay, Kin, kin, not_yet}
use Rattle.rules.proofs.InboxOk.{InboxOk, append-ok, rest_ok}
use Rattle.rules.proofs.Walk.{Steps, walk}
use Rattle.rules.proofs.WfRun.{ends_peer}

unfoldable pub in_of : State → Bool
in_of State.Unbound = false
in_of (State.Bound m) = false
in_of (State.Listening m b q) = false
in_of (State.Connected p i x y) = x

unfoldable pub out_of : State → Bool
out_of State.Unbound = false
out_of (State.Bound m) = false
out_of (State.Listening m b q) = false
out_of (State.Connected p i x y) = y

pub record Ends (t : Table) : Type 0 where
  pub ends : (g p : ℕ) → is_open t g ≡ true → peer_of (state_of t g) ≡ some p → is_open t p ≡ true → out_of (state_of t g) ≡ in_of (state_of t p)

-- a table whose open sockets were open, with these same things
pub record Alike (t u : Table) : Type 0 where
  pub opens : (g : ℕ) → is_open u g ≡ true → is_open t g ≡ true
  pub alike : (g : ℕ) → is_open u g ≡ true → (peer_of (state_of u g) ≡ peer_of (state_of t g)) × (in_of (state_of u g) ≡ in_of (state_of t g)) × (out_of (state_of u g) ≡ out_of (state_of t g))

ends_alike : {t u : Table} → Alike t u → Ends t → Ends u
ends_alike a e =
    record {
      ends = λ g p o k q.
          (a.alike g o).2 ∙ e.ends g p (a.opens g o) (sym (a.alike g o).0 ∙ k) (a.opens p q) ∙ sym (a.alike p q).1;
    }

same_alike : {t u : Table} → ((g : ℕ) → is_open u g ≡ true → (is_open t g ≡ true) × (state_of u g ≡ state_of t g)) → Alike t u
same_alike f = record { opens = λ g o. (f g o).0; alike = λ g o. (ap peer_of (f g o).1, ap in_of (f g o).1, ap out_of (f g o).1) }

alike_become : (t : Table) (h : ℕ) (σ : State) → is_open t h ≡ true → peer_of σ ≡ peer_of (state_of t h) → in_of σ ≡ in_of (state_of t h) → out_of σ ≡ out_of (state_of t h) → Alike t (become t h σ)
alike_become t h σ o p i q =
    let back : (g : ℕ) → is_open (become t h σ) g ≡ true → is_open t g ≡ true = λ g a. sym (open_become t h σ g) ∙ a in
    record {
      opens = back;
      alike = λ g a.
          ⊎_elim
          (λ z. (
            ap peer_of z.1 ∙ p ∙ ap (λ k. peer_of (state_of t k)) (sym z.0),
            ap in_of z.1 ∙ i ∙ ap (λ k. in_of (state_of t k)) (sym z.0),
            ap out_of z.1 ∙ q ∙ ap (λ k. out_of (state_of t k)) (sym z.0),
          ))
          (λ z. (ap peer_of z.1, ap in_of z.1, ap out_of z.1))
          (become_at t h σ g o (back g a));
    }

alike_then : {t u v : Table} → Alike t u → Alike u v → Alike t v
alike_then a b =
    record {
      opens = λ g o. a.opens g (b.opens g o);
      alike = λ g o.
          let x = a.alike g (b.opens g o) in
          let y = b.alike g o in
          (y.0 ∙ x.0, y.1 ∙ x.1, y.2 ∙ x.2);
    }

alike_give : (t : Table) (h : ℕ) → Alike t (give t h)
alike_give t h = same_alike (λ g o. (sym (open_give t h g) ∙ o, state_give t h g))

-- what is open after a close was open, in the same state
pub close_all-old : (t : Table) (hs : List ℕ) (g : ℕ) → is_open (close_all t hs).next g ≡ true → (is_open t g ≡ true) × (state_of (close_all t hs).next g ≡ state_of t g)
unfolding close_all
close_all-old t [] g o = (o, refl)
close_all-old t (h ∷ hs) g o =
    let a = close_all-old (leave t h) hs g o in
    let b = open_leave t h g a.0 in
    (b.0, a.1 ∙ b.1)

ends_out : (a b : Bool) (σ : State) {k : ℕ} → peer_of σ ≡ some k → out_of (close_ends a b σ) ≡ (out_of σ || b)
unfolding close_ends peer_of out_of
ends_out a b State.Unbound e = absurd (none_some e)
ends_out a b (State.Bound m) e = absurd (none_some e)
ends_out a b (State.Listening m k q) e = absurd (none_some e)
ends_out a b (State.Connected p i x y) e = refl

ends_in : (a b : Bool) (σ : State) {k : ℕ} → peer_of σ ≡ some k → in_of (close_ends a b σ) ≡ (in_of σ || a)
unfolding close_ends peer_of in_of
ends_in a b State.Unbound e = absurd (none_some e)
ends_in a b (State.Bound m) e = absurd (none_some e)
ends_in a b (State.Listening m k q) e = absurd (none_some e)
ends_in a b (State.Connected p i x y) e = refl

module _ (t : Table) (w : WellFormed t) (e : Ends t) where
  ends_socket : Ends (enter t (free_slot t) true State.Unbound)
  unfolding peer_of
  ends_socket =
      record {
        ends = λ g p o k q.
            ⊎_elim
            (λ z. absurd (none_some (sym (ap peer_of z.2) ∙ k)))
            (λ z. ⊎_elim
            (λ y. absurd (not_yet t w (free_slot t) g p z.0 (sym (ap peer_of z.1) ∙ k) y.0 y.1))
            (λ y. ap out_of z.1 ∙ e.ends g p z.0 (sym (ap peer_of z.1) ∙ k) y.0 ∙ sym (ap in_of y.1))
            (at_enter t (free_slot t) true State.Unbound p q))
            (at_enter t (free_slot t) true State.Unbound g o);
      }

  module _ (h : ℕ) (r : free_slot t < length t.slots) (v : (at t (free_slot t)).in_use ≡ false) (o : is_open t h ≡ true) (un : state_of t h ≡ State.Unbound) where
    abbrev J : Table
    J = joined t w (free_slot t) h r v o un

    abbrev K : ℕ → Type 0
    K g = Kin t w (free_slot t) h r v o un g

    new_closed : (p : ℕ) → handle (suc (at t (free_slot t)).gen) (free_slot t) ≡ p → is_open t p ≡ true → ⊥
    new_closed p z a =
        false≢true
        (sym v ∙ ap (λ k. (at t k).in_use) (sym (slot_handle (suc (at t (free_slot t)).gen) (free_slot t) (omega (arith, w.sized))) ∙ ap slot_of z) ∙ open_used t p a)

    ends_kin : (g p : ℕ) → K g → K p → peer_of (state_of J g) ≡ some p → out_of (state_of J g) ≡ in_of (state_of J p)
    unfolding in_of out_of peer_of
    ends_kin g p (Kin.server a s b) (Kin.server a' s' b') k = rw (b, b') refl
    ends_kin g p (Kin.server a s b) (Kin.mine a' b') k = rw (b, b') refl
    ends_kin g p (Kin.server a s b) (Kin.old a' b') k = ap out_of b ∙ sym (ap in_of (b' ∙ ap (state_of t) (sym (some_inj (sym (ap peer_of b) ∙ k))) ∙ un))
    ends_kin g p (Kin.mine a b) (Kin.server a' s' b') k = rw (b, b') refl
    ends_kin g p (Kin.mine a b) (Kin.mine a' b') k = rw (b, b') refl
    ends_kin g p (Kin.mine a b) (Kin.old a' b') k = absurd (new_closed p (some_inj (sym (ap peer_of b) ∙ k)) a')
    ends_kin g p (Kin.old a b) (Kin.server a' s' b') k = absurd (not_yet t w (free_slot t) g p a (sym (ap peer_of b) ∙ k) a' s')
    ends_kin g p (Kin.old a b) (Kin.mine a' b') k = absurd (none_some (sym (ap peer_of un) ∙ sym (ap (λ z. peer_of (state_of t z)) a') ∙ w.paired g p a (sym (ap peer_of b) ∙ k) (ap (is_open t) a' ∙ o)))
    ends_kin g p (Kin.old a b) (Kin.old a' b') k = ap out_of b ∙ e.ends g p a (sym (ap peer_of b) ∙ k) a' ∙ sym (ap in_of b')

    ends_joined : Ends J
    ends_joined = record { ends = λ g p a k q. ends_kin g p (kin t w (free_slot t) h r v o un g a) (kin t w (free_slot t) h r v o un p q) k }

    ends_connect : (l : ℕ) (m : List ℕ) (b : ℕ) (q : List ℕ) → is_open t l ≡ true → state_of t l ≡ State.Listening m b q → Ends (connected t h l m b q)
    unfolding connected new_handle joined peer_of in_of out_of
    ends_connect l m b q ol is =
        let z : state_of J l ≡ State.Listening m b q = others_stay t w (free_slot t) h r v o un l ol (λ y. unbound_not_listening (sym y ∙ is)) ∙ is in
        ends_alike (alike_become J l _ (open_become _ h _ l ∙ (enter_open t (free_slot t) false _ l v ol).0) (rw z refl) (rw z refl) (rw z refl)) ends_joined

  -- shutdown: both ends of the pair change together
  module _ (h p : ℕ) (i : Inbox) (x y rd wr : Bool) (o : is_open t h ≡ true) (is : state_of t h ≡ State.Connected p i x y) where
    abbrev σ : State
    σ = State.Connected p (cond rd nothing i) (x || rd) (y || wr)

    abbrev U : Table
    U = become t h σ

    peer_h : peer_of (state_of t h) ≡ some p
    unfolding peer_of
    peer_h = rw is refl

    -- the peer gone: nobody points at h
    ends_half : is_open t p ≡ false → Ends U
    unfolding peer_of
    ends_half n =
        record {
          ends = λ g r a k q.
              let a' : is_open t g ≡ true = sym (open_become t h σ g) ∙ a in
              let q' : is_open t r ≡ true = sym (open_become t h σ r) ∙ q in
              ⊎_elim
              (λ z. absurd (false≢true (sym n ∙ ap (is_open t) (some_inj (sym (ap peer_of z.1) ∙ k)) ∙ q')))
              (λ z. let k' : peer_of (state_of t g) ≡ some r = sym (ap peer_of z.1) ∙ k in
              ⊎_elim
              (λ z'. absurd (false≢true (sym n ∙ ap (is_open t) (some_inj (sym peer_h ∙ ap (λ c. peer_of (state_of t c)) (sym z'.0) ∙ w.paired g r a' k' q')) ∙ a')))
              (λ z'. ap out_of z.1 ∙ e.ends g r a' k' q' ∙ sym (ap in_of z'.1))
              (become_at t h σ r o q'))
              (become_at t h σ g o a');
        }

    abbrev Z : Table
    Z = become U p (close_ends wr rd (state_of U p))

    module _ (n : is_open t p ≡ true) where
      back : peer_of (state_of t p) ≡ some h
      back = w.paired h p o peer_h n

      d : h ≢ p
      d z = w.apart h o (peer_h ∙ ap some (sym z))

      same_p : state_of U p ≡ state_of t p
      same_p = ⊎_elim (λ z. absurd (d (sym z.0))) (λ z. z.1) (become_at t h σ p o n)

      data Part (c : ℕ) : Type 0 where
        is_p : c ≡ p → state_of Z c ≡ close_ends wr rd (state_of t p) → Part c
        is_h : c ≡ h → state_of Z c ≡ σ → Part c
        is_other : c ≢ p → c ≢ h → state_of Z c ≡ state_of t c → Part c

      part : (c : ℕ) → is_open t c ≡ true → Part c
      part c a =
          ⊎_elim
          (λ z. is_p z.0 (z.1 ∙ ap (close_ends wr rd) same_p))
          (λ z. ⊎_elim
          (λ z'. is_h z'.0 (z.1 ∙ z'.1))
          (λ z'. is_other z.0 z'.0 (z.1 ∙ z'.1))
          (become_at t h σ c o a))
          (become_at U p _ c (open_become t h σ p ∙ n) (open_become t h σ c ∙ a))

      peer_part : (c : ℕ) → Part c → peer_of (state_of Z c) ≡ peer_of (state_of t c)
      unfolding peer_of
      peer_part c (is_p a b) = ap peer_of b ∙ ends_peer wr rd (state_of t p) ∙ ap (λ k. peer_of (state_of t k)) (sym a)
      peer_part c (is_h a b) = ap peer_of b ∙ sym peer_h ∙ ap (λ k. peer_of (state_of t k)) (sym a)
      peer_part c (is_other a b f) = ap peer_of f

      ends_part : (g r : ℕ) → is_open t g ≡ true → is_open t r ≡ true → Part g → Part r → peer_of (state_of t g) ≡ some r → out_of (state_of Z g) ≡ in_of (state_of Z r)
      unfolding in_of out_of
      ends_part g r a q (is_p b f) (is_p b' f') k = absurd (w.apart g a (k ∙ ap some (b' ∙ sym b)))
      ends_part g r a q (is_p b f) (is_h b' f') k =
          ap out_of f ∙ ends_out wr rd (state_of t p) back ∙ ap (λ z. z || rd) (e.ends p h n back o ∙ ap in_of is) ∙ sym (ap in_of f')
      ends_part g r a q (is_p b f) (is_other b' c' f') k = absurd (c' (some_inj (sym k ∙ ap (λ z. peer_of (state_of t z)) b ∙ back)))
      ends_part g r a q (is_h b f) (is_p b' f') k =
          ap out_of f ∙ ap (λ z. z || wr) (sym (ap out_of is) ∙ e.ends h p o peer_h n) ∙ sym (ends_in wr rd (state_of t p) back) ∙ sym (ap in_of f')
      ends_part g r a q (is_h b f) (is_h b' f') k = absurd (w.apart g a (k ∙ ap some (b' ∙ sym b)))
      ends_part g r a q (is_h b f) (is_other b' c' f') k = absurd (b' (some_inj (sym k ∙ ap (λ z. peer_of (state_of t z)) b ∙ peer_h)))
      ends_part g r a q (is_other b c f) (is_p b' f') k = absurd (c (some_inj (sym (w.paired g r a k q) ∙ ap (λ z. peer_of (state_of t z)) b' ∙ back)))
      ends_part g r a q (is_other b c f) (is_h b' f') k = absurd (b (some_inj (sym (w.paired g r a k q) ∙ ap (λ z. peer_of (state_of t z)) b' ∙ peer_h)))
      ends_part g r a q (is_other b c f) (is_other b' c' f') k = ap out_of f ∙ e.ends g r a k q ∙ sym (ap in_of f')

      ends_whole : Ends Z
      ends_whole =
          record {
            ends = λ g r a k q.
                let a' : is_open t g ≡ true = sym (open_become t h σ g) ∙ sym (open_become U p _ g) ∙ a in
                let q' : is_open t r ≡ true = sym (open_become t h σ r) ∙ sym (open_become U p _ r) ∙ q in
                ends_part g r a' q' (part g a') (part r q') (sym (peer_part g (part g a')) ∙ k);
          }

  ends_steps : Steps t (λ u. Ends u.next)
  unfolding drained do_shutdown do_close peer_of in_of out_of
  ends_steps =
      record {
        refused = λ n. e;
        unchanged = λ v. e;
        socket = λ r v y. ends_socket;
        bind = λ h n l k a z f. ends_alike (alike_become t h _ (live_open t h l) (rw k refl) (rw k refl) (rw k refl)) e;
        listen = λ h n m l k. ends_alike (alike_become t h _ (live_open t h l) (rw k refl) (rw k refl) (rw k refl)) e;
        again = λ h n m b q l k. ends_alike (alike_become t h _ (live_open t h l) (rw k refl) (rw k refl) (rw k refl)) e;
        accept = λ h m b s q l k. ends_alike (alike_then (alike_become t h _ (live_open t h l) (rw k refl) (rw k refl) (rw k refl)) (alike_give _ s)) e;
        connect = λ h c m b q l un o k f r v z. ends_connect h r v (live_open t h l) un c m b q o k;
        read = λ h n m p i x y l k f. ends_alike (alike_become t h _ (live_open t h l) (rw k refl) (rw k refl) (rw k refl)) e;
        write = λ h p i x y new its o k r f g. ends_alike (alike_become t p _ o (rw k refl) (rw k refl) (rw k refl)) e;
        shutdown = λ h p i x y rd wr l k.
            cond_both Ends (is_open t p) (λ n. ends_whole h p i x y rd wr (live_open t h l) k n) (λ n. ends_half h p i x y rd wr (live_open t h l) k n);
        close = λ h l. ends_alike (same_alike (close_all-old t _)) e;
      }

  pub ends_run : (y : Call) → Ends (run t y).next
  ends_run y = walk t w.sized (λ u. Ends u.next) ends_steps y

-- ── inboxes ──

abbrev pub StateOk : ℕ → State → Type 0
StateOk c State.Unbound = Unit {0}
StateOk c (State.Bound m) = Unit {0}
StateOk c (State.Listening m b q) = Unit {0}
StateOk c (State.Connected p i x y) = InboxOk c i

pub record Inboxes (c : ℕ) (t : Table) : Type 0 where
  pub capacity : t.capacity ≡ c
  pub ok : (g : ℕ) → is_open t g ≡ true → StateOk c (state_of t g)

nothing_ok : (c : ℕ) → InboxOk c nothing
unfolding all_items
nothing_ok c = record { fits = omega arith; rising = tt; few = omega arith }

ends_ok : (c : ℕ) (a b : Bool) (σ : State) → StateOk c σ → StateOk c (close_ends a b σ)
unfolding close_ends
ends_ok c a b State.Unbound k = tt
ends_ok c a b (State.Bound m) k = tt
ends_ok c a b (State.Listening m n q) k = tt
ends_ok c a b (State.Connected p i x y) k = k

room-close_all : (t : Table) (hs : List ℕ) → (close_all t hs).next.capacity ≡ t.capacity
unfolding close_all leave
room-close_all t [] = refl
room-close_all t (h ∷ hs) = room-close_all (leave t h) hs

module _ (c : ℕ) where
  in_become : (t : Table) (h : ℕ) (σ : State) → Inboxes c t → StateOk c σ → Inboxes c (become t h σ)
  unfolding become
  in_become t h σ w k =
      record {
        capacity = w.capacity;
        ok = λ g a. ⊎_elim (λ z. subst (StateOk c) (sym z.1) k) (λ z. subst (StateOk c) (sym z) (w.ok g (sym (open_become t h σ g) ∙ a))) (state_become t h σ g);
      }

  in_enter : (t : Table) (i : ℕ) (b : Bool) (σ : State) → Inboxes c t → StateOk c σ → Inboxes c (enter t i b σ)
  unfolding enter
  in_enter t i b σ w k =
      record {
        capacity = w.capacity;
        ok = λ g a. ⊎_elim (λ z. subst (StateOk c) (sym z.2) k) (λ z. subst (StateOk c) (sym z.1) (w.ok g z.0)) (at_enter t i b σ g a);
      }

  in_give : (t : Table) (h : ℕ) → Inboxes c t → Inboxes c (give t h)
  unfolding give
  in_give t h w = record { capacity = w.capacity; ok = λ g a. subst (StateOk c) (sym (state_give t h g)) (w.ok g (sym (open_give t h g) ∙ a)) }

  inbox_of : (t : Table) → Inboxes c t → (g : ℕ) {p : ℕ} {i : Inbox} {x y : Bool} → is_open t g ≡ true → state_of t g ≡ State.Connected p i x y → InboxOk c i
  inbox_of t w g o k = subst (StateOk c) k (w.ok g o)

  in_steps : (t : Table) → Inboxes c t → Steps t (λ u. Inboxes c u.next)
  unfolding drained do_shutdown do_close connected room
  in_steps t w =
      record {
        refused = λ n. w;
        unchanged = λ v. w;
        socket = λ r v y. in_enter t _ true State.Unbound w tt;
        bind = λ h n l k a z f. in_become t h _ w tt;
        listen = λ h n m l k. in_become t h _ w tt;
        again = λ h n m b q l k. in_become t h _ w tt;
        accept = λ h m b s q l k. in_give _ s (in_become t h _ w tt);
        connect = λ h l m b q l' un o k f r v z. in_become _ l _ (in_become _ h _ (in_enter t _ false _ w (nothing_ok c)) (nothing_ok c)) tt;
        read = λ h n m p i x y l k f. in_become t h _ w (rest_ok c i n (inbox_of t w h (live_open t h l) k));
        write = λ h p i x y new its o k r f g.
            in_become t p _ w (rw w.capacity (append-ok c i new its (rw w.capacity at r) f g (inbox_of t w p o k)));
        shutdown = λ h p i x y rd wr l k.
            let u = in_become t h (State.Connected p (cond rd nothing i) (x || rd) (y || wr)) w (cond_both (InboxOk c) rd (λ _. nothing_ok c) (λ _. inbox_of t w h (live_open t h l) k)) in
            cond_both (Inboxes c) (is_open t p) (λ n. in_become _ p _ u (ends_ok c wr rd _ (u.ok p (open_become t h _ p ∙ n)))) (λ n. u);
        close = λ h l. record { capacity = room-close_all t _ ∙ w.capacity; ok = λ g a. let z = close_all-old t _ g a in subst (StateOk c) (sym z.1) (w.ok g z.0) };
      }

  pub in_run : (t : Table) → length t.slots ≤ 1024 → Inboxes c t → (y : Call) → Inboxes c (run t y).next
  in_run t fit w y = walk t fit (λ u. Inboxes c u.next) (in_steps t w) y
