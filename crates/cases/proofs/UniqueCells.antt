-- Two storages that show the same table and have the same hidden numbers: the words of their slots.
use Prim.Native.Nat.{ℕ, zero, suc, ◌+◌, ◌-◌, ◌%◌, ◌^◌, ◌≤◌, ◌<◌}
use native.Mathlib.Decide.{ℕ_discrete as dec_eq}
use native.Mathlib.Omega.{arith}
use mathlib.Core.Path.{◌≡◌, refl, sym, ap, ◌∙◌, subst}
use mathlib.Core.Logic.{◌≢◌, ◌⊎◌, inl, inr}
use mathlib.Core.Bool.{Bool, true, false, cond, not, ◌&&◌, true≢false, false≢true}
use mathlib.Core.List.{List, []}
use lib.Dec.{leb, ltb, eqb}
use lib.ListN.{length, get_or, take, length-map}
use lib.Seq.{length-take-le}
use borrow.Author.Tests.{eqb-true, leb-true, ltb-true, eq-eqb, ne_eqb}
use Rattle.laws.proofs.Tests.{and_left, and_right, and_three}
use Rattle.ring.specs.Ring.{place_of, queued}
use Rattle.ring.proofs.Queued.{queued-length}
use Rattle.inbox.specs.View as inbox
use Rattle.inbox.specs.View.{bytes_of, items_in, distances, groups_of, count}
use Rattle.inbox.specs.declared.Inbox.{Inbox}
use Rattle.inbox.proofs.Groups.{items_all}
use Rattle.rules.specs.Table as model
use Rattle.rules.specs.Table.{at, handle, slot_of}
use Rattle.rules.specs.Inbox.{nothing, all_items}
use Rattle.storage.specs.Layout.{cell_base, places_base, name_base, tokens_base}
use Rattle.storage.specs.Cells.{cell_at, connection_of, state_of, listener_of}
use Rattle.storage.specs.Rows.{Store, Row, row_at, Roomy}
use Rattle.storage.specs.View.{show_in, view}
use Rattle.storage.specs.declared.Cell.{Cell}
use Rattle.storage.specs.declared.State.{State}
use Rattle.storage.specs.declared.State.TheVariants.{Closed, Unbound, Bound, Listening, Connected}
use Rattle.storage.specs.declared.Listener.{Listener}
use Rattle.storage.specs.declared.Connection.{Connection}
use Rattle.storage.proofs.Coding.{says_unbound, says_bound, says_listening, says_connected, says_closed, listening_inj, connected_inj}
use Rattle.storage.proofs.Pasted.{length_part}
use Rattle.storage.proofs.Viewed.{seen, gen_at}
use Rattle.table.specs.Formed.{no_name, no_queue, no_pair, pair_fields, fields_well, ahead, stands_at, tied_state, tied, queue_in, ranges_well}
use Rattle.table.proofs.Links.{Entry, entries_of, queue_long, queue_at, place_ahead, queue-length}
use Rattle.table.proofs.OwnNumbers.{fields_unbound, fields_bound, fields_listening, fields_connected, fields_other}
use Rattle.promise.specs.Hidden.{Hidden, hidden_in}
use Rattle.promise.proofs.Known.{Known, listener_range, inbox-range, bound_range}
use Rattle.cases.proofs.UniqueRings.{ring_at, same_places}

-- ── Tags ──

pub by_tag : {P : Type 0} (k : Cell) → fields_well k ≡ true → (k.tag ≡ 0 → P) → (k.tag ≡ 1 → P) → (k.tag ≡ 2 → P) → (k.tag ≡ 3 → P) → (k.tag ≡ 4 → P) → P
by_tag k f p₀ p₁ p₂ p₃ p₄ =
    elim (dec_eq k.tag 0) [
      | yes e ↦ p₀ e
      | no n₀ ↦ elim (dec_eq k.tag 1) [
        | yes e ↦ p₁ e
        | no n₁ ↦ elim (dec_eq k.tag 2) [
          | yes e ↦ p₂ e
          | no n₂ ↦ elim (dec_eq k.tag 3) [
            | yes e ↦ p₃ e
            | no n₃ ↦ elim (dec_eq k.tag 4) [ yes e ↦ p₄ e | no n₄ ↦ absurd (false≢true (fields_other k n₀ n₁ n₂ n₃ n₄ ∙ f)) ]
          ]
        ]
      ]
    ]

module _ (k : Cell) where
  pub is_closed : k.tag ≡ 0 → state_of k ≡ Closed
  is_closed e = sym (says_closed k (λ z. omega arith) (λ z. omega arith) (λ z. omega arith) (λ z. omega arith))

  pub is_unbound : k.tag ≡ 1 → state_of k ≡ Unbound
  is_unbound e = sym (says_unbound k e)

  pub is_bound : k.tag ≡ 2 → state_of k ≡ Bound k.name
  is_bound e = sym (says_bound k e)

  pub is_listening : k.tag ≡ 3 → state_of k ≡ Listening (listener_of k)
  is_listening e = sym (says_listening k e)

  pub is_connected : k.tag ≡ 4 → state_of k ≡ Connected (connection_of k)
  is_connected e = sym (says_connected k (connection_of k) e refl)

-- what a slot of the table tells of the tag
kind_of : model.State → ℕ
kind_of model.State.Unbound = 1
kind_of (model.State.Bound m) = 2
kind_of (model.State.Listening m b q) = 3
kind_of (model.State.Connected p i x y) = 4

slot_kind : model.Slot → ℕ
slot_kind s = cond s.in_use (kind_of s.state) 0

shown_tag : (r : Row) (g : ℕ) (k : Cell) → fields_well k ≡ true → slot_kind (show_in r g (state_of k)) ≡ k.tag
unfolding slot_kind kind_of show_in
shown_tag r g k f =
    by_tag k f
    (λ e. ap (λ (σ : State). slot_kind (show_in r g σ)) (is_closed k e) ∙ sym e)
    (λ e. ap (λ (σ : State). slot_kind (show_in r g σ)) (is_unbound k e) ∙ sym e)
    (λ e. ap (λ (σ : State). slot_kind (show_in r g σ)) (is_bound k e) ∙ sym e)
    (λ e. ap (λ (σ : State). slot_kind (show_in r g σ)) (is_listening k e) ∙ sym e)
    (λ e. ap (λ (σ : State). slot_kind (show_in r g σ)) (is_connected k e) ∙ sym e)

-- ── Fields that are 0 ──

record NoPair (k : Cell) : Type 0 where
  peer : k.peer ≡ 0
  inbox_closed : k.inbox_closed ≡ 0
  outbox_closed : k.outbox_closed ≡ 0
  byte : k.byte ≡ 0
  written_total : k.written_total ≡ 0
  read_total : k.read_total ≡ 0
  first : k.first ≡ 0
  items : k.items ≡ 0
  waits : k.waits ≡ 0
  place : k.place ≡ 0

record NoQueue (k : Cell) : Type 0 where
  backlog : k.backlog ≡ 0
  head : k.head ≡ 0
  pending : k.pending ≡ 0

record PairFields (k : Cell) : Type 0 where
  in_flag : k.inbox_closed ≤ 1
  out_flag : k.outbox_closed ≤ 1
  no_place : k.waits ≡ 0 → k.place ≡ 0

no_name-zero : (k : Cell) → no_name k ≡ true → k.name ≡ 0
unfolding no_name
no_name-zero k e = eqb-true k.name 0 e

no-queue : (k : Cell) → no_queue k ≡ true → NoQueue k
unfolding no_queue
no-queue k e =
    let p = and_three (eqb k.backlog 0) (eqb k.head 0) (eqb k.pending 0) e in
    record { backlog = eqb-true _ _ p.0; head = eqb-true _ _ p.1; pending = eqb-true _ _ p.2 }

no-pair : (k : Cell) → no_pair k ≡ true → NoPair k
unfolding no_pair
no-pair k e =
    let two : Bool = eqb k.peer 0 && eqb k.inbox_closed 0 in
    let three : Bool = two && eqb k.outbox_closed 0 in
    let four : Bool = three && eqb k.byte 0 in
    let five : Bool = four && eqb k.written_total 0 in
    let six : Bool = five && eqb k.read_total 0 in
    let seven : Bool = six && eqb k.first 0 in
    let eight : Bool = seven && eqb k.items 0 in
    let nine : Bool = eight && eqb k.waits 0 in
    let a = and_left nine (eqb k.place 0) e in
    let b = and_left eight (eqb k.waits 0) a in
    let c = and_left seven (eqb k.items 0) b in
    let d = and_left six (eqb k.first 0) c in
    let f = and_left five (eqb k.read_total 0) d in
    let g = and_left four (eqb k.written_total 0) f in
    let h = and_left three (eqb k.byte 0) g in
    let i = and_left two (eqb k.outbox_closed 0) h in
    record {
      peer = eqb-true _ _ (and_left (eqb k.peer 0) (eqb k.inbox_closed 0) i);
      inbox_closed = eqb-true _ _ (and_right (eqb k.peer 0) (eqb k.inbox_closed 0) i);
      outbox_closed = eqb-true _ _ (and_right two (eqb k.outbox_closed 0) h);
      byte = eqb-true _ _ (and_right three (eqb k.byte 0) g);
      written_total = eqb-true _ _ (and_right four (eqb k.written_total 0) f);
      read_total = eqb-true _ _ (and_right five (eqb k.read_total 0) d);
      first = eqb-true _ _ (and_right six (eqb k.first 0) c);
      items = eqb-true _ _ (and_right seven (eqb k.items 0) b);
      waits = eqb-true _ _ (and_right eight (eqb k.waits 0) a);
      place = eqb-true _ _ (and_right nine (eqb k.place 0) e);
    }

pair-fields : (k : Cell) → pair_fields k ≡ true → PairFields k
unfolding pair_fields
pair-fields k e =
    let p = and_three (leb k.inbox_closed 1) (leb k.outbox_closed 1) (cond (eqb k.waits 0) (eqb k.place 0) true) e in
    record {
      in_flag = leb-true _ _ p.0;
      out_flag = leb-true _ _ p.1;
      no_place = λ z. eqb-true k.place 0 (subst (λ (b : Bool). cond b (eqb k.place 0) true ≡ true) (eq-eqb k.waits 0 z) p.2);
    }

-- ── By tag ──

unbound_parts : (k : Cell) → fields_well k ≡ true → k.tag ≡ 1 → (no_name k ≡ true) × (no_queue k ≡ true) × (no_pair k ≡ true)
unbound_parts k f e = and_three (no_name k) (no_queue k) (no_pair k) (fields_unbound k _ e refl ∙ f)

bound_parts : (k : Cell) → fields_well k ≡ true → k.tag ≡ 2 → (no_queue k ≡ true) × (no_pair k ≡ true)
bound_parts k f e = let z : no_queue k && no_pair k ≡ true = fields_bound k _ e refl ∙ f in (and_left (no_queue k) (no_pair k) z, and_right (no_queue k) (no_pair k) z)

line_parts : (k : Cell) → fields_well k ≡ true → k.tag ≡ 3 → no_pair k ≡ true
line_parts k f e = fields_listening k _ e refl ∙ f

pair_parts : (k : Cell) → fields_well k ≡ true → k.tag ≡ 4 → (no_name k ≡ true) × (no_queue k ≡ true) × (pair_fields k ≡ true)
pair_parts k f e = and_three (no_name k) (no_queue k) (pair_fields k) (fields_connected k _ e refl ∙ f)

pair_of : (k : Cell) → fields_well k ≡ true → k.tag ≡ 4 → PairFields k
pair_of k f e = pair-fields k (pair_parts k f e).2

-- ── Two cells ──

pub record Same (k m : Cell) : Type 0 where
  pub generation : k.generation ≡ m.generation
  pub tag : k.tag ≡ m.tag
  pub name : k.name ≡ m.name
  pub backlog : k.backlog ≡ m.backlog
  pub head : k.head ≡ m.head
  pub pending : k.pending ≡ m.pending
  pub peer : k.peer ≡ m.peer
  pub inbox_closed : k.inbox_closed ≡ m.inbox_closed
  pub outbox_closed : k.outbox_closed ≡ m.outbox_closed
  pub byte : k.byte ≡ m.byte
  pub written_total : k.written_total ≡ m.written_total
  pub read_total : k.read_total ≡ m.read_total
  pub first : k.first ≡ m.first
  pub items : k.items ≡ m.items
  pub waits : k.waits ≡ m.waits
  pub place : k.place ≡ m.place

-- a slot without a pair
plain : (k m : Cell) → NoPair k → NoPair m → k.generation ≡ m.generation → k.tag ≡ m.tag → k.name ≡ m.name → k.backlog ≡ m.backlog → k.head ≡ m.head → k.pending ≡ m.pending → Same k m
plain k m a b eg et en eb eh ep =
    record {
      generation = eg;
      tag = et;
      name = en;
      backlog = eb;
      head = eh;
      pending = ep;
      peer = a.peer ∙ sym b.peer;
      inbox_closed = a.inbox_closed ∙ sym b.inbox_closed;
      outbox_closed = a.outbox_closed ∙ sym b.outbox_closed;
      byte = a.byte ∙ sym b.byte;
      written_total = a.written_total ∙ sym b.written_total;
      read_total = a.read_total ∙ sym b.read_total;
      first = a.first ∙ sym b.first;
      items = a.items ∙ sym b.items;
      waits = a.waits ∙ sym b.waits;
      place = a.place ∙ sym b.place;
    }

-- ── What the state of a slot of the table tells ──

abbrev name_in : model.State → List ℕ
name_in model.State.Unbound = []
name_in (model.State.Bound m) = m
name_in (model.State.Listening m b q) = m
name_in (model.State.Connected p i x y) = []

abbrev backlog_in : model.State → ℕ
backlog_in model.State.Unbound = 0
backlog_in (model.State.Bound m) = 0
backlog_in (model.State.Listening m b q) = b
backlog_in (model.State.Connected p i x y) = 0

abbrev line_in : model.State → List ℕ
line_in model.State.Unbound = []
line_in (model.State.Bound m) = []
line_in (model.State.Listening m b q) = q
line_in (model.State.Connected p i x y) = []

abbrev peer_in : model.State → ℕ
peer_in model.State.Unbound = 0
peer_in (model.State.Bound m) = 0
peer_in (model.State.Listening m b q) = 0
peer_in (model.State.Connected p i x y) = p

abbrev inbox_in : model.State → model.Inbox
inbox_in model.State.Unbound = nothing
inbox_in (model.State.Bound m) = nothing
inbox_in (model.State.Listening m b q) = nothing
inbox_in (model.State.Connected p i x y) = i

abbrev in_closed : model.State → Bool
in_closed model.State.Unbound = false
in_closed (model.State.Bound m) = false
in_closed (model.State.Listening m b q) = false
in_closed (model.State.Connected p i x y) = x

abbrev out_closed : model.State → Bool
out_closed model.State.Unbound = false
out_closed (model.State.Bound m) = false
out_closed (model.State.Listening m b q) = false
out_closed (model.State.Connected p i x y) = y

one_flag : (a b : ℕ) → a ≤ 1 → b ≤ 1 → not (eqb a 0) ≡ not (eqb b 0) → a ≡ b
one_flag a b ha hb e =
    elim (dec_eq a 0) [
      | yes za ↦ elim (dec_eq b 0) [
        | yes zb ↦ za ∙ sym zb
        | no nb ↦ absurd (false≢true (sym (ap not (eq-eqb a 0 za)) ∙ e ∙ ap not (ne_eqb b 0 nb)))
      ]
      | no na ↦ elim (dec_eq b 0) [
        | yes zb ↦ absurd (true≢false (sym (ap not (ne_eqb a 0 na)) ∙ e ∙ ap not (eq-eqb b 0 zb)))
        | no nb ↦ omega (arith, some_one a na, some_one b nb)
      ]
    ]
  where
    some_one : (x : ℕ) → x ≢ 0 → 1 ≤ x
    some_one zero n = absurd (n refl)
    some_one (suc x) n = omega arith

-- ── Where a server stands ──

record Stands (n : ℕ) (w : List ℕ) (i : ℕ) (k : Connection) : Type 0 where
  by : ℕ
  within : by < n
  waits : k.waits ≡ by + 1
  queue : Listener
  listens : state_of (cell_at w by) ≡ Listening queue
  inside : k.place < n
  pending : ahead n queue.head k.place < queue.pending
  there : get_or (queue_in n w by) k.place 0 ≡ handle (cell_at w i).generation i

stands_is : (n x h : ℕ) (queue : List ℕ) (σ : State) → stands_at n x h queue σ ≡ true
    → (q : Listener) × (σ ≡ Listening q) × (x < n) × (ahead n q.head x < q.pending) × (get_or queue x 0 ≡ h)
unfolding stands_at
stands_is n x h queue Closed e = absurd (false≢true e)
stands_is n x h queue Unbound e = absurd (false≢true e)
stands_is n x h queue (Bound m) e = absurd (false≢true e)
stands_is n x h queue (Listening q) e =
    let p = and_three (ltb x n) (ltb (ahead n q.head x) q.pending) (eqb (get_or queue x 0) h) e in
    (q, refl, ltb-true x n p.0, ltb-true _ _ p.1, eqb-true _ _ p.2)
stands_is n x h queue (Connected k) e = absurd (false≢true e)

stands : (n : ℕ) (w : List ℕ) (i : ℕ) (k : Connection) → k.waits ≢ 0 → tied_state n w i (Connected k) ≡ true → Stands n w i k
unfolding tied_state
stands n w i k nz e =
    let z : leb k.waits n && stands_at n k.place (handle (cell_at w i).generation i) (queue_in n w (k.waits - 1)) (state_of (cell_at w (k.waits - 1))) ≡ true =
    subst (λ (b : Bool). cond b true (leb k.waits n && stands_at n k.place (handle (cell_at w i).generation i) (queue_in n w (k.waits - 1)) (state_of (cell_at w (k.waits - 1)))) ≡ true) (ne_eqb k.waits 0 nz) e in
    let p = stands_is n k.place (handle (cell_at w i).generation i) (queue_in n w (k.waits - 1)) (state_of (cell_at w (k.waits - 1))) (and_right (leb k.waits n) _ z) in
    let m = leb-true k.waits n (and_left (leb k.waits n) _ z) in
    let o = some k.waits nz in
    record { by = k.waits - 1; within = omega arith; waits = omega arith; queue = p.0; listens = p.1; inside = p.2; pending = p.3; there = p.4 }
  where
    some : (x : ℕ) → x ≢ 0 → 1 ≤ x
    some zero n = absurd (n refl)
    some (suc x) n = omega arith

-- ── Two storages ──

-- both are well-formed, and nothing that a promise speaks of differs
pub record Alike (n c : ℕ) (s s' : Store) : Type 0 where
  pub left : Known n c s
  pub right : Known n c s'
  pub shown : view n c s ≡ view n c s'
  pub numbers : (i : ℕ) → i < n → hidden_in (state_of (cell_at s.words i)) ≡ hidden_in (state_of (cell_at s'.words i))
  pub low : (k : ℕ) → get_or s.words k 0 < 2 ^ 64
  pub low' : (k : ℕ) → get_or s'.words k 0 < 2 ^ 64

module _ (n c : ℕ) (s s' : Store) (a : Alike n c s s') where
  abbrev kc : ℕ → Cell
  kc i = cell_at s.words i

  abbrev mc : ℕ → Cell
  mc i = cell_at s'.words i

  same_slot : (i : ℕ) → at (view n c s) i ≡ at (view n c s') i
  same_slot i = ap (λ (t : model.Table). at t i) a.shown

  -- what a slot in these states shows
  seen_both : (i : ℕ) (σ σ' : State) → i < n → state_of (kc i) ≡ σ → state_of (mc i) ≡ σ' → show_in (row_at n c s i) (kc i).generation σ ≡ show_in (row_at n c s' i) (mc i).generation σ'
  seen_both i σ σ' h e e' = sym (seen n c s i σ h e) ∙ same_slot i ∙ seen n c s' i σ' h e'

  pub same_tag : (i : ℕ) → i < n → (kc i).tag ≡ (mc i).tag
  same_tag i h =
      sym (shown_tag (row_at n c s i) (kc i).generation (kc i) (a.left.fields i h)) ∙ ap slot_kind (seen_both i _ _ h refl refl)
      ∙ shown_tag (row_at n c s' i) (mc i).generation (mc i) (a.right.fields i h)

  pub same_generation : (i : ℕ) → i < n → (kc i).generation ≡ (mc i).generation
  same_generation i h = sym (gen_at n c s i h) ∙ ap (λ (x : model.Slot). x.gen) (same_slot i) ∙ gen_at n c s' i h

  -- ── Listeners ──

  module _ (i : ℕ) (h : i < n) (e : (kc i).tag ≡ 3) where
    tag_l : (mc i).tag ≡ 3
    tag_l = sym (same_tag i h) ∙ e

    pub l₁ : ((kc i).name ≤ 255) × ((kc i).backlog < 4294967296) × ((kc i).head < n) × ((kc i).pending ≤ n)
    l₁ = listener_range n c (listener_of (kc i)) (subst (λ (σ : State). ranges_well n c σ ≡ true) (is_listening (kc i) e) (a.left.ranges i h))

    pub l₂ : ((mc i).name ≤ 255) × ((mc i).backlog < 4294967296) × ((mc i).head < n) × ((mc i).pending ≤ n)
    l₂ = listener_range n c (listener_of (mc i)) (subst (λ (σ : State). ranges_well n c σ ≡ true) (is_listening (mc i) tag_l) (a.right.ranges i h))

    shown_l : show_in (row_at n c s i) (kc i).generation (Listening (listener_of (kc i))) ≡ show_in (row_at n c s' i) (mc i).generation (Listening (listener_of (mc i)))
    shown_l = seen_both i _ _ h (is_listening (kc i) e) (is_listening (mc i) tag_l)

    pub same_line : queued (queue_in n s.words i) (kc i).head (kc i).pending ≡ queued (queue_in n s'.words i) (mc i).head (mc i).pending
    unfolding show_in row_at
    same_line = ap (λ (x : model.Slot). line_in x.state) shown_l

    pub same_head : (kc i).head ≡ (mc i).head
    unfolding hidden_in
    same_head =
        ap (λ (σ : State). (hidden_in σ).head) (sym (is_listening (kc i) e)) ∙ ap (λ (x : Hidden). x.head) (a.numbers i h) ∙ ap (λ (σ : State). (hidden_in σ).head) (is_listening (mc i) tag_l)

    pub same_pending : (kc i).pending ≡ (mc i).pending
    same_pending =
        let y = l₁ in
        let z = l₂ in
        sym (queue-length n c s a.left.roomy i (listener_of (kc i)) h y.2 y.3)
        ∙ ap length same_line
        ∙ queue-length n c s' a.right.roomy i (listener_of (mc i)) h z.2 z.3

  -- ── Names ──

  room_long : (x : Store) → Roomy n c x → (i : ℕ) → i < n → length (row_at n c x i).room ≡ 255
  unfolding row_at
  room_long x f i h = let z = f.bytes in length_part (name_base n c i) 255 x.bytes (omega arith)

  name-length : (i k m : ℕ) → i < n → k ≤ 255 → m ≤ 255 → take k (row_at n c s i).room ≡ take m (row_at n c s' i).room → k ≡ m
  name-length i k m h hk hm e =
      sym (length-take-le k (row_at n c s i).room (let z = room_long s a.left.roomy i h in omega arith)) ∙ ap length e
      ∙ length-take-le m (row_at n c s' i).room (let z = room_long s' a.right.roomy i h in omega arith)

  -- ── Connections ──

  module _ (i : ℕ) (h : i < n) (e : (kc i).tag ≡ 4) where
    tag_c : (mc i).tag ≡ 4
    tag_c = sym (same_tag i h) ∙ e

    abbrev q₁ : Inbox
    q₁ = (connection_of (kc i)).inbox

    abbrev q₂ : Inbox
    q₂ = (connection_of (mc i)).inbox

    abbrev r₁ : Row
    r₁ = row_at n c s i

    abbrev r₂ : Row
    r₂ = row_at n c s' i

    pub in₁ : (q₁.head < c) × (count q₁ ≤ c) × (q₁.first < 256) × (q₁.items ≤ 256)
    in₁ = inbox-range n c (connection_of (kc i)) (subst (λ (σ : State). ranges_well n c σ ≡ true) (is_connected (kc i) e) (a.left.ranges i h))

    pub in₂ : (q₂.head < c) × (count q₂ ≤ c) × (q₂.first < 256) × (q₂.items ≤ 256)
    in₂ = inbox-range n c (connection_of (mc i)) (subst (λ (σ : State). ranges_well n c σ ≡ true) (is_connected (mc i) tag_c) (a.right.ranges i h))

    shown_c : show_in r₁ (kc i).generation (Connected (connection_of (kc i))) ≡ show_in r₂ (mc i).generation (Connected (connection_of (mc i)))
    shown_c = seen_both i _ _ h (is_connected (kc i) e) (is_connected (mc i) tag_c)

    same_inbox : inbox.view r₁.ring r₁.places r₁.tokens q₁ ≡ inbox.view r₂.ring r₂.places r₂.tokens q₂
    unfolding show_in
    same_inbox = ap (λ (x : model.Slot). inbox_in x.state) shown_c

    same_peer : (kc i).peer ≡ (mc i).peer
    unfolding show_in
    same_peer = ap (λ (x : model.Slot). peer_in x.state) shown_c

    same_in : not (eqb (kc i).inbox_closed 0) ≡ not (eqb (mc i).inbox_closed 0)
    unfolding show_in
    same_in = ap (λ (x : model.Slot). in_closed x.state) shown_c

    same_out : not (eqb (kc i).outbox_closed 0) ≡ not (eqb (mc i).outbox_closed 0)
    unfolding show_in
    same_out = ap (λ (x : model.Slot). out_closed x.state) shown_c

    same_given : eqb (kc i).waits 0 ≡ eqb (mc i).waits 0
    unfolding show_in
    same_given = ap (λ (x : model.Slot). x.given) shown_c

    -- the hidden numbers
    hidden_c : hidden_in (Connected (connection_of (kc i))) ≡ hidden_in (Connected (connection_of (mc i)))
    hidden_c = ap hidden_in (sym (is_connected (kc i) e)) ∙ a.numbers i h ∙ ap hidden_in (is_connected (mc i) tag_c)

    pub same_byte : (kc i).byte ≡ (mc i).byte
    unfolding hidden_in
    same_byte = ap (λ (x : Hidden). x.byte) hidden_c

    pub same_first : (kc i).first ≡ (mc i).first
    unfolding hidden_in
    same_first = ap (λ (x : Hidden). x.first) hidden_c

    pub same_written : (kc i).written_total ≡ (mc i).written_total
    unfolding hidden_in cell_at
    same_written =
        let z : get_or s.words (cell_base i + 10) 0 % 2 ^ 64 ≡ get_or s'.words (cell_base i + 10) 0 % 2 ^ 64 = ap (λ (x : Hidden). x.written) hidden_c in
        let u = a.low (cell_base i + 10) in
        let v = a.low' (cell_base i + 10) in
        omega arith

    pub same_read : (kc i).read_total ≡ (mc i).read_total
    unfolding hidden_in cell_at
    same_read =
        let z : get_or s.words (cell_base i + 11) 0 % 2 ^ 64 ≡ get_or s'.words (cell_base i + 11) 0 % 2 ^ 64 = ap (λ (x : Hidden). x.read) hidden_c in
        let u = a.low (cell_base i + 11) in
        let v = a.low' (cell_base i + 11) in
        omega arith

    pub same_count : count q₁ ≡ count q₂
    same_count = ap (λ (x : ℕ). inbox.dist x q₁.read_total) same_written ∙ ap (inbox.dist q₂.written_total) same_read

    -- the items
    module _ (x : Store) (f : Roomy n c x) (q : Inbox) (hf : q.first < 256) (hi : q.items ≤ 256) where
      pub tokens_long : length (row_at n c x i).tokens ≡ 256
      unfolding row_at
      tokens_long = let z = f.tokens in length_part (tokens_base i) 256 x.tokens (omega arith)

      pub places_long : length (row_at n c x i).places ≡ 256
      unfolding row_at
      places_long = let z = f.words in length_part (places_base n i) 256 x.words (omega arith)

      pub items_long : length (items_in (row_at n c x i).tokens q) ≡ q.items
      unfolding items_in
      items_long = let z = tokens_long in queued-length (row_at n c x i).tokens q.first (omega arith) q.items (omega arith)

      pub distances_long : length (distances q (row_at n c x i).places) ≡ q.items
      unfolding distances
      distances_long =
          let z = places_long in
          length-map (queued (row_at n c x i).places q.first q.items) _ ∙ queued-length (row_at n c x i).places q.first (omega arith) q.items (omega arith)

      pub all-items : all_items (groups_of (distances q (row_at n c x i).places) (items_in (row_at n c x i).tokens q)) ≡ items_in (row_at n c x i).tokens q
      all-items = let y = items_long in let z = distances_long in items_all _ _ (omega arith)

    same_groups : groups_of (distances q₁ r₁.places) (items_in r₁.tokens q₁) ≡ groups_of (distances q₂ r₂.places) (items_in r₂.tokens q₂)
    same_groups = ap (λ (x : model.Inbox). x.groups) same_inbox

    pub same_bytes : bytes_of r₁.ring q₁ ≡ bytes_of r₂.ring q₂
    same_bytes = ap (λ (x : model.Inbox). x.bytes) same_inbox

    pub same_tokens : items_in r₁.tokens q₁ ≡ items_in r₂.tokens q₂
    same_tokens = sym (all-items s a.left.roomy q₁ in₁.2 in₁.3) ∙ ap all_items same_groups ∙ all-items s' a.right.roomy q₂ in₂.2 in₂.3

    pub same_items : (kc i).items ≡ (mc i).items
    same_items = sym (items_long s a.left.roomy q₁ in₁.2 in₁.3) ∙ ap length same_tokens ∙ items_long s' a.right.roomy q₂ in₂.2 in₂.3

    pub same_distances : distances q₁ r₁.places ≡ distances q₂ r₂.places
    same_distances =
        same_places _ _ _ _ (distances_long s a.left.roomy q₁ in₁.2 in₁.3 ∙ sym (items_long s a.left.roomy q₁ in₁.2 in₁.3))
        (distances_long s' a.right.roomy q₂ in₂.2 in₂.3 ∙ sym (items_long s' a.right.roomy q₂ in₂.2 in₂.3)) same_groups

    -- where it waits: the entry that stands for it in one storage stands for it in the other
    module _ (nz : (kc i).waits ≢ 0) where
      st : Stands n s.words i (connection_of (kc i))
      unfolding tied
      st = stands n s.words i (connection_of (kc i)) nz (subst (λ (σ : State). tied_state n s.words i σ ≡ true) (is_connected (kc i) e) (a.left.ties i h))

      abbrev l : ℕ
      l = st.by

      tag_by : (kc l).tag ≡ 3
      unfolding slot_kind kind_of show_in
      tag_by = sym (shown_tag (row_at n c s l) (kc l).generation (kc l) (a.left.fields l st.within)) ∙ ap (λ (σ : State). slot_kind (show_in (row_at n c s l) (kc l).generation σ)) st.listens

      queue_is : listener_of (kc l) ≡ st.queue
      queue_is = listening_inj (sym (is_listening (kc l) tag_by) ∙ st.listens)

      abbrev j : ℕ
      j = ahead n (kc l).head (kc i).place

      hj : j < (kc l).pending
      hj = subst (λ (q : Listener). ahead n q.head (kc i).place < q.pending) (sym queue_is) st.pending

      found : get_or (queue_in n s'.words l) (place_of n ((mc l).head + j)) 0 ≡ handle (kc i).generation i
      found =
          let u = l₁ l st.within tag_by in
          let v = l₂ l st.within tag_by in
          let hp = same_pending l st.within tag_by in
          let x = hj in
          sym (queue_at n c s' a.right.roomy l (listener_of (mc l)) j st.within v.2 v.3 (omega arith))
          ∙ ap (λ (q : List ℕ). get_or q j 0) (sym (same_line l st.within tag_by))
          ∙ ring_at (queue_in n s.words l) n (kc l).head (kc l).pending (kc i).place (queue_long n c s a.left.roomy l st.within) u.2 u.3 st.inside hj
          ∙ st.there

      slot_is : slot_of (handle (kc i).generation i) ≡ i
      slot_is = let z = a.left.roomy.few in omega arith

      en : Entry n s'.words l (place_of n ((mc l).head + j)) (handle (kc i).generation i)
      unfolding tied
      en =
          let hp = same_pending l st.within tag_by in
          let x = hj in
          subst (Entry n s'.words l (place_of n ((mc l).head + j))) found
          ((entries_of n s'.words l (listener_of (mc l))
          (subst (λ (σ : State). tied_state n s'.words l σ ≡ true) (is_listening (mc l) (tag_l l st.within tag_by)) (a.right.ties l st.within))).each j (omega arith))

      server_is : connection_of (mc i) ≡ en.server
      server_is = connected_inj (sym (is_connected (mc i) tag_c) ∙ ap (λ (x : ℕ). state_of (mc x)) (sym slot_is) ∙ en.is_server)

      waits_same : (kc i).waits ≡ (mc i).waits
      waits_same = st.waits ∙ sym (ap (λ (x : Connection). x.waits) server_is ∙ en.waits_there)

      place_same : (kc i).place ≡ (mc i).place
      place_same =
          sym (place_ahead n (kc l).head (kc i).place (l₁ l st.within tag_by).2 st.inside)
          ∙ ap (λ (x : ℕ). place_of n (x + ahead n (kc l).head (kc i).place)) (same_head l st.within tag_by)
          ∙ sym (ap (λ (x : Connection). x.place) server_is ∙ en.stands_there)

    same_waits : ((kc i).waits ≡ (mc i).waits) × ((kc i).place ≡ (mc i).place)
    same_waits =
        elim (dec_eq (kc i).waits 0) [
          | yes z ↦
              let z' : (mc i).waits ≡ 0 = eqb-true (mc i).waits 0 (sym same_given ∙ eq-eqb (kc i).waits 0 z) in
              (z ∙ sym z', (pair_of (kc i) (a.left.fields i h) e).no_place z ∙ sym ((pair_of (mc i) (a.right.fields i h) tag_c).no_place z'))
          | no nz ↦ (waits_same nz, place_same nz)
        ]

    pub same_connected : Same (kc i) (mc i)
    same_connected =
        let x = no-queue (kc i) (pair_parts (kc i) (a.left.fields i h) e).1 in
        let y = no-queue (mc i) (pair_parts (mc i) (a.right.fields i h) tag_c).1 in
        let f = pair_of (kc i) (a.left.fields i h) e in
        let g = pair_of (mc i) (a.right.fields i h) tag_c in
        record {
          generation = same_generation i h;
          tag = same_tag i h;
          name = no_name-zero (kc i) (pair_parts (kc i) (a.left.fields i h) e).0 ∙ sym (no_name-zero (mc i) (pair_parts (mc i) (a.right.fields i h) tag_c).0);
          backlog = x.backlog ∙ sym y.backlog;
          head = x.head ∙ sym y.head;
          pending = x.pending ∙ sym y.pending;
          peer = same_peer;
          inbox_closed = one_flag _ _ f.in_flag g.in_flag same_in;
          outbox_closed = one_flag _ _ f.out_flag g.out_flag same_out;
          byte = same_byte;
          written_total = same_written;
          read_total = same_read;
          first = same_first;
          items = same_items;
          waits = same_waits.0;
          place = same_waits.1;
        }

  -- ── Every open slot ──

  same_listening : (i : ℕ) → i < n → (kc i).tag ≡ 3 → Same (kc i) (mc i)
  unfolding show_in
  same_listening i h e =
      let e' = tag_l i h e in
      let z = shown_l i h e in
      plain (kc i) (mc i) (no-pair (kc i) (line_parts (kc i) (a.left.fields i h) e)) (no-pair (mc i) (line_parts (mc i) (a.right.fields i h) e')) (same_generation i h) (same_tag i h)
      (name-length i (kc i).name (mc i).name h (l₁ i h e).0 (l₂ i h e).0 (ap (λ (x : model.Slot). name_in x.state) z))
      (ap (λ (x : model.Slot). backlog_in x.state) z)
      (same_head i h e) (same_pending i h e)

  same_bound : (i : ℕ) → i < n → (kc i).tag ≡ 2 → Same (kc i) (mc i)
  unfolding show_in
  same_bound i h e =
      let e' : (mc i).tag ≡ 2 = sym (same_tag i h) ∙ e in
      let p = bound_parts (kc i) (a.left.fields i h) e in
      let p' = bound_parts (mc i) (a.right.fields i h) e' in
      let x = no-queue (kc i) p.0 in
      let y = no-queue (mc i) p'.0 in
      plain (kc i) (mc i) (no-pair (kc i) p.1) (no-pair (mc i) p'.1) (same_generation i h) (same_tag i h)
      (name-length i (kc i).name (mc i).name h
      (bound_range n c (kc i).name (subst (λ (σ : State). ranges_well n c σ ≡ true) (is_bound (kc i) e) (a.left.ranges i h)))
      (bound_range n c (mc i).name (subst (λ (σ : State). ranges_well n c σ ≡ true) (is_bound (mc i) e') (a.right.ranges i h)))
      (ap (λ (x : model.Slot). name_in x.state) (seen_both i _ _ h (is_bound (kc i) e) (is_bound (mc i) e'))))
      (x.backlog ∙ sym y.backlog) (x.head ∙ sym y.head) (x.pending ∙ sym y.pending)

  same_unbound : (i : ℕ) → i < n → (kc i).tag ≡ 1 → Same (kc i) (mc i)
  same_unbound i h e =
      let e' : (mc i).tag ≡ 1 = sym (same_tag i h) ∙ e in
      let p = unbound_parts (kc i) (a.left.fields i h) e in
      let p' = unbound_parts (mc i) (a.right.fields i h) e' in
      let x = no-queue (kc i) p.1 in
      let y = no-queue (mc i) p'.1 in
      plain (kc i) (mc i) (no-pair (kc i) p.2) (no-pair (mc i) p'.2) (same_generation i h) (same_tag i h)
      (no_name-zero (kc i) p.0 ∙ sym (no_name-zero (mc i) p'.0))
      (x.backlog ∙ sym y.backlog) (x.head ∙ sym y.head) (x.pending ∙ sym y.pending)

  -- a slot is closed in both, or its words are the same
  pub cells : (i : ℕ) → i < n → ((kc i).tag ≡ 0) ⊎ Same (kc i) (mc i)
  cells i h =
      by_tag (kc i) (a.left.fields i h) (λ e. inl e) (λ e. inr (same_unbound i h e)) (λ e. inr (same_bound i h e)) (λ e. inr (same_listening i h e)) (λ e. inr (same_connected i h e))
