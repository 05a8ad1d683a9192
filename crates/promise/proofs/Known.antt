-- What is known of an admitted table, and what shows that the storage after a call is as promised.
use mathlib.Core.Path.{◌≡◌, refl, sym, ap, ◌∙◌, subst}
use mathlib.Core.Logic.{◌≢◌}
use mathlib.Core.Bool.{true}
use mathlib.Core.List.{List}
use Prim.Native.Nat.{ℕ, ◌+◌, ◌-◌, ◌%◌, ◌^◌, ◌≤◌, ◌<◌}
use native.Mathlib.Omega.{arith}
use lib.Dec.{leb, ltb}
use lib.ListN.{length, take, get_or}
use lib.Seq.{get_or-take}
use borrow.Author.Tests.{leb-true, ltb-true}
use Rattle.laws.proofs.Tests.{and_three, and_four}
use Rattle.ring.specs.Ring.{place_of}
use Rattle.ring.proofs.Copying.{place_low}
use Rattle.inbox.specs.View.{count}
use Rattle.rules.specs.Inbox.{all_items}
use Rattle.rules.specs.Table as model
use Rattle.rules.specs.Table.{at}
use Rattle.rules.specs.Outcome.{Call, Outcome, refuse}
use Rattle.rules.specs.Run.{run}
use Rattle.rules.specs.WellFormed.{every, well_formed}
use Rattle.rules.proofs.YesNo.{agree, kept, every_at, at_every}
use Rattle.rules.proofs.Formed.{Formed}
use Rattle.storage.specs.Cells.{cell_at, state_of}
use Rattle.storage.specs.Rows.{Store, Row, row_at, Roomy, Around}
use Rattle.storage.specs.View.{view, show_in}
use Rattle.storage.specs.declared.State.{State}
use Rattle.storage.specs.declared.State.TheVariants.{Closed, Unbound, Bound, Listening, Connected}
use Rattle.storage.specs.declared.Listener.{Listener}
use Rattle.storage.specs.declared.Connection.{Connection}
use Rattle.table.specs.Formed.{header_well, fields_well, inbox_range, ranges_well, tied, slot_formed, formed}
use Rattle.table.specs.Admission.{Admitted}
use Rattle.promise.specs.Answers.{refused_with}
use Rattle.promise.specs.Hidden.{hidden_in, hidden_after, from_queue, queue_on, from_inbox, inbox_on, room_after, name_written}
use Rattle.promise.specs.Promise.{Lists, Stored, Done}
use Rattle.promise.specs.declared.Answer.{Answer}

-- ── An admitted table ──

pub record Known (n c : ℕ) (s : Store) : Type 0 where
  pub roomy : Roomy n c s
  pub some_slot : 1 ≤ n
  pub some_byte : 1 ≤ c
  pub header : header_well n c s.words ≡ true
  pub fields : (i : ℕ) → i < n → fields_well (cell_at s.words i) ≡ true
  pub ranges : (i : ℕ) → i < n → ranges_well n c (state_of (cell_at s.words i)) ≡ true
  pub ties : (i : ℕ) → i < n → tied n s.words i ≡ true
  pub well : well_formed (view n c s) ≡ true
  pub good : Formed (view n c s)

pub known : {n c : ℕ} {s : Store} {a b : ℕ} → Admitted n c s a b → Known n c s
unfolding formed slot_formed
known {n} {c} {s} d =
    let p = and_three (header_well n c s.words) (every n (slot_formed n c s.words)) (well_formed (view n c s)) d.is_formed in
    let q : (i : ℕ) → i < n → (fields_well (cell_at s.words i) ≡ true) × (ranges_well n c (state_of (cell_at s.words i)) ≡ true) × (tied n s.words i ≡ true) =
    λ i h. and_three (fields_well (cell_at s.words i)) (ranges_well n c (state_of (cell_at s.words i))) (tied n s.words i) (every_at n (slot_formed n c s.words) i p.1 h) in
    record {
      roomy = record { few = d.few; small = d.small; words = d.words; bytes = d.bytes; tokens = d.tokens };
      some_slot = d.some_slot;
      some_byte = d.some_byte;
      header = p.0;
      fields = λ i h. (q i h).0;
      ranges = λ i h. (q i h).1;
      ties = λ i h. (q i h).2;
      well = p.2;
      good = (agree (view n c s)).0 p.2;
    }

-- ── A refusal ──

pub refused_done : (o : Outcome) (e n c : ℕ) (s : Store) (l : Lists) (r : Answer) → o ≡ refuse (view n c s) e → e ≢ 0 → r ≡ refused_with e → Done o n c s s l l r
refused_done o e n c s l r eo ne er =
    rw (eo, er)
    (record {
      refusal_is = refl;
      value_is = refl;
      flags_are = refl;
      item_count = refl;
      wake_count = refl;
      release_count = refl;
      wake_list = refl;
      release_list = refl;
      accepted = λ z. absurd (ne z);
      refused = λ z. refl;
    })

-- ── The header ──

header_at : (w w' : List ℕ) (k : ℕ) → take 8 w' ≡ take 8 w → k < 8 → get_or w' k 0 ≡ get_or w k 0
header_at w w' k e h = sym (get_or-take 8 w' k 0 h) ∙ ap (λ (l : List ℕ). get_or l k 0) e ∙ get_or-take 8 w k 0 h

pub header_kept : (n c : ℕ) (w w' : List ℕ) → take 8 w' ≡ take 8 w → header_well n c w ≡ true → header_well n c w' ≡ true
unfolding header_well every
header_kept n c w w' e h =
    rw (header_at w w' 0 e (omega arith), header_at w w' 1 e (omega arith), header_at w w' 2 e (omega arith), header_at w w' 3 e (omega arith), header_at w w' 4 e (omega arith), header_at w w' 5 e (omega arith), header_at w w' 6 e (omega arith), header_at w w' 7 e (omega arith)) h

-- ── An accepted call: what is shown of each slot ──

pub record Proper (n c : ℕ) (s s' : Store) (o : Outcome) (i : ℕ) : Type 0 where
  pub fields : fields_well (cell_at s'.words i) ≡ true
  pub ranges : ranges_well n c (state_of (cell_at s'.words i)) ≡ true
  pub numbers : hidden_in (state_of (cell_at s'.words i)) ≡ hidden_after n c (hidden_in (state_of (cell_at s.words i))) (at (view n c s) i).state (at o.next i).state
  pub room : (row_at n c s' i).room ≡ room_after (row_at n c s i).room (at (view n c s) i).state (at o.next i).state

pub stored : (n c : ℕ) (s s' : Store) (call : Call) → Known n c s → Around n c s s' → view n c s' ≡ (run (view n c s) call).next
    → ((i : ℕ) → i < n → Proper n c s s' (run (view n c s) call) i) → ((i : ℕ) → i < n → tied n s'.words i ≡ true) → Stored n c s s' (run (view n c s) call)
unfolding formed slot_formed
stored n c s s' call k a v p t =
    record {
      shows = v;
      well =
          rw (header_kept n c s.words s'.words a.header k.header, at_every n (slot_formed n c s'.words) (λ i h. rw ((p i h).fields, (p i h).ranges, t i h)), v)
          (kept (view n c s) call k.well);
      numbers = λ i h. (p i h).numbers;
      rooms = λ i h. (p i h).room;
      around = a;
    }

-- ── A slot that stays ──

-- of which nothing was taken
pub stay : (c k x y : ℕ) → k < c → x ≤ y → place_of c (k + (x - y)) ≡ k
stay c k x y h l = let e : k + (x - y) ≡ k = omega arith in ap (place_of c) e ∙ sym (place_low c k h).0

round : (a n : ℕ) → (a % 2 ^ 64 + (n - n)) % 2 ^ 64 ≡ a % 2 ^ 64
round a n = omega arith

pub queue_stays : (n : ℕ) (l : Listener) (q q' : List ℕ) → l.head < n → length q ≡ length q' → queue_on n (hidden_in (Listening l)) q q' ≡ hidden_in (Listening l)
unfolding queue_on hidden_in
queue_stays n l q q' h e = rw (e, stay n l.head (length q') (length q') h (omega arith))

pub inbox_stays : (c : ℕ) (k : Connection) (i : model.Inbox) → k.inbox.head < c → k.inbox.first < 256 → inbox_on c (hidden_in (Connected k)) i i ≡ hidden_in (Connected k)
unfolding inbox_on hidden_in
inbox_stays c k i hb hf =
    rw (stay c k.inbox.head (length i.bytes) (length i.bytes) hb (omega arith), round k.inbox.written_total (length i.bytes), round k.inbox.read_total (length i.bytes), stay 256 k.inbox.first (length (all_items i.groups)) (length (all_items i.groups)) hf (omega arith))

-- the ranges of a listener and of an inbox
pub bound_range : (n c m : ℕ) → ranges_well n c (Bound m) ≡ true → m ≤ 255
unfolding ranges_well
bound_range n c m e = leb-true m 255 e

pub listener_range : (n c : ℕ) (l : Listener) → ranges_well n c (Listening l) ≡ true → (l.name ≤ 255) × (l.backlog < 4294967296) × (l.head < n) × (l.pending ≤ n)
unfolding ranges_well
listener_range n c l e =
    let p = and_four (leb l.name 255) (ltb l.backlog 4294967296) (ltb l.head n) (leb l.pending n) e in
    (leb-true l.name 255 p.0, ltb-true l.backlog 4294967296 p.1, ltb-true l.head n p.2, leb-true l.pending n p.3)

pub listener_at : {n c : ℕ} {s : Store} → Known n c s → {i : ℕ} → i < n → {l : Listener} → state_of (cell_at s.words i) ≡ Listening l
    → (l.name ≤ 255) × (l.backlog < 4294967296) × (l.head < n) × (l.pending ≤ n)
listener_at {n} {c} k {i} h {l} e = listener_range n c l (subst (λ (σ : State). ranges_well n c σ ≡ true) e (k.ranges i h))

pub inbox-range : (n c : ℕ) (k : Connection) → ranges_well n c (Connected k) ≡ true → (k.inbox.head < c) × (count k.inbox ≤ c) × (k.inbox.first < 256) × (k.inbox.items ≤ 256)
unfolding ranges_well inbox_range
inbox-range n c k e =
    let q = k.inbox in
    let p = and_four (ltb q.head c) (leb (count q) c) (ltb q.first 256) (leb q.items 256) e in
    (ltb-true q.head c p.0, leb-true (count q) c p.1, ltb-true q.first 256 p.2, leb-true q.items 256 p.3)

pub idle : (n c : ℕ) (r : Row) (g : ℕ) (σ : State) → ranges_well n c σ ≡ true → hidden_in σ ≡ hidden_after n c (hidden_in σ) (show_in r g σ).state (show_in r g σ).state
unfolding hidden_in hidden_after from_queue from_inbox show_in
idle n c r g Closed e = refl
idle n c r g Unbound e = refl
idle n c r g (Bound m) e = refl
idle n c r g (Listening l) e = sym (queue_stays n l _ _ (listener_range n c l e).2 refl)
idle n c r g (Connected k) e = let p = inbox-range n c k e in sym (inbox_stays c k _ p.0 p.2)

pub idle_room : (room : List ℕ) (σ : model.State) → room ≡ room_after room σ σ
unfolding room_after name_written
idle_room room model.State.Unbound = refl
idle_room room (model.State.Bound m) = refl
idle_room room (model.State.Listening m b q) = refl
idle_room room (model.State.Connected p i x y) = refl
