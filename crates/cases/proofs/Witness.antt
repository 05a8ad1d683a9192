-- The statements are not empty: from a made storage, by calls with results that the promise allows, a connect falls asleep, and a listen wakes it.
use mathlib.Core.Path.{◌≡◌, refl, sym, ap, ◌∙◌}
use mathlib.Core.Bool.{Bool, true}
use mathlib.Core.List.{List, []}
use Prim.Native.Nat.{ℕ}
use native.Mathlib.Omega.{arith}
use lib.ListN.{length, get_or, set, take, drop}
use lib.Seq.{sets}
use Rattle.laws.specs.Tab.{tab}
use Rattle.laws.proofs.Tab.{get_or-tab}
use Rattle.ring.specs.Ring as ring
use Rattle.rules.specs.Table as model
use Rattle.rules.specs.Table.{at}
use Rattle.rules.specs.Outcome.{Call, Outcome}
use Rattle.rules.specs.Run.{in_range, admission, entry}
use Rattle.rules.specs.Demand.{Still}
use Rattle.rules.specs.WellFormed.{every, each, implies, alone, named_well, points_at, linked_well, rising, inbox_well, is_connected, is_pending, count, queued_in, pending_well, state_well, is_unbound, slot_well, well_formed}
use Rattle.rules.proofs.Lines.{socket, root, h0, h1}
use Rattle.rules.proofs.Lines as lines
use Rattle.storage.specs.Layout.{sizes_of}
use Rattle.storage.specs.Cells.{cell_at, state_of}
use Rattle.storage.specs.Rows.{Store, lent, row_at, rows}
use Rattle.storage.specs.View.{view, show_in}
use Rattle.table.specs.Formed.{header_well, no_name, no_queue, no_pair, pair_fields, fields_well, inbox_range, ranges_well, waits_at, server_well, ahead, stands_at, tied_state, tied, slot_formed, formed}
use Rattle.table.specs.Admission.{storage_fits, lists_fit}
use Rattle.table.specs.Making.{made}
use Rattle.promise.specs.Hidden.{Hidden, zeros, hidden_in, queue_on, inbox_on, from_queue, from_inbox, hidden_after, name_written, room_after}
use Rattle.promise.specs.Promise.{lists}
use Rattle.cases.specs.Step.{Request, Result, outcome_of, Allowed, Reached}
use Rattle.cases.specs.Made.{Made}
use Rattle.cases.specs.Sleeper.{Stirs, Asleep}
use Rattle.cases.specs.Leads.{asked}
use Rattle.cases.proofs.Reachable.{zeroed, some_made}

-- `unfolding storage` opens all that is said of a storage
unfoldable storage : Unit {0}
unfolding tab ring.place_of ring.queued every each implies alone named_well points_at linked_well rising inbox_well is_connected is_pending count queued_in pending_well state_well is_unbound slot_well well_formed cell_at state_of row_at rows view show_in header_well no_name no_queue no_pair pair_fields fields_well inbox_range ranges_well waits_at server_well ahead stands_at tied_state tied slot_formed formed storage_fits lists_fit in_range admission entry hidden_in queue_on inbox_on from_queue from_inbox hidden_after name_written room_after
storage = tt

-- ── A result that the promise allows, by computation ──

-- what the outcome says: the answer, both lists, the caller's buffer and item list
abbrev resulting : Store → Request → Store → Result
resulting s q s' =
    let o = outcome_of s q in
    record {
      store = s';
      lists = lists (sets q.lists.wakes 0 o.wakes) (sets q.lists.releases 0 o.releases);
      buf = sets q.buf 0 o.bytes;
      items = sets q.items 0 o.items;
      answer = record { refusal = o.no; flags = o.flags; value = o.value; items = length o.items; wakes = length o.wakes; releases = length o.releases };
    }

-- all that is asked of an accepted call's storage, as one value
record Picture : Type 0 where
  no : ℕ
  table : model.Table
  well : Bool
  numbers : List Hidden
  rooms : List (List ℕ)
  lengths : ℕ × ℕ × ℕ
  header : List ℕ
  beyond : List ℕ × List ℕ × List ℕ

abbrev drawn : (n c : ℕ) (number : ℕ) → model.Table → Bool → List Hidden → List (List ℕ) → Store → Picture
drawn n c e t b hidden rooms u =
    record {
      no = e;
      table = t;
      well = b;
      numbers = hidden;
      rooms = rooms;
      lengths = (length u.words, length u.bytes, length u.tokens);
      header = take 8 u.words;
      beyond = (drop (sizes_of n c).words u.words, drop (sizes_of n c).bytes u.bytes, drop (sizes_of n c).tokens u.tokens);
    }

module _ (n c : ℕ) (s s' : Store) (x : Call) where
  abbrev o : Outcome
  o = outcome_of s (asked n c x)

  abbrev found : Picture
  found = drawn n c o.no (view n c s') (formed n c s') (tab n (λ i. hidden_in (state_of (cell_at s'.words i)))) (tab n (λ i. (row_at n c s' i).room)) s'

  abbrev wanted : Picture
  wanted =
      drawn n c 0 o.next true (tab n (λ i. hidden_after n c (hidden_in (state_of (cell_at s.words i))) (at (view n c s) i).state (at o.next i).state))
      (tab n (λ i. room_after (row_at n c s i).room (at (view n c s) i).state (at o.next i).state)) s

  allowed_by : found ≡ wanted → Allowed s (asked n c x) (resulting s (asked n c x) s')
  allowed_by e =
      record {
        promise =
            record {
              refusal_is = refl;
              value_is = refl;
              flags_are = refl;
              item_count = refl;
              wake_count = refl;
              release_count = refl;
              wake_list = refl;
              release_list = refl;
              accepted = λ z.
                  record {
                    shows = ap (λ (p : Picture). p.table) e;
                    well = ap (λ (p : Picture). p.well) e;
                    numbers = λ i h. sym (get_or-tab n _ i zeros h) ∙ ap (λ (p : Picture). get_or p.numbers i zeros) e ∙ get_or-tab n _ i zeros h;
                    rooms = λ i h. sym (get_or-tab n _ i [] h) ∙ ap (λ (p : Picture). get_or p.rooms i []) e ∙ get_or-tab n _ i [] h;
                    around =
                        record {
                          words_long = ap (λ (p : Picture). p.lengths.0) e;
                          bytes_long = ap (λ (p : Picture). p.lengths.1) e;
                          tokens_long = ap (λ (p : Picture). p.lengths.2) e;
                          header = ap (λ (p : Picture). p.header) e;
                          beyond_words = ap (λ (p : Picture). p.beyond.0) e;
                          beyond_bytes = ap (λ (p : Picture). p.beyond.1) e;
                          beyond_tokens = ap (λ (p : Picture). p.beyond.2) e;
                        };
                  };
              refused = λ z. absurd (z (ap (λ (p : Picture). p.no) e));
            };
        fills = record { buffer = refl; item_list = refl };
      }

-- ── The storages, of 3 slots of capacity 1 ──

-- made; a socket h0; bound to "/"; listening with no backlog; a socket h1
abbrev s₀ : Store
s₀ = made 3 1 (zeroed 3 1)

abbrev s₁ : Store
s₁ = lent (set (set s₀.words 8 1) 9 1) s₀.bytes s₀.tokens

abbrev s₂ : Store
s₂ = lent (set (set s₁.words 9 2) 10 1) (set s₁.bytes 3 47) s₁.tokens

abbrev s₃ : Store
s₃ = lent (set s₂.words 9 3) s₂.bytes s₂.tokens

abbrev s₄ : Store
s₄ = lent (set (set s₃.words 24 1) 25 1) s₃.bytes s₃.tokens

-- h0 listens again, with a backlog of 1
abbrev s₅ : Store
s₅ = lent (set s₄.words 11 1) s₄.bytes s₄.tokens

reached : Reached s₀ s₄
unfolding storage lines.model
reached =
    Reached.then'
    (Reached.then'
    (Reached.then'
    (Reached.then' Reached.start (asked 3 1 socket) _ (allowed_by 3 1 s₀ s₁ socket refl))
    (asked 3 1 (Call.Bind h0 root)) _ (allowed_by 3 1 s₁ s₂ (Call.Bind h0 root) refl))
    (asked 3 1 (Call.Listen h0 0)) _ (allowed_by 3 1 s₂ s₃ (Call.Listen h0 0) refl))
    (asked 3 1 socket) _ (allowed_by 3 1 s₃ s₄ socket refl)

-- ── All premises of `no_lost_wake_up` at once ──

pub record Story : Type 0 where
  pub n : ℕ
  pub c : ℕ
  pub made_one : Store
  pub store : Store
  pub is_made : Made n c made_one
  pub is_reached : Reached made_one store
  pub sleeper : Call
  pub asleep : Asleep n c sleeper store store
  pub request : Request
  pub result : Result
  pub allowed : Allowed store request result
  pub stirs : Stirs n c sleeper result.store
  pub still : Still (view n c result.store) sleeper

-- h1 connects to "/", which has no backlog; h0 listens again, with a backlog of 1
pub story : Story
unfolding storage lines.model
story =
    record {
      n = 3;
      c = 1;
      made_one = s₀;
      store = s₄;
      is_made = some_made 3 1 refl;
      is_reached = reached;
      sleeper = Call.Connect h1 root;
      asleep = Asleep.falls (record { lists = (asked 3 1 socket).lists; again = refl });
      request = asked 3 1 (Call.Listen h0 1);
      result = resulting s₄ (asked 3 1 (Call.Listen h0 1)) s₅;
      allowed = allowed_by 3 1 s₄ s₅ (Call.Listen h0 1) refl;
      stirs = record { lists = (asked 3 1 socket).lists; large = refl; otherwise = λ z. let y : ◌≡◌ {A = ℕ} 0 8 = z in omega arith };
      still = record { live = refl; unbound = refl };
    }
