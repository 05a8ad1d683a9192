-- Document 01, "How firmly each call is held": the tables that demand 2 shuts out, over lent storage. Each fault is a statement about an implementation, and every
-- implementation that has it is shown to break the promise on calls that follow making, whatever else it does.
use mathlib.Core.Path.{◌≡◌, refl, sym, ap, ◌∙◌, subst}
use mathlib.Core.Logic.{◌≢◌}
use mathlib.Core.Bool.{true}
use mathlib.Core.List.{List, [], ◌∷◌, ◌++◌}
use Prim.Native.Nat.{ℕ, ◌≤◌}
use native.Mathlib.Nat.{le_of_eq}
use native.Mathlib.Decide.{ℕ_discrete}
use native.Mathlib.Omega.{arith}
use lib.ListN.{get_or, length-replicate}
use borrow.Author.Tests.{le-leb}
use Rattle.rules.specs.Table.{Table, fresh}
use Rattle.rules.specs.Outcome.{Call}
use Rattle.rules.specs.Run.{run, after}
use Rattle.rules.specs.Demand.{Still}
use Rattle.rules.proofs.Frame.{cons-nil}
use Rattle.rules.proofs.Wf.{peer_of}
use Rattle.rules.proofs.Lines.{model, h1, h2, socket, root, listener, pair, some_bytes, queued_bytes}
use Rattle.rules.proofs.ShutOut.{PeerUnread}
use Rattle.storage.specs.Layout.{sizes_of}
use Rattle.storage.specs.Rows.{Store}
use Rattle.storage.specs.View.{view}
use Rattle.table.specs.Admission.{lists_fit}
use Rattle.table.proofs.Facts.{admitted}
use Rattle.promise.specs.Promise.{Done, Filled}
use Rattle.cases.specs.Step.{Request, Result, outcome_of, Allowed}
use Rattle.cases.specs.Made.{Made}
use Rattle.cases.specs.Sleeper.{Woken}
use Rattle.cases.specs.Leads.{buffer_of, items_of, asked, Asks, Called, Leads}
use Rattle.cases.proofs.WakeUp.{sleeper_in, woken}
use Rattle.cases.proofs.Following.{Stands, called_done, called_fills, called_next, from_made}

-- what might be answered to a request, and what might be left
abbrev pub Implementation : Type 0
Implementation = Store → Request → Result

-- ── Calls that follow making ──

-- it keeps the promise on these calls, one after another, at 4 slots of capacity 8
abbrev pub Keeps : Implementation → Store → List Call → Type 0
Keeps f s [] = Unit {0}
Keeps f s (x ∷ xs) = Allowed s (asked 4 8 x) (f s (asked 4 8 x)) × Keeps f (f s (asked 4 8 x)).store xs

-- it does not, from any made storage: some result on the way is none that the promise allows
pub record Breaks (f : Implementation) : Type 0 where
  pub calls : List Call
  pub broken : (s₀ : Store) → Made 4 8 s₀ → Keeps f s₀ calls → ⊥

-- ── The faults ──

-- "a table that refuses all calls"
abbrev pub RefusesAll : Implementation → Type 0
RefusesAll f = (s : Store) (q : Request) → (f s q).answer.refusal ≢ 0

-- "one answering EAGAIN to everything"
abbrev pub AlwaysAgain : Implementation → Type 0
AlwaysAgain f = (s : Store) (q : Request) → (f s q).answer.refusal ≡ 8

-- "one that moves nothing": no byte comes into a caller's buffer
abbrev pub MovesNothing : Implementation → Type 0
MovesNothing f = (s : Store) (q : Request) → (f s q).buf ≡ q.buf

-- "one that serves the first send and then only claims bytes": where the peer has bytes to read, a write or a sendmsg leaves the table as it is
pub record OnlyClaims (f : Implementation) : Type 0 where
  pub write : (s : Store) (q : Request) (h p : ℕ) (new : List ℕ) → q.call ≡ Call.Write h new → PeerUnread (view q.n q.c s) h p
      → view q.n q.c (f s q).store ≡ view q.n q.c s
  pub sendmsg : (s : Store) (q : Request) (h p : ℕ) (new items : List ℕ) → q.call ≡ Call.Sendmsg h new items → PeerUnread (view q.n q.c s) h p
      → view q.n q.c (f s q).store ≡ view q.n q.c s

-- "one whose byte .. counts are invented": every read and write that it accepts has the same value
pub record InventsBytes (f : Implementation) : Type 0 where
  pub count : ℕ
  pub read : (s : Store) (q : Request) (h size : ℕ) → q.call ≡ Call.Read h size → (f s q).answer.refusal ≡ 0 → (f s q).answer.value ≡ count
  pub write : (s : Store) (q : Request) (h : ℕ) (new : List ℕ) → q.call ≡ Call.Write h new → (f s q).answer.refusal ≡ 0 → (f s q).answer.value ≡ count

-- "or wake counts": every call that it accepts has the same number of wakes
pub record InventsWakes (f : Implementation) : Type 0 where
  pub count : ℕ
  pub wakes : (s : Store) (q : Request) → (f s q).answer.refusal ≡ 0 → (f s q).answer.wakes ≡ count

-- ── What keeping the promise says of the last call ──

lists-fit : (n c w r : ℕ) → (sizes_of n c).wakes ≤ w → (sizes_of n c).releases ≤ r → lists_fit n c w r ≡ true
unfolding lists_fit
lists-fit n c w r a b = rw (le-leb (sizes_of n c).wakes w a, le-leb (sizes_of n c).releases r b)

asks_it : (n c : ℕ) (x : Call) → Asks n c x (asked n c x)
asks_it n c x =
    record {
      slots = refl;
      capacity = refl;
      call_is = refl;
      large =
          lists-fit n c _ _ (le_of_eq (sym (length-replicate {A = ℕ} (sizes_of n c).wakes 0))) (le_of_eq (sym (length-replicate {A = ℕ} (sizes_of n c).releases 0)));
      buffer = length-replicate (buffer_of x) 0;
      item_list = length-replicate (items_of x) 0;
    }

abbrev one_call : (f : Implementation) (s : Store) (x : Call) → Allowed s (asked 4 8 x) (f s (asked 4 8 x)) → Called 4 8 x s
one_call f s x a = record { request = asked 4 8 x; result = f s (asked 4 8 x); asks = asks_it 4 8 x; allowed = a }

-- where these calls end
abbrev end : Implementation → Store → List Call → Store
end f s [] = s
end f s (x ∷ xs) = end f (f s (asked 4 8 x)).store xs

kept_leads : (f : Implementation) (s : Store) (before : List Call) (x : Call) → Keeps f s (before ++ x ∷ [])
    → Leads 4 8 s before (end f s before) × Allowed (end f s before) (asked 4 8 x) (f (end f s before) (asked 4 8 x))
kept_leads f s [] x k = (refl, k.0)
kept_leads f s (y ∷ before) x k = let r = kept_leads f (f s (asked 4 8 y)).store before x k.1 in ((one_call f s y k.0, r.0), r.1)

-- the last call at the model's table, with an allowed result
pub record Last (f : Implementation) (t : Table) (x : Call) : Type 0 where
  pub store : Store
  pub stands : Stands 4 8 store t
  pub done : Done (run t x) 4 8 store (f store (asked 4 8 x)).store (asked 4 8 x).lists (f store (asked 4 8 x)).lists (f store (asked 4 8 x)).answer
  pub fills : Filled (run t x) (asked 4 8 x).buf (f store (asked 4 8 x)).buf (asked 4 8 x).items (f store (asked 4 8 x)).items
  pub next : Stands 4 8 (f store (asked 4 8 x)).store (run t x).next

-- after these calls the last one cannot have an allowed result
at_call : (f : Implementation) (before : List Call) (x : Call) → (Last f (after (fresh 4 8) before) x → ⊥) → Breaks f
at_call f before x no_last =
    record {
      calls = before ++ x ∷ [];
      broken = λ s₀ m k.
          let r = kept_leads f s₀ before x k in
          let s : Store = end f s₀ before in
          let t : Table = after (fresh 4 8) before in
          let here : Stands 4 8 s t = from_made 4 8 s₀ s before m r.0 in
          let c : Called 4 8 x s = one_call f s x r.1 in
          no_last (record { store = s; stands = here; done = called_done 4 8 x s t here c; fills = called_fills 4 8 x s t here c; next = called_next 4 8 x s t here c });
    }

-- ── Each is shut out ──

pub refuses_all_out : (f : Implementation) → RefusesAll f → Breaks f
unfolding model
refuses_all_out f a = at_call f [] socket (λ e. a _ _ e.done.refusal_is)

pub always_again_out : (f : Implementation) → AlwaysAgain f → Breaks f
unfolding model
always_again_out f a = at_call f [] socket (λ e. let z : ◌≡◌ {A = ℕ} 8 0 = sym (a _ _) ∙ e.done.refusal_is in omega arith)

-- the client has written a byte, and the server reads
pub moves_nothing_out : (f : Implementation) → MovesNothing f → Breaks f
unfolding model
moves_nothing_out f a =
    at_call f (queued_bytes 1) (Call.Read h2 10) (λ e. let z : ◌≡◌ {A = ℕ} 0 1 = ap (λ (l : List ℕ). get_or l 0 0) (sym (a _ _) ∙ e.fills.buffer) in omega arith)

-- a second byte is written: it is not there when the server reads
pub only_claims_out : (f : Implementation) → OnlyClaims f → Breaks f
unfolding model peer_of
only_claims_out f a =
    at_call f (queued_bytes 1) (Call.Write h1 (some_bytes 1)) λ e.
    let unread : PeerUnread (view 4 8 e.store) h1 h2 =
    subst (λ (t : Table). PeerUnread t h1 h2) (sym e.stands.shows) (record { live = refl; mine = refl; there = refl; holds = cons-nil }) in
    let same = sym e.stands.shows ∙ sym (a.write e.store (asked 4 8 (Call.Write h1 (some_bytes 1))) h1 h2 (some_bytes 1) refl unread) ∙ e.next.shows in
    let z : ◌≡◌ {A = ℕ} 1 2 = ap (λ (t : Table). (run t (Call.Read h2 10)).value) same in
    omega arith

-- a write of 1 byte and one of 2
pub invents_bytes_out : (f : Implementation) → InventsBytes f → Breaks f
unfolding model
invents_bytes_out f a = go (ℕ_discrete a.count 1)
  where
    go : Dec (a.count ≡ 1) → Breaks f
    go (yes n) =
        at_call f pair (Call.Write h1 (some_bytes 2))
        (λ e. let z : ◌≡◌ {A = ℕ} 1 2 = sym n ∙ sym (a.write _ _ h1 (some_bytes 2) refl e.done.refusal_is) ∙ e.done.value_is in omega arith)
    go (no n) = at_call f pair (Call.Write h1 (some_bytes 1)) (λ e. n (sym (a.write _ _ h1 (some_bytes 1) refl e.done.refusal_is) ∙ e.done.value_is))

-- a new socket wakes nobody, a connect two
pub invents_wakes_out : (f : Implementation) → InventsWakes f → Breaks f
unfolding model
invents_wakes_out f a = go (ℕ_discrete a.count 0)
  where
    go : Dec (a.count ≡ 0) → Breaks f
    go (yes n) =
        at_call f (listener 1 ++ socket ∷ []) (Call.Connect h1 root)
        (λ e. let z : ◌≡◌ {A = ℕ} 0 2 = sym n ∙ sym (a.wakes _ _ e.done.refusal_is) ∙ e.done.wake_count in omega arith)
    go (no n) = at_call f [] socket (λ e. n (sym (a.wakes _ _ e.done.refusal_is) ∙ e.done.wake_count))

-- ── Demand 3 alone ──

-- the request x sleeps, and after the request q would answer otherwise: q's result tells what x's caller sleeps on
abbrev pub NoLostWakeUp : Implementation → Type 0
NoLostWakeUp f =
    (s : Store) (x q : Request) → (f s x).answer.refusal ≡ 8 → (f (f s q).store x).answer.refusal ≢ 8 → Still (view x.n x.c (f s q).store) x.call → Woken x.call (f s q)

-- it holds of whatever keeps the promise
pub of_allowed : (f : Implementation) → ((s : Store) (q : Request) → Allowed s q (f s q)) → NoLostWakeUp f
of_allowed f a s x q b d still =
    let e : (outcome_of s x).no ≡ 8 = sym (a s x).promise.refusal_is ∙ b in
    let k = admitted x.n x.c s _ _ (sleeper_in x.n x.c s x.lists x.call e) in
    woken x.n x.c x.call s (record { lists = x.lists; again = e }) q (f s q) (a s q)
    (record {
      lists = x.lists;
      large = lists-fit x.n x.c _ _ k.wake_list k.release_list;
      otherwise = λ z. d ((a (f s q).store x).promise.refusal_is ∙ z);
    })
    still

-- "demand 3 alone would let it pass": a sleeper that never is to be woken
pub again_passes : (f : Implementation) → AlwaysAgain f → NoLostWakeUp f
again_passes f a s x q b d still = absurd (d (a (f s q).store x))
