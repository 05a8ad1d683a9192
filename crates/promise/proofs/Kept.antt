-- Calls that move no server into or out of a queue: the links of the storage stay.
use mathlib.Core.Path.{◌≡◌, refl, sym, ap, ap₂, ◌∙◌, subst}
use mathlib.Core.Logic.{◌≢◌, ◌⊎◌, inl, inr}
use mathlib.Core.Bool.{true}
use mathlib.Core.List.{List}
use Prim.Native.Nat.{ℕ, ◌+◌, ◌<◌}
use native.Mathlib.Nat.{not-suc-le-zero}
use native.Mathlib.Omega.{arith}
use lib.ListN.{get_or, set}
use lib.Seq.{get_or-set_same, get_or-set_other}
use Rattle.ring.specs.Ring.{place_of}
use Rattle.rules.specs.Table.{slot_of, handle}
use Rattle.storage.specs.Cells.{cell_at, state_of}
use Rattle.storage.specs.Rows.{Store, Row, row_at, rows, blank}
use Rattle.storage.specs.declared.Cell.{Cell}
use Rattle.storage.specs.declared.State.{State}
use Rattle.storage.specs.declared.State.TheVariants.{Closed, Unbound, Bound, Listening, Connected}
use Rattle.storage.specs.declared.Listener.{Listener}
use Rattle.storage.specs.declared.Connection.{Connection}
use Rattle.storage.proofs.Framing.{row_is, length-rows}
use Rattle.table.specs.Formed.{queue_in, tied, tied_state}
use Rattle.table.proofs.Links.{Entry, Entries, entries_of}
use Rattle.promise.proofs.Known.{Known}

-- ── One changed row ──

module _ (n c : ℕ) (s s' : Store) (i : ℕ) (r : Row) (hi : i < n) (e : rows n c s' ≡ set (rows n c s) i r) where
  pub row_changed : row_at n c s' i ≡ r
  row_changed = sym (row_is n c s' i hi) ∙ ap (λ (l : List Row). get_or l i blank) e ∙ get_or-set_same (rows n c s) i r blank (omega (arith, length-rows n c s))

  pub row_other : (j : ℕ) → j < n → j ≢ i → row_at n c s' j ≡ row_at n c s j
  row_other j hj d = sym (row_is n c s' j hj) ∙ ap (λ (l : List Row). get_or l j blank) e ∙ get_or-set_other (rows n c s) i j r blank d ∙ row_is n c s j hj

-- ── What a row keeps of the links ──

-- a waiting server goes on waiting
pub record Served (k k' : Cell) (b : Connection) : Type 0 where
  pub generation : k'.generation ≡ k.generation
  pub server : Connection
  pub is_server : state_of k' ≡ Connected server
  pub waits : server.waits ≡ b.waits
  pub place : server.place ≡ b.place

-- a listener has its queue
pub record Queued (r r' : Row) (q' : Listener) : Type 0 where
  pub before : Listener
  pub was_listener : state_of r.cell ≡ Listening before
  pub head : q'.head ≡ before.head
  pub pending : q'.pending ≡ before.pending
  pub ring : r'.queue ≡ r.queue

pub record Keeps (r r' : Row) : Type 0 where
  pub servers : (b : Connection) → state_of r.cell ≡ Connected b → b.waits ≢ 0 → Served r.cell r'.cell b
  pub listeners : (q' : Listener) → state_of r'.cell ≡ Listening q' → (q'.pending ≡ 0) ⊎ Queued r r' q'

pub keeps_same : (r : Row) → Keeps r r
keeps_same r =
    record {
      servers = λ b e nz. record { generation = refl; server = b; is_server = e; waits = refl; place = refl };
      listeners = λ q e. inr (record { before = q; was_listener = e; head = refl; pending = refl; ring = refl });
    }

-- ── The entries of every listener, after it ──

pub entries_kept : (n c : ℕ) (s s' : Store) → Known n c s → ((j : ℕ) → j < n → Keeps (row_at n c s j) (row_at n c s' j))
    → (l : ℕ) → l < n → (q' : Listener) → state_of (cell_at s'.words l) ≡ Listening q' → Entries n s'.words l q'
unfolding row_at tied
entries_kept n c s s' k keep l hl q' el = go ((keep l hl).listeners q' el)
  where
    go : (q'.pending ≡ 0) ⊎ Queued (row_at n c s l) (row_at n c s' l) q' → Entries n s'.words l q'
    go (inl z) = record { each = λ j h. absurd (not-suc-le-zero (subst (λ (x : ℕ). j < x) z h)) }
    go (inr d) =
        let q : Listener = d.before in
        let old : Entries n s.words l q = entries_of n s.words l q (subst (λ (σ : State). tied_state n s.words l σ ≡ true) d.was_listener (k.ties l hl)) in
        record {
          each = λ j h.
              let a : ℕ = place_of n (q.head + j) in
              let ea : place_of n (q'.head + j) ≡ a = ap (λ (x : ℕ). place_of n (x + j)) d.head in
              let x : ℕ = get_or (queue_in n s.words l) a 0 in
              let ex : get_or (queue_in n s'.words l) (place_of n (q'.head + j)) 0 ≡ x = ap₂ (λ (u : List ℕ) (v : ℕ). get_or u v 0) d.ring ea in
              moved a x (place_of n (q'.head + j)) (get_or (queue_in n s'.words l) (place_of n (q'.head + j)) 0) ea ex (old.each j (subst (λ (y : ℕ). j < y) d.pending h));
        }
      where
        moved : (a x a' x' : ℕ) → a' ≡ a → x' ≡ x → Entry n s.words l a x → Entry n s'.words l a' x'
        moved a x a' x' ea ex en =
            let nz : en.server.waits ≢ 0 = λ z. let y = en.waits_there in omega arith in
            let sv = (keep (slot_of x) en.within).servers en.server en.is_server nz in
            subst (λ (y : ℕ). Entry n s'.words l a' y) (sym ex)
            (subst (λ (y : ℕ). Entry n s'.words l y x) (sym ea)
            (record {
              within = en.within;
              whole = ap (λ (g : ℕ). handle g (slot_of x)) sv.generation ∙ en.whole;
              server = sv.server;
              is_server = sv.is_server;
              waits_there = sv.waits ∙ en.waits_there;
              stands_there = sv.place ∙ en.stands_there;
            }))

-- ── States told apart ──

abbrev pub tag_of : State → ℕ
tag_of Closed = 0
tag_of Unbound = 1
tag_of (Bound m) = 2
tag_of (Listening l) = 3
tag_of (Connected k) = 4

pub other_state : {A : Type 0} {σ τ : State} → σ ≡ τ → tag_of σ ≢ tag_of τ → A
other_state e d = absurd (d (ap tag_of e))

-- a socket that waits for nothing, and after it is no listener with a queue
pub keeps_free : (r r' : Row) → ((b : Connection) → state_of r.cell ≡ Connected b → b.waits ≡ 0) → ((q : Listener) → state_of r'.cell ≡ Listening q → q.pending ≡ 0) → Keeps r r'
keeps_free r r' f g = record { servers = λ b e nz. absurd (nz (f b e)); listeners = λ q e. inl (g q e) }
