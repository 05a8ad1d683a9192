-- What passes through: what sends put into one inbox comes out of reads and recvmsgs in order, once.
use mathlib.Core.Path.{◌≡◌, refl, sym, ap, ap₂, ◌∙◌, subst}
use mathlib.Core.Logic.{◌≢◌, ◌⊎◌, inl, inr, ⊎_elim}
use Prim.Native.Nat.{ℕ, ◌*◌, ◌≤◌, ◌<◌, min}
use native.Mathlib.Decide.{ℕ_discrete as dec_eq}
use native.Mathlib.Nat.{le_of_eq, le_trans}
use native.Mathlib.Omega.{arith}
use mathlib.Core.Bool.{Bool, true, false, cond, not, ◌&&◌, ◌||◌, false≢true, and-false}
use mathlib.Core.List.{List, [], ◌∷◌, ◌++◌, append-nil, append_assoc}
use lib.IntN.{ℤ}
use lib.ListN.{length, take, drop, take-append-drop, length-append, length-take}
use lib.Seq.{length-take-le, sets}
use lib.Dec.{eqb}
use borrow.Author.Tests.{eq-eqb, ne_eqb, not-false}
use Rattle.laws.proofs.Tests.{cond_both, less_or, or_right}
use Rattle.rules.proofs.Model.{Table, fresh, State, Inbox, Group, Call, Outcome, Policy, refuse, refuse_if, answer, at, slot_of, handle_at, is_open, is_live, state_of, become, give, enter, is_nil, all_items, append, group, others, moved, rest, handed, released, room, nothing, holder, free_slot, new_handle, connected, reach, drained, drain, send, queued, close_ends, close_all, kept, do_socket, do_bind, do_listen, do_accept, do_connect, do_send, do_shutdown, do_close, on_live, on_name, shuts_read, shuts_write, run, after}
use Rattle.rules.proofs.Lines.{model, groups, h2}
use Rattle.rules.proofs.Frame.{field_put, live_open, open_at, found_used, unbound_not_listening, free_unused, enter_open, state_give, become_at, state_become_same, gen_become, gen_enter, open_handle, open_become, open_give, at_enter, cons-nil}
use Rattle.rules.proofs.Walk.{Steps, walk}
use Rattle.rules.proofs.Sized.{sized_run}
use Rattle.rules.proofs.Wf.{steady_give, steady-close_all}
use Rattle.rules.proofs.InboxOk.{InboxOk, up_to-le, items-append, items_nearer}
use Rattle.rules.proofs.Ends.{close_all-old, StateOk, Inboxes}
use Rattle.rules.proofs.Moves.{tells_run}
use Rattle.rules.proofs.WfRun.{none_open}
use Rattle.inbox.proofs.Shows.{take-least}
use Rattle.inbox.proofs.Stream.{each_once, items_split}
use Rattle.storage.specs.Rows.{Store}
use Rattle.storage.specs.View.{view}
use Rattle.table.specs.Formed.{formed}
use Rattle.table.specs.Admission.{admits, Admitted}
use Rattle.table.proofs.Facts.{admitted}
use Rattle.promise.specs.Promise.{Lists, outcome, Done, Filled}
use Rattle.cases.specs.Step.{Request, Result, Allowed, Reached}
use Rattle.cases.specs.Made as making
use Rattle.cases.specs.Made.{Made, taken}
use Rattle.cases.proofs.Reachable.{outcome_passed, outcome_barred, table_formed, few_in, Fitting, fitting, barred_same, taken_done, step_next, made_fresh, reachable}
use Rattle.cases.specs.Leads.{buffer_of, items_of}
use Rattle.cases.proofs.Entries.{first_entries}
use Rattle.cases.specs.Passing.{all_bytes_out, seen, Lends, AllLend, came_bytes, came_items, gone_bytes, gone_items, read_bytes, dropped_bytes, inbox_of, held, bytes_at, items_at, sends_to, reaches, bytes_in, items_in, bytes_out, bytes_dropped, items_out, all_bytes_in, all_items_in, all_bytes_gone, all_items_out}

-- one call: what was queued, then what it put in, is what it took out, then what is queued
pub record Passes (t : Table) (y : Call) (o : Outcome) (g : ℕ) : Type 0 where
  pub bytes : bytes_at t g ++ bytes_in t y o g ≡ (bytes_out y o g ++ bytes_dropped t y o g) ++ bytes_at o.next g
  pub items : items_at t g ++ items_in t y o g ≡ items_out y o g ++ items_at o.next g

-- ── Lists ──

cond-nil : (b : Bool) → ◌≡◌ {A = List ℕ} (cond b [] []) []
cond-nil true = refl
cond-nil false = refl

-- what only h has is nothing at another
elsewhere : (g h : ℕ) (a : List ℕ) → h ≢ g → cond (eqb h g) a [] ≡ []
elsewhere g h a n = ap (λ (b : Bool). cond b a []) (ne_eqb h g n)

items_sent : (p : ℕ) (its : List ℕ) → all_items (cond (is_nil its) [] (record { place = p; items = its } ∷ [])) ≡ its
unfolding all_items is_nil
items_sent p [] = refl
items_sent p (x ∷ its) = append-nil (x ∷ its)

-- ── Changes of one socket ──

held_become : (t : Table) (h : ℕ) (σ : State) (g : ℕ) → inbox_of σ ≡ held t h → held (become t h σ) g ≡ held t g
unfolding become held state_of
held_become t h σ g e = field_put (λ s. inbox_of s.state) t (slot_of h) _ (slot_of g) e

held_same : (t : Table) (h : ℕ) (σ : State) → is_open t h ≡ true → held (become t h σ) h ≡ inbox_of σ
unfolding held
held_same t h σ o = ap inbox_of (state_become_same t h σ o)

held_is : (t : Table) (g : ℕ) (σ : State) → state_of t g ≡ σ → held t g ≡ inbox_of σ
unfolding held
held_is t g σ e = ap inbox_of e

held_by : (t u : Table) (g : ℕ) → state_of u g ≡ state_of t g → held u g ≡ held t g
unfolding held
held_by t u g e = ap inbox_of e

-- ── Calls that neither send nor receive ──

module _ (t : Table) (g h : ℕ) (live : is_live t h ≡ true) (un : state_of t h ≡ State.Unbound) where
  -- both ends of a new pair are empty
  held_connected : (l : ℕ) (m : List ℕ) (b : ℕ) (q : List ℕ) → is_open t l ≡ true → state_of t l ≡ State.Listening m b q → (at t (free_slot t)).in_use ≡ false
      → held (connected t h l m b q) g ≡ held (enter t (free_slot t) false (State.Connected h nothing false false)) g
  unfolding connected inbox_of
  held_connected l m b q a e v =
      let σ : State = State.Connected h nothing false false in
      let u : Table = enter t (free_slot t) false σ in
      let old : (k : ℕ) → is_open t k ≡ true → held u k ≡ held t k = λ k d. held_by t u k (enter_open t (free_slot t) false σ k v d).1 in
      let w : Table = become u h (State.Connected (new_handle t) nothing false false) in
      let same : (k : ℕ) → held w k ≡ held u k =
      λ k. held_become u h (State.Connected (new_handle t) nothing false false) k (sym (old h (live_open t h live) ∙ held_is t h State.Unbound un)) in
      held_become w l (State.Listening m b (q ++ new_handle t ∷ [])) g (sym (same l ∙ old l a ∙ held_is t l (State.Listening m b q) e)) ∙ same g

record Kept (t : Table) (g : ℕ) (o : Outcome) : Type 0 where
  kept : is_open o.next g ≡ true → held o.next g ≡ held t g

-- a call puts nothing in, and takes nothing out
record Silent (t : Table) (y : Call) (u : Outcome) (g : ℕ) : Type 0 where
  in_bytes : bytes_in t y u g ≡ []
  in_items : items_in t y u g ≡ []
  out_bytes : bytes_out y u g ≡ []
  dropped : bytes_dropped t y u g ≡ []
  out_items : items_out y u g ≡ []

silent_refused : (t : Table) (g : ℕ) (y : Call) (n : ℕ) → eqb n 0 ≡ false → Silent t y (refuse t n) g
unfolding bytes_in items_in bytes_out bytes_dropped items_out reaches
silent_refused t g (Call.Socket d k p) n e = record { in_bytes = refl; in_items = refl; out_bytes = refl; dropped = refl; out_items = refl }
silent_refused t g (Call.Bind h m) n e = record { in_bytes = refl; in_items = refl; out_bytes = refl; dropped = refl; out_items = refl }
silent_refused t g (Call.Listen h k) n e = record { in_bytes = refl; in_items = refl; out_bytes = refl; dropped = refl; out_items = refl }
silent_refused t g (Call.Accept h) n e = record { in_bytes = refl; in_items = refl; out_bytes = refl; dropped = refl; out_items = refl }
silent_refused t g (Call.Connect h m) n e = record { in_bytes = refl; in_items = refl; out_bytes = refl; dropped = refl; out_items = refl }
silent_refused t g (Call.Read h size) n e = record { in_bytes = refl; in_items = refl; out_bytes = cond-nil (eqb h g); dropped = refl; out_items = cond-nil (eqb h g) }
silent_refused t g (Call.Recvmsg h size most) n e = record { in_bytes = refl; in_items = refl; out_bytes = cond-nil (eqb h g); dropped = refl; out_items = cond-nil (eqb h g) }
silent_refused t g (Call.Write h from) n e = record { in_bytes = rw e refl; in_items = refl; out_bytes = refl; dropped = refl; out_items = refl }
silent_refused t g (Call.Sendmsg h from its) n e = record { in_bytes = rw e refl; in_items = rw e refl; out_bytes = refl; dropped = refl; out_items = refl }
silent_refused t g (Call.Shutdown h how) n e = record { in_bytes = refl; in_items = refl; out_bytes = refl; dropped = rw e refl; out_items = cond-nil (eqb h g) }
silent_refused t g (Call.Close h) n e = record { in_bytes = refl; in_items = refl; out_bytes = refl; dropped = refl; out_items = refl }
silent_refused t g (Call.Readiness h) n e = record { in_bytes = refl; in_items = refl; out_bytes = refl; dropped = refl; out_items = refl }

-- h receives by the call y
record Takes (t : Table) (y : Call) (h g : ℕ) : Type 0 where
  in_bytes : (u : Outcome) → bytes_in t y u g ≡ []
  in_items : (u : Outcome) → items_in t y u g ≡ []
  out_bytes : (u : Outcome) → bytes_out y u g ≡ cond (eqb h g) u.bytes []
  dropped : (u : Outcome) → bytes_dropped t y u g ≡ []
  out_items : (u : Outcome) → items_out y u g ≡ cond (eqb h g) (u.items ++ u.releases) []

-- h sends by the call y
record Sends (t : Table) (y : Call) (h : ℕ) (new its : List ℕ) (g : ℕ) : Type 0 where
  in_bytes : (u : Outcome) → bytes_in t y u g ≡ cond (reaches t h u g) (take u.value new) []
  in_items : (u : Outcome) → items_in t y u g ≡ cond (reaches t h u g) its []
  out_bytes : (u : Outcome) → bytes_out y u g ≡ []
  dropped : (u : Outcome) → bytes_dropped t y u g ≡ []
  out_items : (u : Outcome) → items_out y u g ≡ []

ends_held : (a b : Bool) (σ : State) → inbox_of (close_ends a b σ) ≡ inbox_of σ
unfolding inbox_of close_ends
ends_held a b State.Unbound = refl
ends_held a b (State.Bound m) = refl
ends_held a b (State.Listening m k q) = refl
ends_held a b (State.Connected p i x y) = refl

module _ (t : Table) (fit : length t.slots ≤ 1024) (g : ℕ) (o : is_open t g ≡ true) where
  kept_if : (b : Bool) (n : ℕ) (u : Outcome) → (b ≡ false → Kept t g u) → Kept t g (refuse_if b n t u)
  unfolding refuse_if
  kept_if true n u f = record { kept = λ _. refl }
  kept_if false n u f = f refl

  kept_live : (h : ℕ) (u : Outcome) → (is_live t h ≡ true → Kept t g u) → Kept t g (on_live t h u)
  unfolding on_live
  kept_live h u f = kept_if (not (is_live t h)) 1 u λ e. f (not-false _ e)

  kept_name : (h : ℕ) (n : List ℕ) (u : Outcome) → (is_live t h ≡ true → Kept t g u) → Kept t g (on_name t h n u)
  unfolding on_name
  kept_name h n u f = kept_live h _ λ l. kept_if _ 2 _ λ a. kept_if _ 17 _ λ b. f l

  kept_refuse : (n : ℕ) → Kept t g (refuse t n)
  kept_refuse n = record { kept = λ _. refl }

  kept_socket : (d y p : ℤ) → Kept t g (do_socket t d y p)
  unfolding do_socket
  kept_socket d y p =
      kept_if _ 12 _ λ _. kept_if _ 14 _ λ _. kept_if _ 15 _ λ _. kept_if _ 16 _ λ e.
      record { kept = λ _. held_by t _ g (enter_open t (free_slot t) true State.Unbound g (free_unused t e) o).1 }

  kept_bind : (h : ℕ) (n : List ℕ) (σ : State) → state_of t h ≡ σ → Kept t g (do_bind t h n σ)
  unfolding do_bind inbox_of
  kept_bind h n State.Unbound e = kept_if _ 3 _ λ f. record { kept = λ _. held_become t h (State.Bound n) g (sym (held_is t h State.Unbound e)) }
  kept_bind h n (State.Bound m) e = kept_refuse 2
  kept_bind h n (State.Listening m k q) e = kept_refuse 2
  kept_bind h n (State.Connected p i x y) e = kept_refuse 2

  kept_listen : (h k : ℕ) (σ : State) → state_of t h ≡ σ → Kept t g (do_listen t h k σ)
  unfolding do_listen inbox_of
  kept_listen h k State.Unbound e = kept_refuse 4
  kept_listen h k (State.Bound m) e = record { kept = λ _. held_become t h (State.Listening m k []) g (sym (held_is t h (State.Bound m) e)) }
  kept_listen h k (State.Listening m b q) e = record { kept = λ _. held_become t h (State.Listening m k q) g (sym (held_is t h (State.Listening m b q) e)) }
  kept_listen h k (State.Connected p i x y) e = kept_refuse 2

  kept_accept : (h : ℕ) (σ : State) → state_of t h ≡ σ → Kept t g (do_accept t h σ)
  unfolding do_accept inbox_of
  kept_accept h State.Unbound e = kept_refuse 2
  kept_accept h (State.Bound m) e = kept_refuse 2
  kept_accept h (State.Listening m b []) e = kept_refuse 8
  kept_accept h (State.Listening m b (s ∷ q)) e =
      let u : Table = become t h (State.Listening m b q) in
      record { kept = λ _. held_by u (give u s) g (state_give u s g) ∙ held_become t h (State.Listening m b q) g (sym (held_is t h (State.Listening m b (s ∷ q)) e)) }
  kept_accept h (State.Connected p i x y) e = kept_refuse 2

  module _ (h : ℕ) (live : is_live t h ≡ true) (un : state_of t h ≡ State.Unbound) where
    kept_reach : (n : List ℕ) (σ : State) → (at t (holder t n)).state ≡ σ → Kept t g (reach t h (handle_at t (holder t n)) σ)
    unfolding reach state_of
    kept_reach n State.Unbound e = kept_refuse 7
    kept_reach n (State.Bound m) e = kept_refuse 7
    kept_reach n (State.Connected p i x y) e = kept_refuse 7
    kept_reach n (State.Listening m b q) e =
        let a = open_at t (holder t n) fit (found_used t n (State.Listening m b q) e (λ z. unbound_not_listening (sym z))) in
        kept_if _ 8 _ λ _. kept_if _ 16 _ λ f.
        record {
          kept = λ _.
              held_connected t g h live un (handle_at t (holder t n)) m b q a.1 (ap (λ k. (at t k).state) a.0 ∙ e) (free_unused t f)
              ∙ held_by t _ g (enter_open t (free_slot t) false (State.Connected h nothing false false) g (free_unused t f) o).1;
        }

  kept_connect : (h : ℕ) → is_live t h ≡ true → (n : List ℕ) (σ : State) → state_of t h ≡ σ → Kept t g (do_connect t h n σ)
  unfolding do_connect
  kept_connect h l n State.Unbound e = kept_reach h l e n (at t (holder t n)).state refl
  kept_connect h l n (State.Bound m) e = kept_refuse 2
  kept_connect h l n (State.Listening m b q) e = kept_refuse 6
  kept_connect h l n (State.Connected p i x y) e = kept_refuse 5

  kept_close : (h : ℕ) → Kept t g (do_close t h)
  unfolding do_close
  kept_close h = record { kept = λ a. held_by t _ g (close_all-old t _ g a).1 }

  -- ── One call ──

  -- from the inbox i to the inbox j
  moves_to : (y : Call) (u : Outcome) (i j : Inbox) (bi ii bo bd io : List ℕ) → held t g ≡ i → held u.next g ≡ j
      → bytes_in t y u g ≡ bi → items_in t y u g ≡ ii → bytes_out y u g ≡ bo → bytes_dropped t y u g ≡ bd → items_out y u g ≡ io
      → i.bytes ++ bi ≡ (bo ++ bd) ++ j.bytes → all_items i.groups ++ ii ≡ io ++ all_items j.groups → Passes t y u g
  moves_to y u i j bi ii bo bd io from to a b c d e x z =
      record {
        bytes = ap₂ (λ (k : Inbox) (l : List ℕ). k.bytes ++ l) from a ∙ x ∙ sym (ap₂ (λ (l : List ℕ) (k : Inbox). l ++ k.bytes) (ap₂ ◌++◌ c d) to);
        items = ap₂ (λ (k : Inbox) (l : List ℕ). all_items k.groups ++ l) from b ∙ z ∙ sym (ap₂ (λ (l : List ℕ) (k : Inbox). l ++ all_items k.groups) e to);
      }

  -- a call that puts nothing in and takes nothing out
  still : (y : Call) (u : Outcome) → bytes_in t y u g ≡ [] → items_in t y u g ≡ [] → bytes_out y u g ≡ [] → bytes_dropped t y u g ≡ [] → items_out y u g ≡ []
      → held u.next g ≡ held t g → Passes t y u g
  still y u a b c d e f = moves_to y u (held t g) (held t g) [] [] [] [] [] refl f a b c d e (append-nil (bytes_at t g)) (append-nil (items_at t g))

  refused : (y : Call) (n : ℕ) → eqb n 0 ≡ false → Passes t y (refuse t n) g
  refused y n e =
      let k = silent_refused t g y n e in
      still y (refuse t n) k.in_bytes k.in_items k.out_bytes k.dropped k.out_items refl

  passes_if : (y : Call) (b : Bool) (n : ℕ) (u : Outcome) → eqb n 0 ≡ false → (b ≡ false → Passes t y u g) → Passes t y (refuse_if b n t u) g
  unfolding refuse_if
  passes_if y true n u e f = refused y n e
  passes_if y false n u e f = f refl

  passes_live : (y : Call) (h : ℕ) (u : Outcome) → (is_live t h ≡ true → Passes t y u g) → Passes t y (on_live t h u) g
  unfolding on_live
  passes_live y h u f = passes_if y (not (is_live t h)) 1 u refl λ e. f (not-false _ e)

  here_cond : (a : List ℕ) → cond (eqb g g) a [] ≡ a
  here_cond a = ap (λ (b : Bool). cond b a []) (eq-eqb g g refl)

  -- another socket changes
  held_other : (h : ℕ) (σ : State) → is_open t h ≡ true → h ≢ g → held (become t h σ) g ≡ held t g
  held_other h σ a n = ⊎_elim (λ z. absurd (n (sym z.0))) (λ z. held_by t (become t h σ) g z.1) (become_at t h σ g a o)

  module _ (y : Call) (size : ℕ) (policy : Policy) (p : ℕ) (i : Inbox) (x z : Bool) where
    take-here : Takes t y g g → state_of t g ≡ State.Connected p i x z → Passes t y (drained t g size policy p i x z) g
    unfolding drained inbox_of rest
    take-here k e =
        let u : Outcome = drained t g size policy p i x z in
        let j : Inbox = rest i (moved i size) in
        let its : List ℕ = handed policy (group i.groups) ++ released policy (group i.groups) in
        moves_to y u i j [] [] (take (moved i size) i.bytes) [] its
        (held_is t g (State.Connected p i x z) e)
        (held_same t g (State.Connected p j x z) o)
        (k.in_bytes u) (k.in_items u) (k.out_bytes u ∙ here_cond _) (k.dropped u) (k.out_items u ∙ here_cond _)
        (append-nil i.bytes ∙ sym (take-append-drop (moved i size) i.bytes) ∙ ap (λ (l : List ℕ). l ++ drop (moved i size) i.bytes) (sym (append-nil (take (moved i size) i.bytes))))
        (append-nil (all_items i.groups) ∙ sym (items_split i.groups)
        ∙ ap₂ ◌++◌ (sym (each_once policy (group i.groups))) (sym (items_nearer (moved i size) (others i.groups))))

    take-there : (h : ℕ) → is_live t h ≡ true → h ≢ g → Takes t y h g → Passes t y (drained t h size policy p i x z) g
    unfolding drained
    take-there h l n k =
        let u : Outcome = drained t h size policy p i x z in
        still y u (k.in_bytes u) (k.in_items u) (k.out_bytes u ∙ elsewhere g h _ n) (k.dropped u) (k.out_items u ∙ elsewhere g h _ n) (held_other h _ (live_open t h l) n)

    take_at : (h : ℕ) → is_live t h ≡ true → state_of t h ≡ State.Connected p i x z → Takes t y h g → Passes t y (drained t h size policy p i x z) g
    take_at h l e k =
        elim (dec_eq h g) [
          | yes same ↦
              subst (λ (j : ℕ). Passes t y (drained t j size policy p i x z) g) (sym same)
              (take-here (subst (λ (j : ℕ). Takes t y j g) same k) (subst (λ (j : ℕ). state_of t j ≡ State.Connected p i x z) same e))
          | no n ↦ take-there h l n k
        ]

  passes_drain : (y : Call) (h size : ℕ) (policy : Policy) (σ : State) → is_live t h ≡ true → state_of t h ≡ σ → Takes t y h g → Passes t y (drain t h size policy σ) g
  unfolding drain
  passes_drain y h size policy State.Unbound l e k = refused y 9 refl
  passes_drain y h size policy (State.Bound m) l e k = refused y 9 refl
  passes_drain y h size policy (State.Listening m b q) l e k = refused y 9 refl
  passes_drain y h size policy (State.Connected p i x z) l e k =
      let none : Outcome = answer t 0 [] [] in
      cond_both (λ u. Passes t y u g) (is_nil i.bytes)
      (λ _. cond_both (λ u. Passes t y u g) (x || not (is_open t p))
      (λ _. still y none (k.in_bytes none) (k.in_items none) (k.out_bytes none ∙ cond-nil (eqb h g)) (k.dropped none) (k.out_items none ∙ cond-nil (eqb h g)) refl)
      (λ _. refused y 8 refl))
      (λ _. take_at y size policy p i x z h l e k)

  module _ (y : Call) (h : ℕ) (new its : List ℕ) (k : Sends t y h new its g) where
    -- h's peer p gets what fits
    abbrev sent : ℕ → ℕ → Inbox → Bool → Bool → Outcome
    sent p b i x z = answer (become t p (State.Connected b (append i (take (room t i) new) its) x z)) (min (room t i) (length new)) (p ∷ []) []

    send_here : (b : ℕ) (i : Inbox) (x z : Bool) → state_of t g ≡ State.Connected b i x z → sends_to g (state_of t h) ≡ true → Passes t y (sent g b i x z) g
    unfolding reaches inbox_of append
    send_here b i x z e f =
        let u : Outcome = sent g b i x z in
        let j : Inbox = append i (take (room t i) new) its in
        moves_to y u i j (take (room t i) new) its [] [] []
        (held_is t g (State.Connected b i x z) e)
        (held_same t g (State.Connected b j x z) o)
        (k.in_bytes u ∙ ap (λ (d : Bool). cond d (take (min (room t i) (length new)) new) []) f ∙ take-least (room t i) new)
        (k.in_items u ∙ ap (λ (d : Bool). cond d its []) f)
        (k.out_bytes u) (k.dropped u) (k.out_items u)
        refl
        (sym (items-append i.groups _ ∙ ap (λ (l : List ℕ). all_items i.groups ++ l) (items_sent (length i.bytes) its)))

    send_there : (p b : ℕ) (i : Inbox) (x z : Bool) → is_open t p ≡ true → p ≢ g → sends_to g (state_of t h) ≡ false → Passes t y (sent p b i x z) g
    unfolding reaches
    send_there p b i x z a n f =
        let u : Outcome = sent p b i x z in
        still y u
        (k.in_bytes u ∙ ap (λ (d : Bool). cond d (take (min (room t i) (length new)) new) []) f)
        (k.in_items u ∙ ap (λ (d : Bool). cond d its []) f)
        (k.out_bytes u) (k.dropped u) (k.out_items u)
        (held_other p _ a n)

    sends-to : (p : ℕ) (i : Inbox) (x z : Bool) → state_of t h ≡ State.Connected p i x z → sends_to g (state_of t h) ≡ eqb p g
    unfolding sends_to
    sends-to p i x z e = ap (sends_to g) e

    send_at : (p b : ℕ) (i : Inbox) (x z : Bool) → is_open t p ≡ true → state_of t p ≡ State.Connected b i x z → sends_to g (state_of t h) ≡ eqb p g → Passes t y (sent p b i x z) g
    send_at p b i x z a e f =
        elim (dec_eq p g) [
          | yes same ↦
              subst (λ (j : ℕ). Passes t y (sent j b i x z) g) (sym same)
              (send_here b i x z (subst (λ (j : ℕ). state_of t j ≡ State.Connected b i x z) same e) (f ∙ eq-eqb p g same))
          | no n ↦ send_there p b i x z a n (f ∙ ne_eqb p g n)
        ]

    passes_send : (p : ℕ) → is_open t p ≡ true → sends_to g (state_of t h) ≡ eqb p g → (σ : State) → state_of t p ≡ σ → Passes t y (send t p new its σ) g
    unfolding send
    passes_send p a f State.Unbound e = refused y 19 refl
    passes_send p a f (State.Bound m) e = refused y 19 refl
    passes_send p a f (State.Listening m b q) e = refused y 19 refl
    passes_send p a f (State.Connected b i x z) e =
        passes_if y _ 8 _ refl λ _. passes_if y _ 2 _ refl λ _. passes_if y _ 11 _ refl λ _. send_at p b i x z a e f

    passes-do_send : (σ : State) → state_of t h ≡ σ → Passes t y (do_send t new its σ) g
    unfolding do_send
    passes-do_send State.Unbound e = refused y 9 refl
    passes-do_send (State.Bound m) e = refused y 9 refl
    passes-do_send (State.Listening m b q) e = refused y 9 refl
    passes-do_send (State.Connected p i x z) e =
        passes_if y _ 10 _ refl λ f. passes_send p (not-false _ (or_right z _ f)) (sends-to p i x z e) (state_of t p) refl

  module _ (how : ℤ) (p : ℕ) (i : Inbox) (x z wr : Bool) where
    -- the caller's inbox, and the peer's ends
    held_shut : (h : ℕ) (rd : Bool)
        → held (do_shutdown t h rd wr (State.Connected p i x z)).next g ≡ held (become t h (State.Connected p (cond rd nothing i) (x || rd) (z || wr))) g
    unfolding do_shutdown
    held_shut h rd =
        let u : Table = become t h (State.Connected p (cond rd nothing i) (x || rd) (z || wr)) in
        cond_both (λ v. held v g ≡ held u g) (is_open t p)
        (λ _. held_become u p _ g (ends_held wr rd (state_of u p) ∙ sym (held_is u p (state_of u p) refl)))
        (λ _. refl)

    shut_here : (rd : Bool) → shuts_read how ≡ rd → state_of t g ≡ State.Connected p i x z → Passes t (Call.Shutdown g how) (do_shutdown t g rd wr (State.Connected p i x z)) g
    unfolding do_shutdown inbox_of bytes_in items_in bytes_out bytes_dropped items_out all_items
    shut_here true f e =
        let y : Call = Call.Shutdown g how in
        let u : Outcome = do_shutdown t g true wr (State.Connected p i x z) in
        let from : held t g ≡ i = held_is t g (State.Connected p i x z) e in
        moves_to y u i nothing [] [] [] i.bytes (all_items i.groups)
        from
        (held_shut g true ∙ held_same t g _ o)
        refl refl refl
        (ap₂ (λ (a b : Bool). cond (a && b) (bytes_at t g) []) (eq-eqb g g refl) f ∙ ap (λ (j : Inbox). j.bytes) from)
        (here_cond _)
        refl
        refl
    shut_here false f e =
        let y : Call = Call.Shutdown g how in
        let u : Outcome = do_shutdown t g false wr (State.Connected p i x z) in
        let from : held t g ≡ i = held_is t g (State.Connected p i x z) e in
        moves_to y u i i [] [] [] [] []
        from
        (held_shut g false ∙ held_same t g _ o)
        refl refl refl
        (ap₂ (λ (a b : Bool). cond (a && b) (bytes_at t g) []) (eq-eqb g g refl) f)
        (here_cond _)
        (append-nil i.bytes)
        (append-nil (all_items i.groups))

    shut_there : (h : ℕ) (rd : Bool) → is_live t h ≡ true → h ≢ g → Passes t (Call.Shutdown h how) (do_shutdown t h rd wr (State.Connected p i x z)) g
    unfolding do_shutdown bytes_in items_in bytes_out bytes_dropped items_out
    shut_there h rd l n =
        still (Call.Shutdown h how) (do_shutdown t h rd wr (State.Connected p i x z)) refl refl refl
        (ap (λ (a : Bool). cond (a && shuts_read how) (bytes_at t g) []) (ne_eqb h g n))
        (elsewhere g h _ n)
        (held_shut h rd ∙ held_other h _ (live_open t h l) n)

    shut_at : (h : ℕ) (rd : Bool) → shuts_read how ≡ rd → is_live t h ≡ true → state_of t h ≡ State.Connected p i x z
        → Passes t (Call.Shutdown h how) (do_shutdown t h rd wr (State.Connected p i x z)) g
    shut_at h rd f l e =
        elim (dec_eq h g) [
          | yes same ↦
              subst (λ (j : ℕ). Passes t (Call.Shutdown j how) (do_shutdown t j rd wr (State.Connected p i x z)) g) (sym same)
              (shut_here rd f (subst (λ (j : ℕ). state_of t j ≡ State.Connected p i x z) same e))
          | no n ↦ shut_there h rd l n
        ]

  passes_shutdown : (h : ℕ) (how : ℤ) (rd wr : Bool) → shuts_read how ≡ rd → is_live t h ≡ true → (σ : State) → state_of t h ≡ σ → Passes t (Call.Shutdown h how) (do_shutdown t h rd wr σ) g
  unfolding do_shutdown
  passes_shutdown h how rd wr f l State.Unbound e = refused _ 9 refl
  passes_shutdown h how rd wr f l (State.Bound m) e = refused _ 9 refl
  passes_shutdown h how rd wr f l (State.Listening m b q) e = refused _ 9 refl
  passes_shutdown h how rd wr f l (State.Connected p i x z) e = shut_at how p i x z wr h rd f l e

  -- g is open before the call and after it
  pub passes : (y : Call) → is_open (run t y).next g ≡ true → Passes t y (run t y) g
  unfolding run bytes_in items_in bytes_out bytes_dropped items_out
  passes (Call.Socket d k p) a = still _ _ refl refl refl refl refl ((kept_socket d k p).kept a)
  passes (Call.Bind h n) a = still _ _ refl refl refl refl refl ((kept_name h n _ (λ _. kept_bind h n (state_of t h) refl)).kept a)
  passes (Call.Listen h k) a = still _ _ refl refl refl refl refl ((kept_live h _ (λ _. kept_listen h k (state_of t h) refl)).kept a)
  passes (Call.Accept h) a = still _ _ refl refl refl refl refl ((kept_live h _ (λ _. kept_accept h (state_of t h) refl)).kept a)
  passes (Call.Connect h n) a = still _ _ refl refl refl refl refl ((kept_name h n _ (λ l. kept_connect h l n (state_of t h) refl)).kept a)
  passes (Call.Read h size) a =
      passes_live _ h _ λ l. passes_drain _ h size Policy.Drop (state_of t h) l refl
      (record { in_bytes = λ u. refl; in_items = λ u. refl; out_bytes = λ u. refl; dropped = λ u. refl; out_items = λ u. refl })
  passes (Call.Recvmsg h size most) a =
      passes_live _ h _ λ l. passes_if _ _ 2 _ refl λ _. passes_drain _ h size (Policy.Take most) (state_of t h) l refl
      (record { in_bytes = λ u. refl; in_items = λ u. refl; out_bytes = λ u. refl; dropped = λ u. refl; out_items = λ u. refl })
  passes (Call.Write h from) a =
      passes_live _ h _ λ l. passes-do_send _ h from []
      (record { in_bytes = λ u. refl; in_items = λ u. sym (cond-nil (reaches t h u g)); out_bytes = λ u. refl; dropped = λ u. refl; out_items = λ u. refl })
      (state_of t h) refl
  passes (Call.Sendmsg h from its) a =
      passes_live _ h _ λ l. passes-do_send _ h from its
      (record { in_bytes = λ u. refl; in_items = λ u. refl; out_bytes = λ u. refl; dropped = λ u. refl; out_items = λ u. refl })
      (state_of t h) refl
  passes (Call.Shutdown h how) a = passes_live _ h _ λ l. passes_if _ _ 2 _ refl λ _. passes_shutdown h how _ _ refl l (state_of t h) refl
  passes (Call.Close h) a = still _ _ refl refl refl refl refl ((kept_live h _ (λ _. kept_close h)).kept a)
  passes (Call.Readiness h) a = still _ _ refl refl refl refl refl ((kept_live h _ (λ _. record { kept = λ _. refl })).kept a)

-- ── Calls one after another ──

-- no generation goes back
record Older (t u : Table) : Type 0 where
  older : (i : ℕ) → (at t i).gen ≤ (at u i).gen

older_same : {t u : Table} → ((i : ℕ) → (at u i).gen ≡ (at t i).gen) → Older t u
older_same f = record { older = λ i. le_of_eq (sym (f i)) }

older_then : {t u v : Table} → Older t u → Older u v → Older t v
older_then a b = record { older = λ i. le_trans (a.older i) (b.older i) }

older_steps : (t : Table) → Steps t (λ o. Older t o.next)
unfolding connected drained do_shutdown do_close
older_steps t =
    record {
      refused = λ n. older_same (λ i. refl);
      unchanged = λ v. older_same (λ i. refl);
      socket = λ r v y. record { older = gen_enter t _ true State.Unbound };
      bind = λ h n l e a b f. older_same (gen_become t h _);
      listen = λ h k m l e. older_same (gen_become t h _);
      again = λ h k m b q l e. older_same (gen_become t h _);
      accept = λ h m b s q l e. older_same (λ i. (steady_give _ s).gens i ∙ gen_become t h _ i);
      connect = λ h k m b q l un o e f r v y.
          let σ : State = State.Connected h nothing false false in
          older_then {u = enter t (free_slot t) false σ} (record { older = gen_enter t (free_slot t) false σ }) (older_same (λ i. gen_become _ k _ i ∙ gen_become _ h _ i));
      read = λ h k m p i x y l e n. older_same (gen_become t h _);
      write = λ h p i x y new its o e r f g. older_same (gen_become t p _);
      shutdown = λ h p i x y rd wr l e.
          cond_both (Older t) (is_open t p) (λ a. older_same (λ j. gen_become _ p _ j ∙ gen_become t h _ j)) (λ a. older_same (gen_become t h _));
      close = λ h l. older_same (steady-close_all t _).gens;
    }

older_run : (t : Table) → length t.slots ≤ 1024 → (y : Call) (i : ℕ) → handle_at t i ≤ handle_at (run t y).next i
older_run t fit y i = let a = (walk t fit (λ o. Older t o.next) (older_steps t) y).older i in omega arith

fit_run : (t : Table) → length t.slots ≤ 1024 → (y : Call) → length (run t y).next.slots ≤ 1024
fit_run t fit y = rw (sized_run t fit y).size fit

-- a socket that has closed stays closed
shut_after : (t : Table) → length t.slots ≤ 1024 → (g : ℕ) → g ≤ handle_at t (slot_of g) → is_open t g ≡ false → (cs : List Call) → is_open (after t cs) g ≡ false
unfolding after
shut_after t fit g l a [] = a
shut_after t fit g l a (y ∷ ys) =
    shut_after (run t y).next (fit_run t fit y) g (le_trans l (older_run t fit y (slot_of g))) ((tells_run t fit y).moves.shut g l a) ys

still_open : (t : Table) → length t.slots ≤ 1024 → (g : ℕ) → g ≤ handle_at t (slot_of g) → (cs : List Call) → is_open (after t cs) g ≡ true → is_open t g ≡ true
still_open t fit g l cs e = go (is_open t g) refl
  where
    go : (b : Bool) → is_open t g ≡ b → b ≡ true
    go true a = refl
    go false a = absurd (false≢true (sym (shut_after t fit g l a cs) ∙ e))

-- what was queued, then all that came, in order, is all that went, in order, then what is queued
pub record Through (t : Table) (cs : List Call) (g : ℕ) : Type 0 where
  pub bytes : bytes_at t g ++ all_bytes_in t cs g ≡ all_bytes_gone t cs g ++ bytes_at (after t cs) g
  pub items : items_at t g ++ all_items_in t cs g ≡ all_items_out t cs g ++ items_at (after t cs) g

linked : (a x b y c z w : List ℕ) → a ++ x ≡ b ++ y → y ++ z ≡ c ++ w → a ++ (x ++ z) ≡ (b ++ c) ++ w
linked a x b y c z w e f =
    sym (append_assoc a x z) ∙ ap (λ (l : List ℕ). l ++ z) e ∙ append_assoc b y z ∙ ap (λ (l : List ℕ). b ++ l) f ∙ sym (append_assoc b c w)

-- g is open before the calls and after them
pub through : (t : Table) → length t.slots ≤ 1024 → (g : ℕ) → is_open t g ≡ true → (cs : List Call) → is_open (after t cs) g ≡ true → Through t cs g
unfolding after all_bytes_in all_items_in all_bytes_gone all_items_out
through t fit g o [] e = record { bytes = append-nil (bytes_at t g); items = append-nil (items_at t g) }
through t fit g o (y ∷ ys) e =
    let u : Table = (run t y).next in
    let l : g ≤ handle_at u (slot_of g) = le_trans (le_of_eq (sym (open_handle t g o))) (older_run t fit y (slot_of g)) in
    let a : is_open u g ≡ true = still_open u (fit_run t fit y) g l ys e in
    let p : Passes t y (run t y) g = passes t fit g o y a in
    let q : Through u ys g = through u (fit_run t fit y) g a ys e in
    record {
      bytes =
          linked (bytes_at t g) (bytes_in t y (run t y) g) (bytes_out y (run t y) g ++ bytes_dropped t y (run t y) g) (bytes_at u g) (all_bytes_gone u ys g) (all_bytes_in u ys g)
          (bytes_at (after u ys) g) p.bytes q.bytes;
      items =
          linked (items_at t g) (items_in t y (run t y) g) (items_out y (run t y) g) (items_at u g) (all_items_out u ys g) (all_items_in u ys g)
          (items_at (after u ys) g) p.items q.items;
    }

-- ── A socket that is not open ──

module _ (t : Table) (g : ℕ) (n : is_open t g ≡ false) where
  dead : (h : ℕ) (u : Outcome) → h ≡ g → on_live t h u ≡ refuse t 1
  unfolding on_live refuse_if is_live
  dead h u e = rw (ap (is_open t) e ∙ n) refl

  silent_mine : (y : Call) (h : ℕ) (u : Outcome) → (h ≢ g → (v : Outcome) → Silent t y v g) → Silent t y (on_live t h u) g
  silent_mine y h u f =
      elim (dec_eq h g) [ yes e ↦ subst (λ (v : Outcome). Silent t y v g) (sym (dead h u e)) (silent_refused t g y 1 refl) | no e ↦ f e (on_live t h u) ]

  silent_if : (y : Call) (b : Bool) (k : ℕ) (u : Outcome) → eqb k 0 ≡ false → (b ≡ false → Silent t y u g) → Silent t y (refuse_if b k t u) g
  unfolding refuse_if
  silent_if y true k u e f = silent_refused t g y k e
  silent_if y false k u e f = f refl

  module _ (y : Call) (h : ℕ) (new its : List ℕ) (k : Sends t y h new its g) where
    not_there : (u : Outcome) (a : List ℕ) → sends_to g (state_of t h) ≡ false → cond (reaches t h u g) a [] ≡ []
    unfolding reaches
    not_there u a e = ap (λ (b : Bool). cond b a []) (ap (λ (b : Bool). eqb u.no 0 && b) e ∙ and-false (eqb u.no 0))

    silent_send : (σ : State) → state_of t h ≡ σ → Silent t y (do_send t new its σ) g
    unfolding do_send sends_to
    silent_send State.Unbound e = silent_refused t g y 9 refl
    silent_send (State.Bound m) e = silent_refused t g y 9 refl
    silent_send (State.Listening m b q) e = silent_refused t g y 9 refl
    silent_send (State.Connected p i x z) e =
        silent_if y (z || not (is_open t p)) 10 _ refl λ f.
        let away : p ≢ g = λ d. false≢true (sym n ∙ ap (is_open t) (sym d) ∙ not-false _ (or_right z _ f)) in
        let no_one : sends_to g (state_of t h) ≡ false = ap (sends_to g) e ∙ ne_eqb p g away in
        let u : Outcome = send t p new its (state_of t p) in
        record {
          in_bytes = k.in_bytes u ∙ not_there u _ no_one;
          in_items = k.in_items u ∙ not_there u _ no_one;
          out_bytes = k.out_bytes u;
          dropped = k.dropped u;
          out_items = k.out_items u;
        }

  silent_live : (y : Call) (h : ℕ) (u : Outcome) → Silent t y u g → Silent t y (on_live t h u) g
  unfolding on_live
  silent_live y h u f = silent_if y (not (is_live t h)) 1 u refl λ _. f

  silent : (y : Call) → Silent t y (run t y) g
  unfolding run bytes_in items_in bytes_out bytes_dropped items_out
  silent (Call.Socket d k p) = record { in_bytes = refl; in_items = refl; out_bytes = refl; dropped = refl; out_items = refl }
  silent (Call.Bind h m) = record { in_bytes = refl; in_items = refl; out_bytes = refl; dropped = refl; out_items = refl }
  silent (Call.Listen h k) = record { in_bytes = refl; in_items = refl; out_bytes = refl; dropped = refl; out_items = refl }
  silent (Call.Accept h) = record { in_bytes = refl; in_items = refl; out_bytes = refl; dropped = refl; out_items = refl }
  silent (Call.Connect h m) = record { in_bytes = refl; in_items = refl; out_bytes = refl; dropped = refl; out_items = refl }
  silent (Call.Read h size) =
      silent_mine _ h _ λ e v. record { in_bytes = refl; in_items = refl; out_bytes = elsewhere g h _ e; dropped = refl; out_items = elsewhere g h _ e }
  silent (Call.Recvmsg h size most) =
      silent_mine _ h _ λ e v. record { in_bytes = refl; in_items = refl; out_bytes = elsewhere g h _ e; dropped = refl; out_items = elsewhere g h _ e }
  silent (Call.Write h from) =
      silent_live _ h _ (silent_send _ h from []
      (record { in_bytes = λ u. refl; in_items = λ u. sym (cond-nil (reaches t h u g)); out_bytes = λ u. refl; dropped = λ u. refl; out_items = λ u. refl })
      (state_of t h) refl)
  silent (Call.Sendmsg h from its) =
      silent_live _ h _ (silent_send _ h from its
      (record { in_bytes = λ u. refl; in_items = λ u. refl; out_bytes = λ u. refl; dropped = λ u. refl; out_items = λ u. refl })
      (state_of t h) refl)
  silent (Call.Shutdown h how) =
      silent_mine _ h _ λ e v.
      record {
        in_bytes = refl;
        in_items = refl;
        out_bytes = refl;
        dropped = ap (λ (b : Bool). cond (eqb v.no 0 && (b && shuts_read how)) (bytes_at t g) []) (ne_eqb h g e) ∙ ap (λ (b : Bool). cond b (bytes_at t g) []) (and-false (eqb v.no 0));
        out_items = elsewhere g h _ e;
      }
  silent (Call.Close h) = record { in_bytes = refl; in_items = refl; out_bytes = refl; dropped = refl; out_items = refl }
  silent (Call.Readiness h) = record { in_bytes = refl; in_items = refl; out_bytes = refl; dropped = refl; out_items = refl }

-- a socket that a call makes has an empty inbox
record Born (g : ℕ) (o : Outcome) : Type 0 where
  born : is_open o.next g ≡ true → held o.next g ≡ nothing

module _ (t : Table) (g : ℕ) (n : is_open t g ≡ false) where
  not_born : (u : Outcome) → (is_open u.next g ≡ true → is_open t g ≡ true) → Born g u
  not_born u f = record { born = λ a. absurd (false≢true (sym n ∙ f a)) }

  born_enter : (i : ℕ) (b : Bool) (σ : State) → inbox_of σ ≡ nothing → is_open (enter t i b σ) g ≡ true → held (enter t i b σ) g ≡ nothing
  born_enter i b σ e a =
      ⊎_elim (λ z. held_is (enter t i b σ) g σ z.2 ∙ e) (λ z. absurd (false≢true (sym n ∙ z.0))) (at_enter t i b σ g a)

  born_steps : Steps t (Born g)
  unfolding drained do_shutdown do_close connected inbox_of
  born_steps =
      record {
        refused = λ k. not_born _ (λ a. a);
        unchanged = λ v. not_born _ (λ a. a);
        socket = λ r v y. record { born = born_enter (free_slot t) true State.Unbound refl };
        bind = λ h m l e a b f. not_born _ (λ d. sym (open_become t h _ g) ∙ d);
        listen = λ h k m l e. not_born _ (λ d. sym (open_become t h _ g) ∙ d);
        again = λ h k m b q l e. not_born _ (λ d. sym (open_become t h _ g) ∙ d);
        accept = λ h m b s q l e. not_born _ (λ d. sym (open_become t h _ g) ∙ sym (open_give _ s g) ∙ d);
        connect = λ h k m b q l un o e f r v y.
            record {
              born = λ d.
                  held_connected t g h l un k m b q o e v
                  ∙ born_enter (free_slot t) false (State.Connected h nothing false false) refl (sym (open_become _ h _ g) ∙ sym (open_become _ k _ g) ∙ d);
            };
        read = λ h k m p i x y l e f. not_born _ (λ d. sym (open_become t h _ g) ∙ d);
        write = λ h p i x y new its o e r f d. not_born _ (λ a. sym (open_become t p _ g) ∙ a);
        shutdown = λ h p i x y rd wr l e.
            not_born _
            (cond_both (λ (u : Table). is_open u g ≡ true → is_open t g ≡ true) (is_open t p)
            (λ _ d. sym (open_become t h _ g) ∙ sym (open_become _ p _ g) ∙ d)
            (λ _ d. sym (open_become t h _ g) ∙ d));
        close = λ h l. not_born _ (λ d. (close_all-old t _ g d).0);
      }

  born_run : length t.slots ≤ 1024 → (y : Call) → is_open (run t y).next g ≡ true → held (run t y).next g ≡ nothing
  born_run fit y = (walk t fit (Born g) born_steps y).born

-- ── What the host sees of a call ──

-- of a call that receives: the bytes, the items and the releases
abbrev Out : Call → Outcome → Outcome → Type 0
Out (Call.Socket d k p) u v = Unit {0}
Out (Call.Bind h m) u v = Unit {0}
Out (Call.Listen h k) u v = Unit {0}
Out (Call.Accept h) u v = Unit {0}
Out (Call.Connect h m) u v = Unit {0}
Out (Call.Read h size) u v = (u.bytes ≡ v.bytes) × (u.items ≡ v.items) × (u.releases ≡ v.releases)
Out (Call.Recvmsg h size most) u v = (u.bytes ≡ v.bytes) × (u.items ≡ v.items) × (u.releases ≡ v.releases)
Out (Call.Write h from) u v = Unit {0}
Out (Call.Sendmsg h from its) u v = Unit {0}
Out (Call.Shutdown h how) u v = (u.items ≡ v.items) × (u.releases ≡ v.releases)
Out (Call.Close h) u v = Unit {0}
Out (Call.Readiness h) u v = Unit {0}

-- two outcomes say the same of what passes
record Alike (t : Table) (y : Call) (u v : Outcome) (g : ℕ) : Type 0 where
  in_bytes : bytes_in t y u g ≡ bytes_in t y v g
  in_items : items_in t y u g ≡ items_in t y v g
  out_bytes : bytes_out y u g ≡ bytes_out y v g
  dropped : bytes_dropped t y u g ≡ bytes_dropped t y v g
  out_items : items_out y u g ≡ items_out y v g

alike : (t : Table) (y : Call) (u v : Outcome) (g : ℕ) → u.no ≡ v.no → u.value ≡ v.value → Out y u v → Alike t y u v g
unfolding bytes_in items_in bytes_out bytes_dropped items_out reaches
alike t (Call.Socket d k p) u v g a b o = record { in_bytes = refl; in_items = refl; out_bytes = refl; dropped = refl; out_items = refl }
alike t (Call.Bind h m) u v g a b o = record { in_bytes = refl; in_items = refl; out_bytes = refl; dropped = refl; out_items = refl }
alike t (Call.Listen h k) u v g a b o = record { in_bytes = refl; in_items = refl; out_bytes = refl; dropped = refl; out_items = refl }
alike t (Call.Accept h) u v g a b o = record { in_bytes = refl; in_items = refl; out_bytes = refl; dropped = refl; out_items = refl }
alike t (Call.Connect h m) u v g a b o = record { in_bytes = refl; in_items = refl; out_bytes = refl; dropped = refl; out_items = refl }
alike t (Call.Read h size) u v g a b o =
    record {
      in_bytes = refl;
      in_items = refl;
      out_bytes = ap (λ (l : List ℕ). cond (eqb h g) l []) o.0;
      dropped = refl;
      out_items = ap₂ (λ (a b : List ℕ). cond (eqb h g) (a ++ b) []) o.1 o.2;
    }
alike t (Call.Recvmsg h size most) u v g a b o =
    record {
      in_bytes = refl;
      in_items = refl;
      out_bytes = ap (λ (l : List ℕ). cond (eqb h g) l []) o.0;
      dropped = refl;
      out_items = ap₂ (λ (a b : List ℕ). cond (eqb h g) (a ++ b) []) o.1 o.2;
    }
alike t (Call.Write h from) u v g a b o =
    record {
      in_bytes = ap₂ (λ (k m : ℕ). cond (eqb k 0 && sends_to g (state_of t h)) (take m from) []) a b;
      in_items = refl;
      out_bytes = refl;
      dropped = refl;
      out_items = refl;
    }
alike t (Call.Sendmsg h from its) u v g a b o =
    record {
      in_bytes = ap₂ (λ (k m : ℕ). cond (eqb k 0 && sends_to g (state_of t h)) (take m from) []) a b;
      in_items = ap (λ (k : ℕ). cond (eqb k 0 && sends_to g (state_of t h)) its []) a;
      out_bytes = refl;
      dropped = refl;
      out_items = refl;
    }
alike t (Call.Shutdown h how) u v g a b o =
    record {
      in_bytes = refl;
      in_items = refl;
      out_bytes = refl;
      dropped = ap (λ (k : ℕ). cond (eqb k 0 && (eqb h g && shuts_read how)) (bytes_at t g) []) a;
      out_items = ap₂ (λ (x z : List ℕ). cond (eqb h g) (x ++ z) []) o.0 o.1;
    }
alike t (Call.Close h) u v g a b o = record { in_bytes = refl; in_items = refl; out_bytes = refl; dropped = refl; out_items = refl }
alike t (Call.Readiness h) u v g a b o =
    record {
      in_bytes = refl;
      in_items = refl;
      out_bytes = refl;
      dropped = refl;
      out_items = refl;
    }

-- what a call hands out fits what was lent for it
record Gives (u : Outcome) (size most : ℕ) : Type 0 where
  count : u.value ≡ length u.bytes
  fits : length u.bytes ≤ size
  few : length u.items ≤ most
  freed : length u.releases ≤ 256

gives_refuse : (t : Table) (k size most : ℕ) → Gives (refuse t k) size most
gives_refuse t k size most = record { count = refl; fits = omega arith; few = omega arith; freed = omega arith }

gives_none : (t : Table) (size most : ℕ) → Gives (answer t 0 [] []) size most
gives_none t size most = record { count = refl; fits = omega arith; few = omega arith; freed = omega arith }

gives_if : (t : Table) (b : Bool) (k : ℕ) (u : Outcome) (size most : ℕ) → (b ≡ false → Gives u size most) → Gives (refuse_if b k t u) size most
unfolding refuse_if
gives_if t true k u size most f = gives_refuse t k size most
gives_if t false k u size most f = f refl

moved_le : (i : Inbox) (size : ℕ) → (moved i size ≤ size) × (moved i size ≤ length i.bytes)
unfolding moved
moved_le i size = let a = up_to-le (others i.groups) (min size (length i.bytes)) in (omega arith, omega arith)

freed_few : (policy : Policy) (ms : List Group) → length (released policy (group ms)) ≤ length (all_items ms)
freed_few policy ms =
    let a : length (handed policy (group ms) ++ released policy (group ms)) ≡ length (group ms) = ap length (each_once policy (group ms)) in
    let b : length (group ms ++ all_items (others ms)) ≡ length (all_items ms) = ap length (items_split ms) in
    omega (arith, a, b, length-append (handed policy (group ms)) (released policy (group ms)), length-append (group ms) (all_items (others ms)))

abbrev most_of : Policy → ℕ
most_of Policy.Drop = 0
most_of (Policy.Take m) = m

handed_few : (policy : Policy) (its : List ℕ) → length (handed policy its) ≤ most_of policy
unfolding handed
handed_few Policy.Drop its = omega arith
handed_few (Policy.Take m) its = omega (arith, length-take m its)

module _ (c : ℕ) (t : Table) (w : Inboxes c t) where
  gives_drain : (h size : ℕ) (policy : Policy) → is_live t h ≡ true → (σ : State) → state_of t h ≡ σ → Gives (drain t h size policy σ) size (most_of policy)
  unfolding drain drained
  gives_drain h size policy l State.Unbound e = gives_refuse t 9 _ _
  gives_drain h size policy l (State.Bound m) e = gives_refuse t 9 _ _
  gives_drain h size policy l (State.Listening m b q) e = gives_refuse t 9 _ _
  gives_drain h size policy l (State.Connected p i x z) e =
      let ok : InboxOk c i = subst (StateOk c) e (w.ok h (live_open t h l)) in
      let few : length (all_items i.groups) ≤ 256 = ok.few in
      let m = moved_le i size in
      let k : length (take (moved i size) i.bytes) ≡ moved i size = length-take-le (moved i size) i.bytes m.1 in
      cond_both (λ u. Gives u size (most_of policy)) (is_nil i.bytes)
      (λ _. cond_both (λ u. Gives u size (most_of policy)) (x || not (is_open t p))
      (λ _. gives_none t size (most_of policy))
      (λ _. gives_refuse t 8 _ _))
      (λ _. record {
        count = sym k;
        fits = le_trans (le_of_eq k) m.0;
        few = handed_few policy (group i.groups);
        freed = le_trans (freed_few policy i.groups) few;
      })

  gives_shutdown : (h : ℕ) (rd wr : Bool) → is_live t h ≡ true → (σ : State) → state_of t h ≡ σ → Gives (do_shutdown t h rd wr σ) 0 0
  unfolding do_shutdown
  gives_shutdown h rd wr l State.Unbound e = gives_refuse t 9 _ _
  gives_shutdown h rd wr l (State.Bound m) e = gives_refuse t 9 _ _
  gives_shutdown h rd wr l (State.Listening m b q) e = gives_refuse t 9 _ _
  gives_shutdown h rd wr l (State.Connected p i x z) e =
      let ok : InboxOk c i = subst (StateOk c) e (w.ok h (live_open t h l)) in
      let few : length (all_items i.groups) ≤ 256 = ok.few in
      record {
        count = refl;
        fits = omega arith;
        few = omega arith;
        freed = cond_both (λ (a : List ℕ). length a ≤ 256) rd (λ _. few) (λ _. omega arith);
      }

  gives_read : (h size : ℕ) → Gives (run t (Call.Read h size)) size 0
  unfolding run on_live
  gives_read h size = gives_if t (not (is_live t h)) 1 _ size 0 λ e. gives_drain h size Policy.Drop (not-false _ e) (state_of t h) refl

  gives_recvmsg : (h size most : ℕ) → Gives (run t (Call.Recvmsg h size most)) size most
  unfolding run on_live
  gives_recvmsg h size most =
      gives_if t (not (is_live t h)) 1 _ size most λ e. gives_if t (eqb size 0) 2 _ size most λ _. gives_drain h size (Policy.Take most) (not-false _ e) (state_of t h) refl

  gives_shut : (h : ℕ) (how : ℤ) → Gives (run t (Call.Shutdown h how)) 0 0
  unfolding run on_live
  gives_shut h how =
      gives_if t (not (is_live t h)) 1 _ 0 0 λ e. gives_if t (not (shuts_read how || shuts_write how)) 2 _ 0 0 λ _.
      gives_shutdown h (shuts_read how) (shuts_write how) (not-false _ e) (state_of t h) refl

-- the entries that an answer counts
shown : (vs l l' : List ℕ) (k : ℕ) → k ≡ length vs → l' ≡ sets l 0 vs → length vs ≤ length l → take k l' ≡ vs
shown vs l l' k a b h = ap₂ (λ (j : ℕ) (x : List ℕ). take j x) a b ∙ first_entries vs l h

module _ (v : Outcome) (n c n' c' : ℕ) (s : Store) (q : Request) (r : Result) (d : Done v n' c' s r.store q.lists r.lists r.answer)
    (f : Filled v q.buf r.buf q.items r.items) where
  shown_bytes : (size most : ℕ) → Gives v size most → size ≤ length q.buf → (seen n c r).bytes ≡ v.bytes
  shown_bytes size most k a = shown v.bytes q.buf r.buf r.answer.value (d.value_is ∙ k.count) f.buffer (le_trans k.fits a)

  shown_items : (size most : ℕ) → Gives v size most → most ≤ length q.items → (seen n c r).items ≡ v.items
  shown_items size most k a = shown v.items q.items r.items r.answer.items d.item_count f.item_list (le_trans k.few a)

  shown_releases : length v.releases ≤ length q.lists.releases → (seen n c r).releases ≡ v.releases
  shown_releases a = shown v.releases q.lists.releases r.lists.releases r.answer.releases d.release_count d.release_list a

-- a call that was taken
module _ (n c n' c' m : ℕ) (t : Table) (w : Inboxes m t) (s : Store) (buf items : List ℕ) (lists : Lists) (r : Result) (rest_fits : 256 ≤ length lists.releases) where
  out_taken : (y : Call) → Done (run t y) n' c' s r.store lists r.lists r.answer → Filled (run t y) buf r.buf items r.items
      → length buf ≡ buffer_of y → length items ≡ items_of y → Out y (seen n c r) (run t y)
  out_taken (Call.Socket k j p) d f a b = tt
  out_taken (Call.Bind h j) d f a b = tt
  out_taken (Call.Listen h k) d f a b = tt
  out_taken (Call.Accept h) d f a b = tt
  out_taken (Call.Connect h j) d f a b = tt
  out_taken (Call.Read h size) d f a b =
      let k = gives_read m t w h size in
      let q : Request = record { n = n'; c = c'; call = Call.Read h size; lists = lists; buf = buf; items = items } in
      (shown_bytes (run t (Call.Read h size)) n c n' c' s q r d f size 0 k (le_of_eq (sym a)), shown_items (run t (Call.Read h size)) n c n' c' s q r d f size 0 k (le_of_eq (sym b)), shown_releases (run t (Call.Read h size)) n c n' c' s q r d f (le_trans k.freed rest_fits))
  out_taken (Call.Recvmsg h size most) d f a b =
      let k = gives_recvmsg m t w h size most in
      let q : Request = record { n = n'; c = c'; call = Call.Recvmsg h size most; lists = lists; buf = buf; items = items } in
      (shown_bytes (run t (Call.Recvmsg h size most)) n c n' c' s q r d f size most k (le_of_eq (sym a)), shown_items (run t (Call.Recvmsg h size most)) n c n' c' s q r d f size most k (le_of_eq (sym b)), shown_releases (run t (Call.Recvmsg h size most)) n c n' c' s q r d f (le_trans k.freed rest_fits))
  out_taken (Call.Write h from) d f a b = tt
  out_taken (Call.Sendmsg h from its) d f a b = tt
  out_taken (Call.Shutdown h how) d f a b =
      let k = gives_shut m t w h how in
      let q : Request = record { n = n'; c = c'; call = Call.Shutdown h how; lists = lists; buf = buf; items = items } in
      (shown_items (run t (Call.Shutdown h how)) n c n' c' s q r d f 0 0 k (le_of_eq (sym b)), shown_releases (run t (Call.Shutdown h how)) n c n' c' s q r d f (le_trans k.freed rest_fits))
  out_taken (Call.Close h) d f a b = tt
  out_taken (Call.Readiness h) d f a b = tt

-- one that was not
out_all : (y : Call) (u v : Outcome) → u.bytes ≡ v.bytes → u.items ≡ v.items → u.releases ≡ v.releases → Out y u v
out_all (Call.Socket d k p) u v a b e = tt
out_all (Call.Bind h m) u v a b e = tt
out_all (Call.Listen h k) u v a b e = tt
out_all (Call.Accept h) u v a b e = tt
out_all (Call.Connect h m) u v a b e = tt
out_all (Call.Read h size) u v a b e = (a, b, e)
out_all (Call.Recvmsg h size most) u v a b e = (a, b, e)
out_all (Call.Write h from) u v a b e = tt
out_all (Call.Sendmsg h from its) u v a b e = tt
out_all (Call.Shutdown h how) u v a b e = (b, e)
out_all (Call.Close h) u v a b e = tt
out_all (Call.Readiness h) u v a b e = tt

-- ── One call on lent storage ──

-- what a call does to what passes through g, whatever g is before it
record Good (t : Table) (y : Call) (v : Outcome) (g : ℕ) : Type 0 where
  passed : is_open t g ≡ true → is_open v.next g ≡ true → Passes t y v g
  quiet : is_open t g ≡ false → Silent t y v g
  made : is_open t g ≡ false → is_open v.next g ≡ true → held v.next g ≡ nothing
  later : handle_at t (slot_of g) ≤ handle_at v.next (slot_of g)
  gone : g ≤ handle_at t (slot_of g) → is_open t g ≡ false → is_open v.next g ≡ false

good_run : (t : Table) → length t.slots ≤ 1024 → (y : Call) (g : ℕ) → Good t y (run t y) g
good_run t fit y g =
    record {
      passed = λ o a. passes t fit g o y a;
      quiet = λ e. silent t g e y;
      made = λ e. born_run t g e fit y;
      later = older_run t fit y (slot_of g);
      gone = λ l e. (tells_run t fit y).moves.shut g l e;
    }

good_refuse : (t : Table) → length t.slots ≤ 1024 → (y : Call) (k g : ℕ) → k ≢ 0 → Good t y (refuse t k) g
good_refuse t fit y k g ne =
    record {
      passed = λ o a. refused t fit g o y k (ne_eqb k 0 ne);
      quiet = λ e. silent_refused t g y k (ne_eqb k 0 ne);
      made = λ e o. absurd (false≢true (sym e ∙ o));
      later = le_of_eq refl;
      gone = λ l e. e;
    }

good_alike : (t : Table) (y : Call) (u v : Outcome) (g : ℕ) → Alike t y u v g → u.next ≡ v.next → Good t y v g → Good t y u g
good_alike t y u v g a e k =
    record {
      passed = λ o b.
          let p = k.passed o (sym (ap (λ (x : Table). is_open x g) e) ∙ b) in
          record {
            bytes =
                ap (λ (l : List ℕ). bytes_at t g ++ l) a.in_bytes ∙ p.bytes
                ∙ sym (ap₂ (λ (l : List ℕ) (x : Table). l ++ bytes_at x g) (ap₂ ◌++◌ a.out_bytes a.dropped) e);
            items = ap (λ (l : List ℕ). items_at t g ++ l) a.in_items ∙ p.items ∙ sym (ap₂ (λ (l : List ℕ) (x : Table). l ++ items_at x g) a.out_items e);
          };
      quiet = λ o.
          let p = k.quiet o in
          record {
            in_bytes = a.in_bytes ∙ p.in_bytes;
            in_items = a.in_items ∙ p.in_items;
            out_bytes = a.out_bytes ∙ p.out_bytes;
            dropped = a.dropped ∙ p.dropped;
            out_items = a.out_items ∙ p.out_items;
          };
      made = λ o b. ap (λ (x : Table). held x g) e ∙ k.made o (sym (ap (λ (x : Table). is_open x g) e) ∙ b);
      later = subst (λ (x : Table). handle_at t (slot_of g) ≤ handle_at x (slot_of g)) (sym e) k.later;
      gone = λ l o. ap (λ (x : Table). is_open x g) e ∙ k.gone l o;
    }

taken_one : (n c : ℕ) (s : Store) (q : Request) → Fitting n c s q → after (view n c s) (taken s q) ≡ (run (view n c s) q.call).next
unfolding taken making.passes after
taken_one n c s q f = rw f.admits_it

module _ (n c : ℕ) (s : Store) (e : formed n c s ≡ true) (q : Request) (r : Result) (a : Allowed s q r) (lends : Lends q) (g : ℕ) where
  abbrev here : Table
  here = view n c s

  good_taken : Fitting n c s q → Good here q.call (seen n c r) g
  good_taken f =
      let y : Call = q.call in
      let d : Done (run here y) n c s r.store q.lists r.lists r.answer = taken_done n c s e q r a f in
      let same : outcome q.n q.c s q.lists y ≡ run here y =
      outcome_passed q.n q.c s q.lists y f.admits_it ∙ ap₂ (λ (i j : ℕ). run (view i j s) y) f.slots f.capacity in
      let fills : Filled (run here y) q.buf r.buf q.items r.items =
      subst (λ (o : Outcome). Filled o q.buf r.buf q.items r.items) same a.fills in
      let let_in : Admitted q.n q.c s (length q.lists.wakes) (length q.lists.releases) = admitted q.n q.c s _ _ f.admits_it in
      let long : 256 * q.n ≤ length q.lists.releases = let_in.release_list in
      let some : 1 ≤ q.n = let_in.some_slot in
      let large : 256 ≤ length q.lists.releases = omega arith in
      let w = (table_formed n c s e).sound.inboxes in
      good_alike here y (seen n c r) (run here y) g
      (alike here y (seen n c r) (run here y) g d.refusal_is d.value_is
      (out_taken n c n c here.capacity here w s q.buf q.items q.lists r large y d fills lends.buffer lends.item_list))
      ((step_next n c s e q r a).shows ∙ taken_one n c s q f)
      (good_run here (few_in n c s e) y g)

  good_barred : admits q.n q.c s (length q.lists.wakes) (length q.lists.releases) ≢ 0 → Good here q.call (seen n c r) g
  good_barred ne =
      let y : Call = q.call in
      let k : ℕ = admits q.n q.c s (length q.lists.wakes) (length q.lists.releases) in
      let v : Outcome = refuse (view q.n q.c s) k in
      let same : outcome q.n q.c s q.lists y ≡ v = outcome_barred q.n q.c s q.lists y ne in
      let d : Done v q.n q.c s r.store q.lists r.lists r.answer =
      subst (λ (o : Outcome). Done o q.n q.c s r.store q.lists r.lists r.answer) same a.promise in
      let fills : Filled v q.buf r.buf q.items r.items = subst (λ (o : Outcome). Filled o q.buf r.buf q.items r.items) same a.fills in
      let gives : Gives v 0 0 = gives_refuse (view q.n q.c s) k 0 0 in
      let bytes : (seen n c r).bytes ≡ [] = shown_bytes v n c q.n q.c s q r d fills 0 0 gives (omega arith) in
      let items : (seen n c r).items ≡ [] = shown_items v n c q.n q.c s q r d fills 0 0 gives (omega arith) in
      let releases : (seen n c r).releases ≡ [] = shown_releases v n c q.n q.c s q r d fills (omega arith) in
      good_alike here y (seen n c r) (refuse here k) g
      (alike here y (seen n c r) (refuse here k) g d.refusal_is d.value_is (out_all y (seen n c r) (refuse here k) bytes items releases))
      (ap (view n c) (barred_same n c s e q r a ne))
      (good_refuse here (few_in n c s e) y k g ne)

  good : Good here q.call (seen n c r) g
  good =
      elim (dec_eq (admits q.n q.c s (length q.lists.wakes) (length q.lists.releases)) 0)
      [ yes z ↦ good_taken (fitting n c s e q z) | no z ↦ good_barred z ]

-- ── Any calls ──

-- all that was put into g's inbox, in order, is all that left it, in order, then what is queued
pub record Passed {s₀ s : Store} (n c : ℕ) (p : Reached s₀ s) (g : ℕ) : Type 0 where
  pub bytes : came_bytes n c p g ≡ gone_bytes n c p g ++ bytes_at (view n c s) g
  pub items : came_items n c p g ≡ gone_items n c p g ++ items_at (view n c s) g

-- nothing has come or gone
record Nothing {s₀ s : Store} (n c : ℕ) (p : Reached s₀ s) (g : ℕ) : Type 0 where
  came : came_bytes n c p g ≡ []
  gone : gone_bytes n c p g ≡ []
  came-items : came_items n c p g ≡ []
  gone-items : gone_items n c p g ≡ []

-- of a socket that is open, and of one that has not been made
record Along {s₀ s : Store} (n c : ℕ) (p : Reached s₀ s) (g : ℕ) : Type 0 where
  open_passed : is_open (view n c s) g ≡ true → Passed n c p g
  not_yet : handle_at (view n c s) (slot_of g) < g → Nothing n c p g

nil-nil : (a b : List ℕ) → a ≡ [] → b ≡ [] → a ++ b ≡ []
nil-nil a b e f = ap₂ ◌++◌ e f

not_open : (t : Table) (g : ℕ) → handle_at t (slot_of g) < g → is_open t g ≡ false
not_open t g l = go (is_open t g) refl
  where
    go : (b : Bool) → is_open t g ≡ b → b ≡ false
    go true e = absurd (let a = open_handle t g e in omega arith)
    go false e = refl

module _ (n c : ℕ) {s₀ s : Store} (p : Reached s₀ s) (q : Request) (r : Result) (a : Allowed s q r) (g : ℕ) (k : Along n c p g) (w : Good (view n c s) q.call (seen n c r) g) where
  abbrev next : Reached s₀ r.store
  next = Reached.then' p q r a

  nothing_next : handle_at (view n c s) (slot_of g) < g → Nothing n c next g
  unfolding came_bytes gone_bytes came_items gone_items
  nothing_next l =
      let x = k.not_yet l in
      let z = w.quiet (not_open (view n c s) g l) in
      record {
        came = nil-nil _ _ x.came z.in_bytes;
        gone = nil-nil _ _ x.gone (nil-nil _ _ z.out_bytes z.dropped);
        came-items = nil-nil _ _ x.came-items z.in_items;
        gone-items = nil-nil _ _ x.gone-items z.out_items;
      }

  next_open : is_open (view n c s) g ≡ true → is_open (view n c r.store) g ≡ true → Passed n c next g
  unfolding came_bytes gone_bytes came_items gone_items
  next_open o o' =
      let t : Table = view n c s in
      let t' : Table = view n c r.store in
      let y : Call = q.call in
      let u : Outcome = seen n c r in
      let x = k.open_passed o in
      let z = w.passed o o' in
      record {
        bytes =
            linked [] (came_bytes n c p g) (gone_bytes n c p g) (bytes_at t g) (bytes_out y u g ++ bytes_dropped t y u g) (bytes_in t y u g) (bytes_at t' g) x.bytes z.bytes;
        items = linked [] (came_items n c p g) (gone_items n c p g) (items_at t g) (items_out y u g) (items_in t y u g) (items_at t' g) x.items z.items;
      }

  next_made : handle_at (view n c s) (slot_of g) < g → is_open (view n c r.store) g ≡ true → Passed n c next g
  unfolding all_items
  next_made l o' =
      let x = nothing_next l in
      let e : held (view n c r.store) g ≡ nothing = w.made (not_open (view n c s) g l) o' in
      record {
        bytes = x.came ∙ sym (nil-nil _ _ x.gone (ap (λ (i : Inbox). i.bytes) e));
        items = x.came-items ∙ sym (nil-nil _ _ x.gone-items (ap (λ (i : Inbox). all_items i.groups) e));
      }

  along_next : Along n c next g
  along_next =
      record {
        open_passed = λ o'. go o' (is_open (view n c s) g) refl (less_or (handle_at (view n c s) (slot_of g)) g);
        not_yet = λ l. let m = w.later in nothing_next (omega arith);
      }
    where
      go : is_open (view n c r.store) g ≡ true → (b : Bool) → is_open (view n c s) g ≡ b
          → (handle_at (view n c s) (slot_of g) < g) ⊎ (g ≤ handle_at (view n c s) (slot_of g)) → Passed n c (Reached.then' p q r a) g
      go o' true o d = next_open o o'
      go o' false o (inl l) = next_made l o'
      go o' false o (inr l) = absurd (false≢true (sym (w.gone l o) ∙ o'))

along : {s₀ s : Store} (n c : ℕ) → Made n c s₀ → (p : Reached s₀ s) → AllLend p → (g : ℕ) → Along n c p g
unfolding came_bytes gone_bytes came_items gone_items
along {s₀} n c m Reached.start lends g =
    record {
      open_passed = λ o. absurd (none_open n c g (sym (ap (λ (t : Table). is_open t g) (made_fresh n c s₀ m)) ∙ o));
      not_yet = λ l. record { came = refl; gone = refl; came-items = refl; gone-items = refl };
    }
along n c m (Reached.then' {s} p q r a) lends g =
    along_next n c p q r a g (along n c m p lends.0 g) (good n c s (reachable n c m p).well q r a lends.1 g)

-- from a made storage, by any calls: for every socket g that is open at the end
pub passes_through : {s₀ s : Store} (n c : ℕ) → Made n c s₀ → (p : Reached s₀ s) → AllLend p → (g : ℕ) → is_open (view n c s) g ≡ true → Passed n c p g
passes_through n c m p lends g o = (along n c m p lends g).open_passed o

nil-both : (a b : List ℕ) → a ++ b ≡ [] → (a ≡ []) × (b ≡ [])
nil-both [] b e = (refl, e)
nil-both (x ∷ a) b e = absurd (cons-nil e)

-- where g has dropped nothing, all that left it was read
none_dropped : {s₀ s : Store} (n c : ℕ) (p : Reached s₀ s) (g : ℕ) → dropped_bytes n c p g ≡ [] → gone_bytes n c p g ≡ read_bytes n c p g
unfolding gone_bytes read_bytes dropped_bytes
none_dropped n c Reached.start g e = refl
none_dropped n c (Reached.then' {s} p q r a) g e =
    let k = nil-both (dropped_bytes n c p g) (bytes_dropped (view n c s) q.call (seen n c r) g) e in
    ap₂ ◌++◌ (none_dropped n c p g k.0) (ap (λ (l : List ℕ). bytes_out q.call (seen n c r) g ++ l) k.1 ∙ append-nil (bytes_out q.call (seen n c r) g))

pub read_in_order : {s₀ s : Store} (n c : ℕ) → Made n c s₀ → (p : Reached s₀ s) → AllLend p → (g : ℕ) → is_open (view n c s) g ≡ true → dropped_bytes n c p g ≡ []
    → came_bytes n c p g ≡ read_bytes n c p g ++ bytes_at (view n c s) g
read_in_order {s₀} {s} n c m p lends g o e =
    (passes_through n c m p lends g o).bytes ∙ ap (λ (l : List ℕ). l ++ bytes_at (view n c s) g) (none_dropped n c p g e)

-- ── The end ──

-- a close of g, connected, releases the items that are still queued, in order
pub closing : (t : Table) (g p : ℕ) (i : Inbox) (x z : Bool) → is_live t g ≡ true → state_of t g ≡ State.Connected p i x z → (run t (Call.Close g)).releases ≡ items_at t g
unfolding run on_live refuse_if do_close close_all kept queued held inbox_of
closing t g p i x z l e = rw (l, e) (append-nil (all_items i.groups))

-- ── That something does pass ──

-- "ab" with item 5 and "cd" with item 6 have been sent; a recvmsg takes "ab" and 5, and a read "c", which releases 6
abbrev taking : List Call
taking = groups ++ Call.Recvmsg h2 10 1 ∷ Call.Read h2 1 ∷ []

pub something_passes : (all_bytes_in (fresh 5 8) taking h2 ≡ 97 ∷ 98 ∷ 99 ∷ 100 ∷ []) × (all_bytes_out (fresh 5 8) taking h2 ≡ 97 ∷ 98 ∷ 99 ∷ [])
    × (bytes_at (after (fresh 5 8) taking) h2 ≡ 100 ∷ []) × (all_items_in (fresh 5 8) taking h2 ≡ 5 ∷ 6 ∷ []) × (all_items_out (fresh 5 8) taking h2 ≡ 5 ∷ 6 ∷ [])
unfolding model all_bytes_in all_bytes_out all_items_in all_items_out bytes_in bytes_out items_in items_out reaches sends_to held inbox_of
something_passes = (refl, refl, refl, refl, refl)
