-- write and sendmsg
use mathlib.Core.Path.{◌≡◌, refl, sym, ap, ap₂, ◌∙◌, subst}
use mathlib.Core.Logic.{◌≢◌}
use mathlib.Core.Bool.{Bool, true, false, cond, not, ◌&&◌, ◌||◌}
use mathlib.Core.List.{List, [], ◌∷◌}
use Prim.Native.Nat.{ℕ, ◌+◌, ◌-◌, ◌≤◌, ◌<◌, ◌^◌, min}
use native.Mathlib.Omega.{arith}
use lib.Dec.{leb, ltb}
use borrow.Author.Tests.{lt-leb}
use lib.ListN.{length, take, set}
use lib.Seq.{set-set}
use Rattle.std.specs.Prelude.{Result, Ok, Err}
use Rattle.words.specs.Numbers.{number_of, refusal_of}
use Rattle.words.specs.declared.Errno.{Errno}
use Rattle.words.proofs.Names.{number_some}
use Rattle.inbox.specs.View as inbox
use Rattle.inbox.specs.View.{count}
use Rattle.inbox.specs.Well.{Well}
use Rattle.inbox.specs.Promise.{come_on, push_no, MayPush}
use Rattle.inbox.specs.declared.Inbox.{Inbox}
use Rattle.inbox.specs.declared.Pushed.{Pushed}
use Rattle.inbox.proofs.Offsets.{dist_come}
use Rattle.inbox.proofs.Kept.{InRange, in-range, some_items, none_at_all, may, push_keeps}
use Rattle.rules.specs.Table as model
use Rattle.rules.specs.Table.{Table, slot_of, is_open, become}
use Rattle.rules.specs.Inbox.{is_nil, all_items, append}
use Rattle.rules.specs.Outcome.{Call, Outcome, refuse, answer, refuse_if}
use Rattle.rules.specs.Moving.{room, send, do_send}
use Rattle.rules.specs.Run.{run}
use Rattle.storage.specs.Layout.{part, places_base, ring_base, tokens_base}
use Rattle.storage.specs.Cells.{cell_at, state_of, store_at, cell_of, with_inbox}
use Rattle.storage.specs.Rows.{Store, Row, lent, row_at, rows, with_cell, with_places, with_ring, with_tokens, Roomy, Around}
use Rattle.storage.specs.View.{view, show_in}
use Rattle.storage.specs.Finding.{open_in, live_in}
use Rattle.storage.specs.Inboxes.{PushesAt}
use Rattle.storage.specs.declared.Cell.{Cell}
use Rattle.storage.specs.declared.Slot.{Slot}
use Rattle.storage.specs.declared.State.{State}
use Rattle.storage.specs.declared.State.TheVariants.{Connected}
use Rattle.storage.specs.declared.Connection.{Connection}
use Rattle.storage.proofs.Coding.{loaded_generation, loaded_state, loaded_at}
use Rattle.storage.proofs.Pasted.{length_part}
use Rattle.storage.proofs.Strides.{row_before}
use Rattle.storage.proofs.Framing.{store_rows, places_rows, ring_rows, tokens_rows}
use Rattle.storage.proofs.Around.{store_around, places_around, ring_around, tokens_around, around_then}
use Rattle.storage.proofs.Viewed.{open_view}
use Rattle.table.specs.Admission.{Admitted}
use Rattle.promise.specs.Hidden.{hidden_in, inbox_on}
use Rattle.promise.specs.Answers.{refused_with, accepted_with}
use Rattle.promise.specs.Promise.{Lists, lists, Done}
use Rattle.promise.specs.declared.Answer.{Answer}
use Rattle.promise.proofs.Known.{Known, known, refused_done, stay}
use Rattle.promise.proofs.Live.{Opened, opened, Live, live, live_run, stale_run, state_seen}
use Rattle.promise.proofs.Kept.{row_changed}
use Rattle.promise.proofs.Changed.{row_stored, accepted_done}
use Rattle.promise.proofs.Called.{Unconnected, unconnected}
use Rattle.promise.proofs.Held.{ring_long, places_long, tokens_long, inbox_in, Sized, sized, Held, held, hidden_of, placed_same, connected_fit, connected_keeps, connected_put}
use Rattle.sending.specs.Parts.{Sends}

-- ── The numbers that the view forgets ──

-- d bytes and m items have come
come_hidden : (c : ℕ) (k : Connection) (i j : model.Inbox) (d m : ℕ) → InRange c k.inbox → count k.inbox + d < 2 ^ 64 → Sized i k.inbox → Sized j (come_on k.inbox d m)
    → hidden_in (Connected (with_inbox k (come_on k.inbox d m))) ≡ inbox_on c (hidden_in (Connected k)) i j
unfolding hidden_in inbox_on
come_hidden c k i j d m r hd si sj =
    let q = k.inbox in
    let come : count (come_on q d m) ≡ count q + d = dist_come q.written_total q.read_total d hd in
    let bi : length i.bytes ≡ count q = si.bytes in
    let bj : length j.bytes ≡ count q + d = sj.bytes ∙ come in
    let ti : length (all_items i.groups) ≡ q.items = si.items in
    let tj : length (all_items j.groups) ≡ q.items + m = sj.items in
    hidden_of (sym (stay c q.head (length i.bytes) (length j.bytes) r.head_in (omega arith)))
    (let z : length j.bytes - length i.bytes ≡ d = omega arith in rw z (omega arith))
    (let z : length i.bytes - length j.bytes ≡ 0 = omega arith in rw z (omega arith))
    (sym (stay 256 q.first (length (all_items i.groups)) (length (all_items j.groups)) r.first_in (omega arith)))

-- ── The row of the peer, after a push ──

module _ (n c j : ℕ) (hj : j < n) where
  -- a row that is changed twice
  then_row : (s s' s'' : Store) (r : Row) (f : Row → Row) → rows n c s' ≡ set (rows n c s) j r → rows n c s'' ≡ set (rows n c s') j (f (row_at n c s' j)) → rows n c s'' ≡ set (rows n c s) j (f r)
  then_row s s' s'' r f a b =
      b ∙ ap₂ (λ (l : List Row) (x : Row). set l j (f x)) a (row_changed n c s s' j r hj a) ∙ set-set (rows n c s) j r (f r)

module _ (n c j : ℕ) (hj : j < n) (w b t w₁ b₁ t₁ buf items : List ℕ) (f : Roomy n c (lent w b t)) (q : Inbox) (r : Pushed)
    (x : PushesAt n c j (lent w b t) (lent w₁ b₁ t₁) buf items q r) (lw : length w₁ ≡ length w) (lb : length b₁ ≡ length b) (lt : length t₁ ≡ length t) where
  abbrev ps : List ℕ
  ps = part (places_base n j) 256 w₁

  abbrev rs : List ℕ
  rs = part (ring_base c j) c b₁

  abbrev ts : List ℕ
  ts = part (tokens_base j) 256 t₁

  f₃ : Roomy n c (lent w₁ b₁ t₁)
  f₃ = let fw = f.words in let fb = f.bytes in let ft = f.tokens in record { few = f.few; small = f.small; words = omega arith; bytes = omega arith; tokens = omega arith }

  f₁ : Roomy n c (lent w₁ b t)
  f₁ = record { few = f.few; small = f.small; words = f₃.words; bytes = f.bytes; tokens = f.tokens }

  f₂ : Roomy n c (lent w₁ b₁ t)
  f₂ = record { few = f.few; small = f.small; words = f₃.words; bytes = f₃.bytes; tokens = f.tokens }

  pub new_places : length (part (places_base n j) 256 w₁) ≡ 256
  new_places = let fw = f₃.words in length_part (places_base n j) 256 w₁ (omega arith)

  pub new_ring : length (part (ring_base c j) c b₁) ≡ c
  new_ring = let fb = f₃.bytes in let z = row_before c j n hj in length_part (ring_base c j) c b₁ (omega arith)

  pub new_tokens : length (part (tokens_base j) 256 t₁) ≡ 256
  new_tokens = let ft = f₃.tokens in length_part (tokens_base j) 256 t₁ (omega arith)

  pub pushed_rows : (k : Cell) → rows n c (lent (store_at w₁ j k) b₁ t₁)
      ≡ set (rows n c (lent w b t)) j (with_cell k (with_tokens (part (tokens_base j) 256 t₁) (with_ring (part (ring_base c j) c b₁) (with_places (part (places_base n j) 256 w₁) (row_at n c (lent w b t) j)))))
  pushed_rows k =
      let a₁ = ap (λ (y : List ℕ). rows n c (lent y b t)) x.in_words ∙ places_rows n c w b t f j hj ps new_places in
      let a₂ = then_row n c j hj (lent w b t) (lent w₁ b t) (lent w₁ b₁ t) _ (with_ring rs) a₁ (ap (λ (y : List ℕ). rows n c (lent w₁ y t)) x.in_bytes ∙ ring_rows n c w₁ b t f₁ j hj rs new_ring) in
      let a₃ = then_row n c j hj (lent w b t) (lent w₁ b₁ t) (lent w₁ b₁ t₁) _ (with_tokens ts) a₂ (ap (λ (y : List ℕ). rows n c (lent w₁ b₁ y)) x.in_tokens ∙ tokens_rows n c w₁ b₁ t f₂ j hj ts new_tokens) in
      then_row n c j hj (lent w b t) (lent w₁ b₁ t₁) (lent (store_at w₁ j k) b₁ t₁) _ (with_cell k) a₃ (store_rows n c w₁ b₁ t₁ f₃ j hj k)

  pub pushed_around : (k : Cell) → Around n c (lent w b t) (lent (store_at w₁ j k) b₁ t₁)
  pushed_around k =
      around_then (subst (λ (y : List ℕ). Around n c (lent w b t) (lent y b t)) (sym x.in_words) (places_around n c w b t f j hj ps new_places))
      (around_then (subst (λ (y : List ℕ). Around n c (lent w₁ b t) (lent w₁ y t)) (sym x.in_bytes) (ring_around n c w₁ b t f₁ j hj rs new_ring))
      (around_then (subst (λ (y : List ℕ). Around n c (lent w₁ b₁ t) (lent w₁ b₁ y)) (sym x.in_tokens) (tokens_around n c w₁ b₁ t f₂ j hj ts new_tokens))
      (store_around n c w₁ b₁ t₁ f₃ j hj k)))

-- ── The rule ──

refusals : (t : Table) (a b d : Bool) (o : Outcome) (e : ℕ) → ◌≡◌ {A = ℕ} (cond a 8 (cond b 2 (cond d 11 0))) e → e ≢ 0 → refuse_if a 8 t (refuse_if b 2 t (refuse_if d 11 t o)) ≡ refuse t e
unfolding refuse_if
refusals t true b d o e z ne = ap (refuse t) z
refusals t false true d o e z ne = ap (refuse t) z
refusals t false false true o e z ne = ap (refuse t) z
refusals t false false false o e z ne = absurd (ne (sym z))

module _ (t : Table) (p h : ℕ) (i : model.Inbox) (x y : Bool) (q : Inbox) (sz : Sized i q) (buf its : List ℕ) where
  pub send_refused : (e : ℕ) → push_no t.capacity (count q) (length buf) q.items (length its) ≡ e → e ≢ 0 → send t p buf its (model.State.Connected h i x y) ≡ refuse t e
  unfolding send push_no
  send_refused e z ne =
      refusals t (leb t.capacity (length i.bytes)) (not (is_nil its) && is_nil buf) (not (is_nil its) && ltb 256 (length (all_items i.groups) + length its)) _ e
      (rw (sz.bytes, sz.items, some_items its, none_at_all buf) z) ne

  pub send_pushed : MayPush t.capacity q buf its → send t p buf its (model.State.Connected h i x y)
      ≡ answer (become t p (model.State.Connected h (append i (take (t.capacity - count q) buf) its) x y)) (min (t.capacity - count q) (length buf)) (p ∷ []) []
  unfolding send room refuse_if
  send_pushed m =
      let a = may t.capacity q buf its m in
      rw (sz.bytes, sz.items, lt-leb t.capacity (count q) a.0, a.1, a.2) refl

-- ── What the code leaves ──

module _ (n c : ℕ) (w b t : List ℕ) (l : Lists) (buf its : List ℕ) (k : Known n c (lent w b t)) (p : ℕ) (o : open_in n w p ≡ true) (con : Connection)
    (e : state_of (cell_at w (slot_of p)) ≡ Connected con) (v : Result Unit Errno) (ev : refusal_of v ≡ push_no c (count con.inbox) (length buf) con.inbox.items (length its)) (r : Answer) where
  abbrev s : Store
  s = lent w b t

  hd : Held n c (lent w b t) p (slot_of p) con
  hd = held n c s p (slot_of p) con k refl (sym (open_view n c s p) ∙ o) e

  abbrev old : model.Inbox
  old = inbox_in (row_at n c (lent w b t) (slot_of p)) con.inbox

  reached : send (view n c (lent w b t)) p buf its (model.state_of (view n c (lent w b t)) p)
      ≡ send (view n c (lent w b t)) p buf its (model.State.Connected con.peer.0 old con.inbox_closed con.outbox_closed)
  reached = ap (send (view n c s) p buf its) hd.state_is

  refused_at : (x : Errno) → v ≡ Err x → r ≡ refused_with (number_of x) → Sends n c (lent w b t) (lent w b t) p buf its l l r
  unfolding view
  refused_at x ex er =
      record {
        sends = λ call to.
            refused_done _ (number_of x) n c s l r
            (to ∙ reached ∙ send_refused (view n c s) p con.peer.0 old con.inbox_closed con.outbox_closed con.inbox hd.sizes buf its (number_of x) (sym ev ∙ ap refusal_of ex) (number_some x))
            (number_some x) er;
      }

  module _ (m : MayPush c con.inbox buf its) (u : Pushed) (w₁ b₁ t₁ : List ℕ) (x : PushesAt n c (slot_of p) (lent w b t) (lent w₁ b₁ t₁) buf its con.inbox u)
      (lw : length w₁ ≡ length w) (lb : length b₁ ≡ length b) (lt : length t₁ ≡ length t) where
    abbrev new : model.Inbox
    new = inbox.view (part (ring_base c (slot_of p)) c b₁) (part (places_base n (slot_of p)) 256 w₁) (part (tokens_base (slot_of p)) 256 t₁) u.inbox

    abbrev g : ℕ
    g = (cell_at w (slot_of p)).generation

    abbrev row : Row
    row =
        with_cell (cell_of (cell_at w (slot_of p)).generation (Connected (with_inbox con u.inbox)))
        (with_tokens (part (tokens_base (slot_of p)) 256 t₁) (with_ring (part (ring_base c (slot_of p)) c b₁) (with_places (part (places_base n (slot_of p)) 256 w₁) (row_at n c (lent w b t) (slot_of p)))))

    is_con : state_of (row_at n c (lent w b t) (slot_of p)).cell ≡ Connected con
    unfolding row_at
    is_con = hd.is_connected

    same_gen : (cell_at w (slot_of p)).generation ≡ (row_at n c (lent w b t) (slot_of p)).cell.generation
    unfolding row_at
    same_gen = refl

    lr : length (part (ring_base c (slot_of p)) c b) ≡ c
    unfolding row_at
    lr = ring_long n c s k.roomy (slot_of p) hd.within

    lr' : length (part (ring_base c (slot_of p)) c b₁) ≡ c
    lr' = new_ring n c (slot_of p) hd.within w b t w₁ b₁ t₁ buf its k.roomy con.inbox u x lw lb lt

    well_after : Well c (part (places_base n (slot_of p)) 256 w₁) u.inbox
    unfolding row_at
    well_after =
        subst (λ (y : ℕ). Well y (part (places_base n (slot_of p)) 256 w₁) u.inbox) lr'
        (push_keeps _ _ _ _ _ _ buf its con.inbox u (let z = k.roomy.small in omega (arith, lr)) (lr' ∙ sym lr)
        (places_long n c s k.roomy (slot_of p) hd.within)
        (new_places n c (slot_of p) hd.within w b t w₁ b₁ t₁ buf its k.roomy con.inbox u x lw lb lt)
        (tokens_long n c s k.roomy (slot_of p) hd.within)
        (new_tokens n c (slot_of p) hd.within w b t w₁ b₁ t₁ buf its k.roomy con.inbox u x lw lb lt)
        (subst (λ (y : ℕ). Well y (part (places_base n (slot_of p)) 256 w) con.inbox) (sym lr) hd.well)
        (subst (λ (y : ℕ). MayPush y con.inbox buf its) (sym lr) m)
        x.pushes)

    shown : new ≡ append old (take (c - count con.inbox) buf) its
    unfolding row_at
    shown = x.pushes.shows ∙ ap (λ (y : ℕ). append old (take (y - count con.inbox) buf) its) lr

    moves : u.moved ≡ min (c - count con.inbox) (length buf)
    moves = x.pushes.moves ∙ ap (λ (y : ℕ). min (y - count con.inbox) (length buf)) lr

    hidden : hidden_in (Connected (with_inbox con u.inbox)) ≡ inbox_on c (hidden_in (Connected con)) old new
    hidden =
        let nu = x.pushes.numbers in
        let wl = hd.well in
        ap (λ (y : Inbox). hidden_in (Connected (with_inbox con y))) nu
        ∙ come_hidden c con old new u.moved (length its) hd.range (let z = wl.fits in let y = k.roomy.small in omega (arith, moves)) hd.sizes
        (subst (Sized new) nu
        (sized _ _ _ u.inbox
        (new_places n c (slot_of p) hd.within w b t w₁ b₁ t₁ buf its k.roomy con.inbox u x lw lb lt)
        (new_tokens n c (slot_of p) hd.within w b t w₁ b₁ t₁ buf its k.roomy con.inbox u x lw lb lt)
        (subst (λ (y : ℕ). InRange y u.inbox) (sym lr') (in-range well_after))))

    pushed_at : (w₂ : List ℕ) → w₂ ≡ store_at w₁ (slot_of p) (cell_of (cell_at w (slot_of p)).generation (Connected (with_inbox con u.inbox))) → r ≡ accepted_with u.moved 1
        → Sends n c (lent w b t) (lent w₂ b₁ t₁) p buf its l (lists (set l.wakes 0 p) l.releases) r
    unfolding view
    pushed_at w₂ ew er =
        record {
          sends = λ call to.
              let tb : Table = view n c s in
              let r₀ : Row = row_at n c s (slot_of p) in
              let o_is : run tb call ≡ answer (become tb p (model.State.Connected con.peer.0 new con.inbox_closed con.outbox_closed)) u.moved (p ∷ []) [] =
              to ∙ reached
              ∙ send_pushed tb p con.peer.0 old con.inbox_closed con.outbox_closed con.inbox hd.sizes buf its m
              ∙ ap₂ (λ (i : model.Inbox) (d : ℕ). answer (become tb p (model.State.Connected con.peer.0 i con.inbox_closed con.outbox_closed)) d (p ∷ []) []) (sym shown) (sym moves) in
              accepted_done (run tb call) _ u.moved (p ∷ []) n c s (lent w₂ b₁ t₁) l (lists (set l.wakes 0 p) l.releases) r o_is
              (row_stored n c s (lent w₂ b₁ t₁) call (slot_of p) row k hd.within
              (ap (λ (y : List ℕ). rows n c (lent y b₁ t₁)) ew ∙ pushed_rows n c (slot_of p) hd.within w b t w₁ b₁ t₁ buf its k.roomy con.inbox u x lw lb lt _)
              (subst (λ (y : List ℕ). Around n c s (lent y b₁ t₁)) (sym ew) (pushed_around n c (slot_of p) hd.within w b t w₁ b₁ t₁ buf its k.roomy con.inbox u x lw lb lt _))
              (ap (λ (y : Outcome). y.next) o_is ∙ connected_put r₀ row g con (with_inbox con u.inbox) is_con refl refl tb p (slot_of p) refl hd.shown)
              (connected_fit r₀ row g con (with_inbox con u.inbox) is_con refl n c (placed_same con (with_inbox con u.inbox) refl refl hd.says) (in-range well_after) refl hidden)
              (connected_keeps r₀ row g con (with_inbox con u.inbox) is_con refl refl same_gen refl))
              refl refl er;
        }

-- ── As the code has it ──

module _ {n c : ℕ} {w b t : List ℕ} {u v : ℕ} (a : Admitted n c (lent w b t) u v) (p : ℕ) (o : open_in n w p ≡ true) (j : ℕ) (ej : j ≡ slot_of p) where
  abbrev st : Store
  st = lent w b t

  op : Opened n c (lent w b t) p
  op = opened n c st p (sym (open_view n c st p) ∙ o)

  pub peer_less : j < n
  peer_less = let z = op.within in omega arith

  module _ (slot : Slot) (es : slot ≡ loaded_at w j) where
    pub sends_damaged : (buf its : List ℕ) (l : Lists) (r : Answer) → Unconnected slot.state → r ≡ refused_with 19
        → Sends n c (lent w b t) (lent w b t) p buf its l l r
    unfolding send
    sends_damaged buf its l r k er =
        let seen : model.state_of (view n c st) p ≡ (show_in (row_at n c st (slot_of p)) (cell_at w (slot_of p)).generation slot.state).state =
        state_seen n c st p slot.state op.within (sym (loaded_state w ej es)) in
        record {
          sends = λ call to.
              refused_done _ 19 n c st l r
              (to ∙ ap (send (view n c st) p buf its) seen
              ∙ unconnected (λ σ. send (view n c st) p buf its σ ≡ refuse (view n c st) 19) refl (λ m. refl) (λ m d q. refl) (row_at n c st (slot_of p)) (cell_at w (slot_of p)).generation slot.state k)
              (λ z. omega arith) er;
        }

    module _ (con : Connection) (ec : slot.state ≡ Connected con) where
      at_slot : state_of (cell_at w (slot_of p)) ≡ Connected con
      at_slot = sym (loaded_state w ej es) ∙ ec

      at_hand : Held n c (lent w b t) p (slot_of p) con
      at_hand = held n c st p (slot_of p) con (known a) refl (sym (open_view n c st p) ∙ o) at_slot

      pub push_fits : (count con.inbox ≤ c) × (con.inbox.items ≤ 256)
      push_fits = let z = at_hand.well in (z.fits, z.items-in)

      pub push_well : Well c (part (places_base n j) 256 w) con.inbox
      unfolding row_at
      push_well = subst (λ (i : ℕ). Well c (part (places_base n i) 256 w) con.inbox) (sym ej) at_hand.well

      module _ (buf its : List ℕ) (d : Result Unit Errno) (ed : refusal_of d ≡ push_no c (count con.inbox) (length buf) con.inbox.items (length its)) where
        pub sends_refused : (l : Lists) (r : Answer) (x : Errno) → d ≡ Err x → r ≡ refused_with (number_of x) → Sends n c (lent w b t) (lent w b t) p buf its l l r
        sends_refused l r x ex er = refused_at n c w b t l buf its (known a) p o con at_slot d ed r x ex er

        module _ (yes : d ≡ Ok tt) where
          pub push_may : MayPush c con.inbox buf its
          push_may = sym ed ∙ ap refusal_of yes

          pub sends_pushed : (l : Lists) (r : Answer) (q : Pushed) (w₁ b₁ t₁ w₂ : List ℕ) → PushesAt n c j (lent w b t) (lent w₁ b₁ t₁) buf its con.inbox q
              → length w₁ ≡ length w → length b₁ ≡ length b → length t₁ ≡ length t
              → w₂ ≡ store_at w₁ j (cell_of slot.generation (Connected (with_inbox con q.inbox))) → r ≡ accepted_with q.moved 1
              → Sends n c (lent w b t) (lent w₂ b₁ t₁) p buf its l (lists (set l.wakes 0 p) l.releases) r
          sends_pushed l r q w₁ b₁ t₁ w₂ x lw lb lt ew er =
              pushed_at n c w b t l buf its (known a) p o con at_slot d ed r push_may q w₁ b₁ t₁
              (subst (λ (i : ℕ). PushesAt n c i (lent w b t) (lent w₁ b₁ t₁) buf its con.inbox q) ej x) lw lb lt w₂
              (ew ∙ ap₂ (λ (i : ℕ) (g : ℕ). store_at w₁ i (cell_of g (Connected (with_inbox con q.inbox)))) ej (loaded_generation w ej es)) er

-- ── sendmsg ──

module _ {n c : ℕ} {w b t : List ℕ} {u v : ℕ} (a : Admitted n c (lent w b t) u v) (h : ℕ) (f : Bool) (ef : f ≡ live_in n w h) (buf its : List ℕ) where
  abbrev sending : Outcome
  sending = run (view n c (lent w b t)) (Call.Sendmsg h buf its)

  pub sendmsg_stale : (l : Lists) (r : Answer) → not f ≡ true → r ≡ refused_with 1 → Done sending n c (lent w b t) (lent w b t) l l r
  unfolding run
  sendmsg_stale l r z er = refused_done _ 1 n c (lent w b t) l r (stale_run n c (lent w b t) h f _ ef z) (λ y. omega arith) er

  module _ (yes : not f ≡ false) where
    lv : Live n c (lent w b t) h
    lv = live n c (lent w b t) h f ef yes

    sending_is : sending ≡ do_send (view n c (lent w b t)) buf its (model.state_of (view n c (lent w b t)) h)
    unfolding run
    sending_is = live_run n c (lent w b t) h _ lv

    module _ (i : ℕ) (ei : i ≡ slot_of h) (slot : Slot) (es : slot ≡ loaded_at w i) where
      here : state_of (cell_at w (slot_of h)) ≡ slot.state
      here = sym (loaded_state w ei es)

      state-of : model.state_of (view n c (lent w b t)) h ≡ (show_in (row_at n c (lent w b t) (slot_of h)) (cell_at w (slot_of h)).generation slot.state).state
      state-of = state_seen n c (lent w b t) h slot.state lv.within here

      pub sendmsg_apart : (l : Lists) (r : Answer) → Unconnected slot.state → r ≡ refused_with 9 → Done sending n c (lent w b t) (lent w b t) l l r
      unfolding do_send
      sendmsg_apart l r k er =
          let tb = view n c (lent w b t) in
          refused_done _ 9 n c (lent w b t) l r
          (sending_is ∙ ap (do_send tb buf its) state-of
          ∙ unconnected (λ σ. do_send tb buf its σ ≡ refuse tb 9) refl (λ m. refl) (λ m d q. refl) (row_at n c (lent w b t) (slot_of h)) (cell_at w (slot_of h)).generation slot.state k)
          (λ z. omega arith) er

      module _ (con : Connection) (ec : slot.state ≡ Connected con) where
        connected_is : sending ≡ refuse_if (con.outbox_closed || not (is_open (view n c (lent w b t)) con.peer.0)) 10 (view n c (lent w b t))
            (send (view n c (lent w b t)) con.peer.0 buf its (model.state_of (view n c (lent w b t)) con.peer.0))
        unfolding do_send show_in
        connected_is =
            sending_is ∙ ap (do_send (view n c (lent w b t)) buf its) (state-of ∙ ap (λ (σ : State). (show_in (row_at n c (lent w b t) (slot_of h)) (cell_at w (slot_of h)).generation σ).state) ec)

        pub sendmsg_shut : (l : Lists) (r : Answer) → con.outbox_closed ≡ true → r ≡ refused_with 10 → Done sending n c (lent w b t) (lent w b t) l l r
        unfolding refuse_if
        sendmsg_shut l r z er = refused_done _ 10 n c (lent w b t) l r (connected_is ∙ rw z refl) (λ y. omega arith) er

        module _ (open' : con.outbox_closed ≡ false) (g : Bool) (eg : g ≡ open_in n w con.peer.0) where
          gone : is_open (view n c (lent w b t)) con.peer.0 ≡ g
          gone = sym (open_view n c (lent w b t) con.peer.0) ∙ sym eg

          pub sendmsg_gone : (l : Lists) (r : Answer) → not g ≡ true → r ≡ refused_with 10 → Done sending n c (lent w b t) (lent w b t) l l r
          unfolding refuse_if
          sendmsg_gone l r z er = refused_done _ 10 n c (lent w b t) l r (connected_is ∙ rw (open', gone, z) refl) (λ y. omega arith) er

          module _ (z : not g ≡ false) where
            pub sendmsg_sends : (l l' : Lists) (r : Answer) (s' : Store) → Sends n c (lent w b t) s' con.peer.0 buf its l l' r → Done sending n c (lent w b t) s' l l' r
            unfolding refuse_if
            sendmsg_sends l l' r s' x = x.sends (Call.Sendmsg h buf its) (connected_is ∙ rw (open', gone, z) refl)

-- ── write ──

pub write_sends : (n c : ℕ) (s s' : Store) (h : ℕ) (buf : List ℕ) (l l' : Lists) (r : Answer) → Done (run (view n c s) (Call.Sendmsg h buf [])) n c s s' l l' r
    → Done (run (view n c s) (Call.Write h buf)) n c s s' l l' r
unfolding run
write_sends n c s s' h buf l l' r d = d
