-- Document 01, "Lines to be proved, C = 8": the lines on the socket calls, over lent storage. Each starts from making, on any storage that is large enough, comes
-- to its state by calls with any results that the promise allows, and says all that its last call answers and leaves, whatever allowed result that is.
use mathlib.Core.Path.{◌≡◌, refl, sym, ap, ◌∙◌}
use mathlib.Core.Logic.{◌≢◌}
use mathlib.Core.Bool.{Bool, true, ◌&&◌}
use mathlib.Core.List.{List, [], ◌∷◌, ◌++◌, map}
use Prim.Native.Nat.{ℕ, ◌+◌, ◌*◌, ◌≤◌}
use native.Mathlib.Nat.{le_trans, le_of_eq}
use lib.Dec.{leb}
use lib.ListN.{length, drop}
use lib.Seq.{sets}
use borrow.Author.Tests.{leb-true}
use Rattle.laws.specs.All.{All}
use Rattle.laws.proofs.Tests.{and_left, and_right, and_four}
use Rattle.rules.specs.Table.{fresh}
use Rattle.rules.specs.Run.{after}
use Rattle.rules.proofs.Lines as model
use Rattle.rules.proofs.Lines.{Seen, Line, Right, lines, more}
use Rattle.storage.specs.Layout.{sizes_of}
use Rattle.storage.specs.Rows.{Store}
use Rattle.table.specs.Admission.{lists_fit}
use Rattle.cases.specs.Step.{Request, Result}
use Rattle.cases.specs.Made.{Made}
use Rattle.cases.specs.Leads.{buffer_of, items_of, Called, Leads}
use Rattle.cases.proofs.Entries.{front}
use Rattle.cases.proofs.Following.{Stands, called_done, called_fills, from_made}

-- ── The form of a line ──

-- "entries beyond a count stay as they were"
abbrev pub over : (new old : List ℕ) → List ℕ
over new old = new ++ drop (length new) old

-- all that a request is answered, and what it left
pub record Answers (l : Seen) (s : Store) (q : Request) (r : Result) : Type 0 where
  pub refusal : r.answer.refusal ≡ l.no
  pub value : r.answer.value ≡ l.value
  pub flags : r.answer.flags ≡ l.flags
  pub wake_count : r.answer.wakes ≡ length l.wakes
  pub wakes : r.lists.wakes ≡ over l.wakes q.lists.wakes
  pub release_count : r.answer.releases ≡ length l.releases
  pub releases : r.lists.releases ≡ over l.releases q.lists.releases
  pub bytes : r.buf ≡ over l.bytes q.buf
  pub item_count : r.answer.items ≡ length l.items
  pub items : r.items ≡ over l.items q.items
  -- "no lent byte differs"
  pub refused : l.no ≢ 0 → r.store ≡ s

abbrev pub Holds : Line → Type 0
Holds l = (s₀ s : Store) → Made l.slots 8 s₀ → Leads l.slots 8 s₀ l.before s → (k : Called l.slots 8 l.call s) → Answers l.shows s k.request k.result

-- ── What a line shows has room in what is lent ──

abbrev roomy : Line → Bool
roomy l =
    leb (length l.shows.wakes) (l.slots + 1) && leb (length l.shows.releases) (256 * l.slots)
    && leb (length l.shows.bytes) (buffer_of l.call) && leb (length l.shows.items) (items_of l.call)

lists_long : (n c w r : ℕ) → lists_fit n c w r ≡ true → (n + 1 ≤ w) × (256 * n ≤ r)
unfolding lists_fit
lists_long n c w r e =
    (leb-true (sizes_of n c).wakes w (and_left (leb (sizes_of n c).wakes w) (leb (sizes_of n c).releases r) e), leb-true (sizes_of n c).releases r (and_right (leb (sizes_of n c).wakes w) (leb (sizes_of n c).releases r) e))

-- ── A line of the model is a line of the storage ──

holds : (l : Line) → Right l → roomy l ≡ true → Holds l
holds l e f s₀ s m p k =
    let q : Request = k.request in
    let r : Result = k.result in
    let t = after (fresh l.slots 8) l.before in
    let here : Stands l.slots 8 s t = from_made l.slots 8 s₀ s l.before m p in
    let d = called_done l.slots 8 l.call s t here k in
    let g = called_fills l.slots 8 l.call s t here k in
    let fits =
    and_four (leb (length l.shows.wakes) (l.slots + 1)) (leb (length l.shows.releases) (256 * l.slots)) (leb (length l.shows.bytes) (buffer_of l.call))
    (leb (length l.shows.items) (items_of l.call)) f in
    let long = lists_long l.slots 8 (length q.lists.wakes) (length q.lists.releases) k.asks.large in
    record {
      refusal = d.refusal_is ∙ ap (λ (o : Seen). o.no) e;
      value = d.value_is ∙ ap (λ (o : Seen). o.value) e;
      flags = d.flags_are ∙ ap (λ (o : Seen). o.flags) e;
      wake_count = d.wake_count ∙ ap (λ (o : Seen). length o.wakes) e;
      wakes =
          d.wake_list ∙ ap (λ (o : Seen). sets q.lists.wakes 0 o.wakes) e
          ∙ front l.shows.wakes q.lists.wakes (le_trans (leb-true _ _ fits.0) long.0);
      release_count = d.release_count ∙ ap (λ (o : Seen). length o.releases) e;
      releases =
          d.release_list ∙ ap (λ (o : Seen). sets q.lists.releases 0 o.releases) e
          ∙ front l.shows.releases q.lists.releases (le_trans (leb-true _ _ fits.1) long.1);
      bytes =
          g.buffer ∙ ap (λ (o : Seen). sets q.buf 0 o.bytes) e
          ∙ front l.shows.bytes q.buf (le_trans (leb-true _ _ fits.2) (le_of_eq (sym k.asks.buffer)));
      item_count = d.item_count ∙ ap (λ (o : Seen). length o.items) e;
      items =
          g.item_list ∙ ap (λ (o : Seen). sets q.items 0 o.items) e
          ∙ front l.shows.items q.items (le_trans (leb-true _ _ fits.3) (le_of_eq (sym k.asks.item_list)));
      refused = λ z. d.refused (λ y. z (sym (ap (λ (o : Seen). o.no) e) ∙ y));
    }

all_hold : (ls : List Line) → All Right ls → All (λ l. roomy l ≡ true) ls → All Holds ls
all_hold [] a b = tt
all_hold (l ∷ ls) a b = (holds l a.0 b.0, all_hold ls a.1 b.1)

all_roomy : (ls : List Line) → map roomy ls ≡ map (λ l. true) ls → All (λ l. roomy l ≡ true) ls
all_roomy [] e = tt
all_roomy (l ∷ ls) e = (cc, all_roomy ls cc)

-- ── The lines ──

-- document 01's
pub the_lines : All Holds lines
the_lines = all_hold lines model.the_lines (all_roomy lines refl)

-- and our own
pub more_lines : All Holds more
more_lines = all_hold more model.more_lines (all_roomy more refl)
