-- A handle that the entries take, and one that they do not.
use mathlib.Core.Path.{◌≡◌, refl, sym, ap, ◌∙◌}
use mathlib.Core.Logic.{◌≢◌}
use mathlib.Core.Bool.{Bool, true, false, not, false≢true}
use mathlib.Core.List.{List, [], ◌∷◌}
use Prim.Native.Nat.{ℕ, suc, ◌≤◌, ◌<◌}
use native.Mathlib.Omega.{arith}
use lib.Dec.{ltb, eqb}
use lib.ListN.{length}
use borrow.Author.Tests.{not-true, not-false, eqb-true, ltb-true, le-ltb, lt-ltb}
use Rattle.laws.proofs.Tests.{and_left, and_right, and_three}
use Rattle.rules.specs.Table as model
use Rattle.rules.specs.Table.{slot_of, handle, is_open, is_live}
use Rattle.rules.specs.Inbox.{is_nil}
use Rattle.rules.specs.Outcome.{Outcome, refuse, refuse_if}
use Rattle.rules.specs.Run.{on_live, on_name}
use Rattle.storage.specs.Cells.{cell_at, state_of}
use Rattle.storage.specs.Rows.{Store, row_at}
use Rattle.storage.specs.View.{view, show_in}
use Rattle.storage.specs.Finding.{occupied, waiting, open_in, live_in}
use Rattle.storage.specs.declared.State.{State}
use Rattle.storage.specs.declared.State.TheVariants.{Closed}
use Rattle.storage.proofs.Viewed.{open_view, live_view, seen}

-- ── An open handle, pending or not ──

pub record Opened (n c : ℕ) (s : Store) (h : ℕ) : Type 0 where
  pub within : slot_of h < n
  pub opened : is_open (view n c s) h ≡ true
  pub whole : handle (cell_at s.words (slot_of h)).generation (slot_of h) ≡ h
  pub used : occupied (state_of (cell_at s.words (slot_of h))) ≡ true

pub opened : (n c : ℕ) (s : Store) (h : ℕ) → is_open (view n c s) h ≡ true → Opened n c s h
unfolding open_in
opened n c s h e =
    let o : open_in n s.words h ≡ true = open_view n c s h ∙ e in
    let p = and_three (ltb (slot_of h) n) (eqb (handle (cell_at s.words (slot_of h)).generation (slot_of h)) h) (occupied (state_of (cell_at s.words (slot_of h)))) o in
    record {
      within = ltb-true (slot_of h) n p.0;
      opened = e;
      whole = eqb-true (handle (cell_at s.words (slot_of h)).generation (slot_of h)) h p.1;
      used = p.2;
    }

-- ── The socket of a live handle ──

pub record Live (n c : ℕ) (s : Store) (h : ℕ) : Type 0 where
  pub within : slot_of h < n
  pub lives : is_live (view n c s) h ≡ true
  pub opened : is_open (view n c s) h ≡ true
  pub whole : handle (cell_at s.words (slot_of h)).generation (slot_of h) ≡ h
  pub used : occupied (state_of (cell_at s.words (slot_of h))) ≡ true
  pub given : waiting (state_of (cell_at s.words (slot_of h))) ≡ false

pub live : (n c : ℕ) (s : Store) (h : ℕ) (r : Bool) → r ≡ live_in n s.words h → not r ≡ false → Live n c s h
unfolding live_in
live n c s h r e d =
    let yes : live_in n s.words h ≡ true = sym e ∙ not-false r d in
    let o : open_in n s.words h ≡ true = and_left (open_in n s.words h) (not (waiting (state_of (cell_at s.words (slot_of h))))) yes in
    let p = opened n c s h (sym (open_view n c s h) ∙ o) in
    record {
      within = p.within;
      lives = sym (live_view n c s h) ∙ yes;
      opened = p.opened;
      whole = p.whole;
      used = p.used;
      given = not-true _ (and_right (open_in n s.words h) (not (waiting (state_of (cell_at s.words (slot_of h))))) yes);
    }

-- no live socket is closed, and a connected one waits for nothing
pub not_closed : {A : Type 0} (n c : ℕ) (s : Store) (h : ℕ) → Live n c s h → state_of (cell_at s.words (slot_of h)) ≡ Closed → A
not_closed n c s h l e = absurd (false≢true (sym (ap occupied e) ∙ l.used))

-- ── The state that the model sees ──

pub state_seen : (n c : ℕ) (s : Store) (h : ℕ) (σ : State) → slot_of h < n → state_of (cell_at s.words (slot_of h)) ≡ σ
    → model.state_of (view n c s) h ≡ (show_in (row_at n c s (slot_of h)) (cell_at s.words (slot_of h)).generation σ).state
unfolding model.state_of
state_seen n c s h σ l e = ap (λ (x : model.Slot). x.state) (seen n c s (slot_of h) σ l e)

-- ── The order of refusals: the handle, then the name ──

pub stale_run : (n c : ℕ) (s : Store) (h : ℕ) (r : Bool) (o : Outcome) → r ≡ live_in n s.words h → not r ≡ true → on_live (view n c s) h o ≡ refuse (view n c s) 1
unfolding on_live refuse_if
stale_run n c s h r o e d = rw (sym (live_view n c s h) ∙ sym e ∙ not-true r d)

pub live_run : (n c : ℕ) (s : Store) (h : ℕ) (o : Outcome) → Live n c s h → on_live (view n c s) h o ≡ o
unfolding on_live refuse_if
live_run n c s h o l = rw l.lives

pub stale_name : (n c : ℕ) (s : Store) (h : ℕ) (r : Bool) (m : List ℕ) (o : Outcome) → r ≡ live_in n s.words h → not r ≡ true → on_name (view n c s) h m o ≡ refuse (view n c s) 1
unfolding on_name
stale_name n c s h r m o e d = stale_run n c s h r _ e d

module _ (n c : ℕ) (s : Store) (h : ℕ) (l : Live n c s h) (o : Outcome) where
  empty_name : (m : List ℕ) → length m ≡ 0 → is_nil m ≡ true
  unfolding is_nil
  empty_name [] e = refl
  empty_name (x ∷ m) e = absurd (let z : suc (length m) ≡ 0 = e in omega arith)

  some_name : (m : List ℕ) → length m ≢ 0 → is_nil m ≡ false
  unfolding is_nil
  some_name [] e = absurd (e refl)
  some_name (x ∷ m) e = refl

  pub no_name : (m : List ℕ) → length m ≡ 0 → on_name (view n c s) h m o ≡ refuse (view n c s) 2
  unfolding on_name refuse_if
  no_name m e = live_run n c s h _ l ∙ rw (empty_name m e)

  pub long_name : (m : List ℕ) → length m ≢ 0 → 255 < length m → on_name (view n c s) h m o ≡ refuse (view n c s) 17
  unfolding on_name refuse_if
  long_name m e g = live_run n c s h _ l ∙ rw (some_name m e, lt-ltb 255 (length m) g)

  pub named_run : (m : List ℕ) → length m ≢ 0 → length m ≤ 255 → on_name (view n c s) h m o ≡ o
  unfolding on_name refuse_if
  named_run m e g = live_run n c s h _ l ∙ rw (some_name m e, le-ltb 255 (length m) g)
