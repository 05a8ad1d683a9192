-- Unique: two results that a promise allows, from the same storage and request, are equal: the answer, both lists, buffer and item list, and the three slices
-- index by index, except where `excepted` says so. Equal views are not this theorem: heads, totals, a pending server's place and the room past a name are
-- settled too. Making: proofs/UniqueMaking.antt.
use Prim.Native.Nat.{ℕ, ◌^◌, ◌<◌}
use native.Mathlib.Decide.{ℕ_discrete as dec_eq}
use native.Mathlib.Omega.{arith}
use mathlib.Core.Path.{◌≡◌, sym, ap, ap₂, ◌∙◌, subst}
use mathlib.Core.Bool.{Bool, not, ◌&&◌}
use lib.ListN.{length, get_or}
use borrow.Author.Tests.{ne_eqb}
use Rattle.rules.specs.Outcome.{Outcome, refuse_if}
use Rattle.rules.specs.Run.{run, admission, entry}
use Rattle.storage.specs.Rows.{Store, Around}
use Rattle.storage.specs.View.{view}
use Rattle.table.specs.Formed.{formed}
use Rattle.table.specs.Admission.{storage_fits, lists_fit, admits, Admitted}
use Rattle.table.proofs.Facts.{admitted}
use Rattle.promise.specs.Promise.{lists, Stored}
use Rattle.promise.proofs.Answering.{same_answer}
use Rattle.promise.proofs.Known.{Known, known}
use Rattle.cases.specs.Step.{Request, Result, outcome_of, Allowed}
use Rattle.cases.specs.Excepted.{SameBut}
use Rattle.cases.proofs.UniqueCells.{Alike}
use Rattle.cases.proofs.UniqueIndex.{same_but}

-- the words are a slice of u64. A list of numbers does not say so, so both results are asked for it
abbrev pub InU64 : Store → Type 0
InU64 s = (k : ℕ) → get_or s.words k 0 < 2 ^ 64

-- two results of one request with these N and C
pub record Agree (n c : ℕ) (r r' : Result) : Type 0 where
  pub answer : r.answer ≡ r'.answer
  pub lists : r.lists ≡ r'.lists
  pub buf : r.buf ≡ r'.buf
  pub items : r.items ≡ r'.items
  pub store : SameBut n c r.store r'.store

-- ── An accepted call was admitted ──

pub entry_admits : (s : Store) (q : Request) → (outcome_of s q).no ≡ 0 → Admitted q.n q.c s (length q.lists.wakes) (length q.lists.releases)
unfolding entry admits refuse_if
entry_admits s q e =
    admitted q.n q.c s (length q.lists.wakes) (length q.lists.releases)
    (elim (dec_eq x 0) [
      | yes z ↦ z
      | no ne ↦ absurd (ne (subst (λ (b : Bool). (refuse_if b x (view q.n q.c s) (run (view q.n q.c s) q.call)).no ≡ 0) (ap not (ne_eqb x 0 ne)) e))
    ])
  where
    x : ℕ
    x = admission q.n q.c (storage_fits q.n q.c s && lists_fit q.n q.c (length q.lists.wakes) (length q.lists.releases)) (formed q.n q.c s)

-- the storage after it is well-formed and as large
pub after_known : {n c : ℕ} {s s' : Store} {x y : ℕ} {o : Outcome} → Admitted n c s x y → Stored n c s s' o → Known n c s'
after_known {n} {c} {s} {s'} {x} {y} {o} d t =
    let a = t.around in
    let lw = a.words_long in
    let lb = a.bytes_long in
    let lt = a.tokens_long in
    let dw = d.words in
    let db = d.bytes in
    let dt = d.tokens in
    let adm : Admitted n c s' x y =
    record {
      some_slot = d.some_slot;
      few = d.few;
      some_byte = d.some_byte;
      small = d.small;
      words = omega arith;
      bytes = omega arith;
      tokens = omega arith;
      wake_list = d.wake_list;
      release_list = d.release_list;
      is_formed = t.well;
    } in
    known adm

around_both : {n c : ℕ} {s s₁ s₂ : Store} → Around n c s s₁ → Around n c s s₂ → Around n c s₁ s₂
around_both a b =
    record {
      words_long = b.words_long ∙ sym a.words_long;
      bytes_long = b.bytes_long ∙ sym a.bytes_long;
      tokens_long = b.tokens_long ∙ sym a.tokens_long;
      header = b.header ∙ sym a.header;
      beyond_words = b.beyond_words ∙ sym a.beyond_words;
      beyond_bytes = b.beyond_bytes ∙ sym a.beyond_bytes;
      beyond_tokens = b.beyond_tokens ∙ sym a.beyond_tokens;
    }

-- ── The theorem ──

module _ (s : Store) (q : Request) (r r' : Result) (low : InU64 r.store) (low' : InU64 r'.store) (x : Allowed s q r) (x' : Allowed s q r') where
  one_answer : r.answer ≡ r'.answer
  one_answer =
      let p = x.promise in
      let p' = x'.promise in
      same_answer r.answer r'.answer (p.refusal_is ∙ sym p'.refusal_is) (p.flags_are ∙ sym p'.flags_are) (p.value_is ∙ sym p'.value_is) (p.item_count ∙ sym p'.item_count)
      (p.wake_count ∙ sym p'.wake_count) (p.release_count ∙ sym p'.release_count)

  one_lists : r.lists ≡ r'.lists
  one_lists = ap₂ lists (x.promise.wake_list ∙ sym x'.promise.wake_list) (x.promise.release_list ∙ sym x'.promise.release_list)

  pub unique : Agree q.n q.c r r'
  unique =
      elim (dec_eq (outcome_of s q).no 0) [
        | yes z ↦
            let d = entry_admits s q z in
            let t = x.promise.accepted z in
            let t' = x'.promise.accepted z in
            let a : Alike q.n q.c r.store r'.store =
            record {
              left = after_known d t;
              right = after_known d t';
              shown = t.shows ∙ sym t'.shows;
              numbers = λ i h. t.numbers i h ∙ sym (t'.numbers i h);
              low = low;
              low' = low';
            } in
            record {
              answer = one_answer;
              lists = one_lists;
              buf = x.fills.buffer ∙ sym x'.fills.buffer;
              items = x.fills.item_list ∙ sym x'.fills.item_list;
              store = same_but q.n q.c r.store r'.store a (λ i h. t.rooms i h ∙ sym (t'.rooms i h)) (around_both t.around t'.around);
            }
        | no nz ↦
            let e : r.store ≡ r'.store = x.promise.refused nz ∙ sym (x'.promise.refused nz) in
            record {
              answer = one_answer;
              lists = one_lists;
              buf = x.fills.buffer ∙ sym x'.fills.buffer;
              items = x.fills.item_list ∙ sym x'.fills.item_list;
              store =
                  record {
                    words_long = ap (λ (y : Store). length y.words) e;
                    bytes_long = ap (λ (y : Store). length y.bytes) e;
                    tokens_long = ap (λ (y : Store). length y.tokens) e;
                    words = λ k _. ap (λ (y : Store). get_or y.words k 0) e;
                    bytes = λ k _. ap (λ (y : Store). get_or y.bytes k 0) e;
                    tokens = λ k _. ap (λ (y : Store). get_or y.tokens k 0) e;
                  };
            }
      ]
