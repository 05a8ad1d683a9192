-- Parts that are lent, and parts that have come back.
use mathlib.Core.Path.{◌≡◌, sym, ap, ◌∙◌}
use mathlib.Core.List.{List, ◌++◌, append_assoc}
use Prim.Native.Nat.{ℕ, ◌+◌, ◌-◌, ◌≤◌, ◌<◌}
use native.Mathlib.Omega.{arith}
use lib.ListN.{length, take, drop}
use lib.Seq.{paste, take_all, drop-drop}
use borrow.Rule.Slice.PartMut.{put_mid}
use Rattle.inbox.specs.Promise.{Pushes, Takes}
use Rattle.inbox.specs.declared.Inbox.{Inbox}
use Rattle.inbox.specs.declared.Pushed.{Pushed}
use Rattle.inbox.specs.declared.Taken.{Taken}
use Rattle.rules.specs.Moving.{Policy}
use Rattle.storage.specs.Layout.{part, places_base, ring_base, tokens_base}
use Rattle.storage.specs.Rows.{lent, Roomy}
use Rattle.storage.specs.Inboxes.{PushesAt}
use Rattle.storage.proofs.Framing.{places_end, ring_end, tokens_end}
use Rattle.storage.proofs.Pasted.{length_part, part_here}

-- the length of `a..a + k` as the code has it
pub span : (a k : ℕ) → a + k - a ≡ k
span a k = omega arith

pub mid-paste : (l ys : List ℕ) (a k : ℕ) → length ys ≡ k → put_mid a (a + k - a) l ys ≡ paste l a ys k
mid-paste l ys a k e =
    ap (λ (x : ℕ). take a l ++ (ys ++ drop x (drop a l))) (span a k)
    ∙ ap (λ (x : List ℕ). take a l ++ (ys ++ x)) (drop-drop k a l)
    ∙ sym (append_assoc (take a l) ys (drop (a + k) l))
    ∙ ap (λ (x : List ℕ). take a l ++ x ++ drop (a + k) l) (sym (take_all k ys (omega arith)))

-- ── An inbox's rings ──

pub length-lent : (l : List ℕ) (a k : ℕ) → a + k ≤ length l → length (part a (a + k - a) l) ≡ k
length-lent l a k h = ap (λ (x : ℕ). length (part a x l)) (span a k) ∙ length_part a k l h

pub takes_at : (bytes words tokens buf buf' : List ℕ) (policy : Policy) (items items' releases releases' : List ℕ) (a c p t : ℕ) (q : Inbox) (r : Taken)
    → Takes (part a (a + c - a) bytes) (part p (p + 256 - p) words) (part t (t + 256 - t) tokens) buf buf' policy items items' releases releases' q r
    → Takes (part a c bytes) (part p 256 words) (part t 256 tokens) buf buf' policy items items' releases releases' q r
takes_at bytes words tokens buf buf' policy items items' releases releases' a c p t q r x = rw (span a c, span p 256, span t 256) at x

pub pushes_at : {n c i : ℕ} {w b t buf items ps rs ts : List ℕ} {q : Inbox} {r : Pushed} → i < n → Roomy n c (lent w b t)
    → length ps ≡ length (part (places_base n i) (places_base n i + 256 - places_base n i) w)
    → length rs ≡ length (part (ring_base c i) (ring_base c i + c - ring_base c i) b)
    → length ts ≡ length (part (tokens_base i) (tokens_base i + 256 - tokens_base i) t)
    → Pushes (part (ring_base c i) (ring_base c i + c - ring_base c i) b) rs (part (places_base n i) (places_base n i + 256 - places_base n i) w) ps
    (part (tokens_base i) (tokens_base i + 256 - tokens_base i) t) ts buf items q r
    → PushesAt n c i (lent w b t)
    (lent (put_mid (places_base n i) (places_base n i + 256 - places_base n i) w ps) (put_mid (ring_base c i) (ring_base c i + c - ring_base c i) b rs)
    (put_mid (tokens_base i) (tokens_base i + 256 - tokens_base i) t ts)) buf items q r
pushes_at {n} {c} {i} {w} {b} {t} {buf} {items} {ps} {rs} {ts} {q} {r} h f lp lr lt x =
    let hw = (places_end n c w b t f i h).1 in
    let hb = (ring_end n c w b t f i h).1 in
    let ht = tokens_end n c w b t f i h in
    let lp' : length ps ≡ 256 = lp ∙ length-lent w (places_base n i) 256 hw in
    let lr' : length rs ≡ c = lr ∙ length-lent b (ring_base c i) c hb in
    let lt' : length ts ≡ 256 = lt ∙ length-lent t (tokens_base i) 256 ht in
    let pw = mid-paste w ps (places_base n i) 256 lp' in
    let pb = mid-paste b rs (ring_base c i) c lr' in
    let pt = mid-paste t ts (tokens_base i) 256 lt' in
    let hp = part_here w (places_base n i) ps 256 hw lp' in
    let hr = part_here b (ring_base c i) rs c hb lr' in
    let ht' = part_here t (tokens_base i) ts 256 ht lt' in
    rw (pw, pb, pt)
    (record {
      pushes = rw (hp, hr, ht') (rw (span (ring_base c i) c, span (places_base n i) 256, span (tokens_base i) 256) at x);
      in_words = rw hp;
      in_bytes = rw hr;
      in_tokens = rw ht';
    })
