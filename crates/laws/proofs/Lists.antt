-- Lists, beside `lib.ListN` and `lib.Seq`.
use mathlib.Core.Path.{◌≡◌, sym, ◌∙◌, ap}
use mathlib.Core.List.{List, [], ◌∷◌, ◌++◌, append_assoc}
use Prim.Native.Nat.{ℕ, suc, ◌+◌, ◌<◌}
use native.Mathlib.Numerals.{add-one}
use borrow.Rule.Slice.PartMut.{mid_of, put_mid}
use lib.ListN.{length, get_or, take, drop, set}
use lib.Seq.{take_at, drop_at, drop-cons, set_at}

-- a part that was lent and has come back: what stands before it and after it is as it was
module _ {A : Type 0} (x y z : List A) (a k : ℕ) (before : length x ≡ a) (lent : length y ≡ k) where
  pub mid_is : mid_of a k (x ++ (y ++ z)) ≡ y
  mid_is = ap (take k) (drop_at x (y ++ z) a before) ∙ take_at y z k lent

  pub put_back : (y' : List A) → put_mid a k (x ++ (y ++ z)) y' ≡ x ++ (y' ++ z)
  put_back y' = rw (take_at x (y ++ z) a before, drop_at x (y ++ z) a before, drop_at y z k lent)

-- a list whose first i are new, and one new one more
pub put_next : {A : Type 0} (xs f : List A) (i : ℕ) (a : A) → length xs ≡ i → i < length f → set (xs ++ drop i f) i a ≡ (xs ++ (a ∷ [])) ++ drop (i + 1) f
put_next xs f i a n h =
    ap (λ (l : List _). set (xs ++ l) i a) (drop-cons f i a h) ∙ set_at xs (get_or f i a) (drop (suc i) f) a i n
    ∙ sym (append_assoc xs (a ∷ []) (drop (suc i) f)) ∙ ap (λ (k : ℕ). (xs ++ (a ∷ [])) ++ drop k f) (sym (add-one i))
