-- The definition (section 3) and the syntax (section 4) agree: every UTF-8 string passes, and whatever passes is one.
use mathlib.Core.Path.{◌≡◌, refl, ◌∙◌, ap}
use mathlib.Core.Bool.{Bool, true, false, cond, false≢true}
use mathlib.Core.List.{List, [], ◌∷◌, ◌++◌}
use mathlib.Core.Logic.{◌↔◌, ◌⊎◌, inl, inr, ⊎_elim}
use Prim.Native.Nat.{ℕ, zero, suc, ◌+◌, ◌-◌, ◌*◌, ◌/◌, ◌%◌, ◌<◌, ◌≤◌}
use native.Mathlib.Omega.{arith}
use borrow.Author.Tests.{leb-true}
use lib.Dec.{leb}
use lib.ListN.{length, length-append}
use Rattle.laws.specs.All.{All}
use Rattle.laws.proofs.Tests.{and_left, and_right, less_or}
use Rattle.utf8.specs.Rfc3629.{Utf8, is_scalar, encode, encodes, all_scalar}
use Rattle.utf8.specs.Syntax.{Range, Row, octets, has, rows, starts, follow, passes, tail, is_utf8}
use Rattle.utf8.proofs.Passing.{inside}
use Rattle.utf8.proofs.Rows.{In, ascii, C2-DF, E0, ED, E1-EF, F0, F1-F3, F4}
use Rattle.utf8.proofs.Encode.{low_scalar, high_scalar, scalar_is, Width, width, encode_1, encode_2, encode_3, encode_4}

-- ── Every UTF-8 string passes ──

-- each octet in its range
abbrev Match : List Range → List ℕ → Type 0
Match [] [] = Unit {0}
Match [] (b ∷ bs) = ⊥
Match (r ∷ rs) [] = ⊥
Match (r ∷ rs) (b ∷ bs) = (has r b ≡ true) × Match rs bs

taken : (rs : List Range) (bs s : List ℕ) → Match rs bs → passes rs (bs ++ s) ≡ passes [] s
unfolding passes
taken [] [] s m = refl
taken [] (b ∷ bs) s m = absurd m
taken (r ∷ rs) [] s m = absurd m
taken (r ∷ rs) (b ∷ bs) s m = rw m.0 (taken rs bs s m.1)

char : (b : ℕ) (bs s : List ℕ) {rs : List Range} → In b rs → Match rs bs → passes [] (b ∷ bs ++ s) ≡ passes [] s
unfolding passes
char b bs s {rs} i m = rw (i.begins, i.then) (taken rs bs s m)

tails : (x : ℕ) → has tail (0x80 + x % 0x40) ≡ true
tails x = inside 0x80 0xBF (0x80 + x % 0x40) (omega arith) (omega arith)

-- three and four octets: the range of the second goes by the first
three_octets : (n : ℕ) (s : List ℕ) → 0x800 ≤ n → n < 0x10000 → (n < 0xD800) ⊎ (0xDFFF < n) → passes [] (encode n ++ s) ≡ passes [] s
three_octets n s h k sc = rw (encode_3 n h k) (⊎_elim at_E0 (λ a. ⊎_elim (λ b. ⊎_elim (at_others a) (at_ED b) (less_or n 0xD000)) (λ b. others (λ e. omega arith) (λ e. omega arith)) sc) (less_or n 0x1000))
  where
    Goal : Type 0
    Goal = passes [] ((0xE0 + n / 0x1000) ∷ (0x80 + n / 0x40 % 0x40) ∷ (0x80 + n % 0x40) ∷ s) ≡ passes [] s

    bs : List ℕ
    bs = (0x80 + n / 0x40 % 0x40) ∷ (0x80 + n % 0x40) ∷ []

    at_E0 : n < 0x1000 → Goal
    at_E0 l = char _ bs s (E0 (omega arith)) (inside 0xA0 0xBF _ (omega arith) (omega arith), (tails n, tt))

    others : (0xE0 + n / 0x1000 ≡ 0xE0 → ⊥) → (0xE0 + n / 0x1000 ≡ 0xED → ⊥) → Goal
    others a b = char _ bs s (E1-EF _ (omega arith) a b (omega arith)) (tails (n / 0x40), (tails n, tt))

    at_others : 0x1000 ≤ n → n < 0xD000 → Goal
    at_others a b = others (λ e. omega arith) (λ e. omega arith)

    at_ED : n < 0xD800 → 0xD000 ≤ n → Goal
    at_ED a b = char _ bs s (ED (omega arith)) (inside 0x80 0x9F _ (omega arith) (omega arith), (tails n, tt))

four_octets : (n : ℕ) (s : List ℕ) → 0x10000 ≤ n → n < 0x110000 → passes [] (encode n ++ s) ≡ passes [] s
four_octets n s h k = rw (encode_4 n h) (⊎_elim at_F0 (λ a. ⊎_elim (at_others a) at_F4 (less_or n 0x100000)) (less_or n 0x40000))
  where
    Goal : Type 0
    Goal = passes [] ((0xF0 + n / 0x40000) ∷ (0x80 + n / 0x1000 % 0x40) ∷ (0x80 + n / 0x40 % 0x40) ∷ (0x80 + n % 0x40) ∷ s) ≡ passes [] s

    bs : List ℕ
    bs = (0x80 + n / 0x1000 % 0x40) ∷ (0x80 + n / 0x40 % 0x40) ∷ (0x80 + n % 0x40) ∷ []

    at_F0 : n < 0x40000 → Goal
    at_F0 l = char _ bs s (F0 (omega arith)) (inside 0x90 0xBF _ (omega arith) (omega arith), (tails (n / 0x40), (tails n, tt)))

    at_others : 0x40000 ≤ n → n < 0x100000 → Goal
    at_others a b = char _ bs s (F1-F3 _ (omega arith) (omega arith)) (tails (n / 0x1000), (tails (n / 0x40), (tails n, tt)))

    at_F4 : 0x100000 ≤ n → Goal
    at_F4 a = char _ bs s (F4 (omega arith)) (inside 0x80 0x8F _ (omega arith) (omega arith), (tails (n / 0x40), (tails n, tt)))

encoded : (n : ℕ) (s : List ℕ) → is_scalar n ≡ true → passes [] (encode n ++ s) ≡ passes [] s
encoded n s e = go (width n)
  where
    go : Width n → passes [] (encode n ++ s) ≡ passes [] s
    go (Width.one h) = rw (encode_1 n h) (char n [] s (ascii n h) tt)
    go (Width.two h k) = rw (encode_2 n h k) (char _ ((0x80 + n % 0x40) ∷ []) s (C2-DF _ (omega arith) (omega arith)) (tails n, tt))
    go (Width.three h k) = three_octets n s h k (⊎_elim inl (λ c. inr c.0) (scalar_is n e))
    go (Width.four h) = four_octets n s h (⊎_elim (λ c. omega arith) (λ c. c.1) (scalar_is n e))

encodes_pass : (ns : List ℕ) → all_scalar ns ≡ true → passes [] (encodes ns) ≡ true
unfolding encodes all_scalar passes
encodes_pass [] e = refl
encodes_pass (n ∷ ns) e = encoded n (encodes ns) (and_left _ _ e) ∙ encodes_pass ns (and_right (is_scalar n) _ e)

pub complete : (s : List ℕ) → Utf8 s → is_utf8 s ≡ true
unfolding is_utf8
complete s u = rw (← u.is) (encodes_pass u.scalars u.each)

-- ── Whatever passes is UTF-8 ──

-- a value whose encoding these octets are
record Value (bs : List ℕ) : Type 0 where
  scalar : ℕ
  fine : is_scalar scalar ≡ true
  is : encode scalar ≡ bs

-- the octets that were due, and what passes after them
record Taken (rs : List Range) (s : List ℕ) : Type 0 where
  octs : List ℕ
  left : List ℕ
  split : octs ++ left ≡ s
  each : Match rs octs
  on : passes [] left ≡ true

apart : (rs : List Range) (s : List ℕ) → passes rs s ≡ true → Taken rs s
unfolding passes
apart [] s p = record { octs = []; left = s; split = refl; each = tt; on = p }
apart (r ∷ rs) [] p = absurd (false≢true p)
apart (r ∷ rs) (b ∷ s) p =
    let t = apart rs s (and_right (has r b) _ p) in
    record { octs = b ∷ t.octs; left = t.left; split = ap (λ (l : List ℕ). b ∷ l) t.split; each = (and_left _ _ p, t.each); on = t.on }

told : (a z x : ℕ) → has (octets a z) x ≡ true → (a ≤ x) × (x ≤ z)
unfolding has
told a z x e = (leb-true a x (and_left _ _ e), leb-true x z (and_right (leb a x) _ e))

-- two, three and four octets, from what their ranges say
two : (b c : ℕ) → (0xC2 ≤ b) × (b ≤ 0xDF) → (0x80 ≤ c) × (c ≤ 0xBF) → Value (b ∷ c ∷ [])
two b c p q =
    let n : ℕ = (b - 0xC0) * 0x40 + (c - 0x80) in
    let e : 0xC0 + n / 0x40 ≡ b = omega arith in
    let f : 0x80 + n % 0x40 ≡ c = omega arith in
    record { scalar = n; fine = low_scalar n (omega arith); is = encode_2 n (omega arith) (omega arith) ∙ rw (e, f) }

module _ (b c d : ℕ) (p : (0xE0 ≤ b) × (b ≤ 0xEF)) (q : (0x80 ≤ c) × (c ≤ 0xBF)) (r : (0x80 ≤ d) × (d ≤ 0xBF)) where
  value_3 : ℕ
  value_3 = (b - 0xE0) * 0x1000 + (c - 0x80) * 0x40 + (d - 0x80)

  three : 0x800 ≤ value_3 → (value_3 < 0xD800) ⊎ (0xDFFF < value_3) → Value (b ∷ c ∷ d ∷ [])
  unfolding value_3
  three h s =
      let n : ℕ = (b - 0xE0) * 0x1000 + (c - 0x80) * 0x40 + (d - 0x80) in
      let e : 0xE0 + n / 0x1000 ≡ b = omega arith in
      let f : 0x80 + n / 0x40 % 0x40 ≡ c = omega arith in
      let g : 0x80 + n % 0x40 ≡ d = omega arith in
      record { scalar = n; fine = ⊎_elim (low_scalar n) (λ m. high_scalar n m (omega arith)) s; is = encode_3 n h (omega arith) ∙ rw (e, f, g) }

module _ (b c d e : ℕ) (p : (0xF0 ≤ b) × (b ≤ 0xF4)) (q : (0x80 ≤ c) × (c ≤ 0xBF)) (r : (0x80 ≤ d) × (d ≤ 0xBF)) (s : (0x80 ≤ e) × (e ≤ 0xBF)) where
  value_4 : ℕ
  value_4 = (b - 0xF0) * 0x40000 + (c - 0x80) * 0x1000 + (d - 0x80) * 0x40 + (e - 0x80)

  four : 0x10000 ≤ value_4 → value_4 < 0x110000 → Value (b ∷ c ∷ d ∷ e ∷ [])
  unfolding value_4
  four h k =
      let n : ℕ = (b - 0xF0) * 0x40000 + (c - 0x80) * 0x1000 + (d - 0x80) * 0x40 + (e - 0x80) in
      let f : 0xF0 + n / 0x40000 ≡ b = omega arith in
      let g : 0x80 + n / 0x1000 % 0x40 ≡ c = omega arith in
      let i : 0x80 + n / 0x40 % 0x40 ≡ d = omega arith in
      let j : 0x80 + n % 0x40 ≡ e = omega arith in
      record { scalar = n; fine = high_scalar n (omega arith) k; is = encode_4 n h ∙ rw (f, g, i, j) }

-- what holds of each row that has b holds of the row that b is in
which : (P : List Range → Type 0) (b : ℕ) (rs : List Row) → All (λ r. has r.first b ≡ true → P r.rest) rs → starts rs b ≡ true → P (follow rs b)
unfolding starts follow
which P b [] f e = absurd (false≢true e)
which P b (r ∷ rs) f e = go (which P b rs f.1) (has r.first b) refl
  where
    go : (starts rs b ≡ true → P (follow rs b)) → (h : Bool) → has r.first b ≡ h → P (cond h r.rest (follow rs b))
    go others true p = f.0 p
    go others false p = others (rw p at e)

-- a character of each row
module _ (b : ℕ) where
  abbrev Reads : List Range → Type 0
  Reads rs = (bs : List ℕ) → Match rs bs → Value (b ∷ bs)

  reads_1 : has (octets 0x00 0x7F) b ≡ true → Reads []
  reads_1 h [] m = let p = told 0x00 0x7F b h in record { scalar = b; fine = low_scalar b (omega arith); is = encode_1 b (omega arith) }
  reads_1 h (c ∷ bs) m = absurd m

  reads_2 : has (octets 0xC2 0xDF) b ≡ true → Reads (tail ∷ [])
  reads_2 h [] m = absurd m
  reads_2 h (c ∷ []) m = two b c (told 0xC2 0xDF b h) (told 0x80 0xBF c m.0)
  reads_2 h (c ∷ d ∷ bs) m = absurd m.1

  -- three and four octets: where the second lies goes by the first
  reads_3 : (x y l z : ℕ) → has (octets x y) b ≡ true
      → ((c d : ℕ) → (x ≤ b) × (b ≤ y) → (l ≤ c) × (c ≤ z) → (0x80 ≤ d) × (d ≤ 0xBF) → Value (b ∷ c ∷ d ∷ [])) → Reads (octets l z ∷ tail ∷ [])
  reads_3 x y l z h k [] m = absurd m
  reads_3 x y l z h k (c ∷ []) m = absurd m.1
  reads_3 x y l z h k (c ∷ d ∷ []) m = k c d (told x y b h) (told l z c m.0) (told 0x80 0xBF d m.1.0)
  reads_3 x y l z h k (c ∷ d ∷ g ∷ bs) m = absurd m.1.1

  reads_4 : (x y l z : ℕ) → has (octets x y) b ≡ true
      → ((c d e : ℕ) → (x ≤ b) × (b ≤ y) → (l ≤ c) × (c ≤ z) → (0x80 ≤ d) × (d ≤ 0xBF) → (0x80 ≤ e) × (e ≤ 0xBF) → Value (b ∷ c ∷ d ∷ e ∷ [])) → Reads (octets l z ∷ tail ∷ tail ∷ [])
  reads_4 x y l z h k [] m = absurd m
  reads_4 x y l z h k (c ∷ []) m = absurd m.1
  reads_4 x y l z h k (c ∷ d ∷ []) m = absurd m.1.1
  reads_4 x y l z h k (c ∷ d ∷ e ∷ []) m = k c d e (told x y b h) (told l z c m.0) (told 0x80 0xBF d m.1.0) (told 0x80 0xBF e m.1.1.0)
  reads_4 x y l z h k (c ∷ d ∷ e ∷ g ∷ bs) m = absurd m.1.1.1

  each_row : All (λ r. has r.first b ≡ true → Reads r.rest) rows
  unfolding value_3 value_4
  each_row = (
    reads_1,
    (
      reads_2,
      (
        λ h. reads_3 0xE0 0xE0 0xA0 0xBF h (λ c d p q r. three b c d (omega arith) (omega arith) r (omega arith) (inl (omega arith))),
        (
          λ h. reads_3 0xE1 0xEC 0x80 0xBF h (λ c d p q r. three b c d (omega arith) q r (omega arith) (inl (omega arith))),
          (
            λ h. reads_3 0xED 0xED 0x80 0x9F h (λ c d p q r. three b c d (omega arith) (omega arith) r (omega arith) (inl (omega arith))),
            (
              λ h. reads_3 0xEE 0xEF 0x80 0xBF h (λ c d p q r. three b c d (omega arith) q r (omega arith) (inr (omega arith))),
              (
                λ h. reads_4 0xF0 0xF0 0x90 0xBF h (λ c d e p q r s. four b c d e (omega arith) (omega arith) r s (omega arith) (omega arith)),
                (
                  λ h. reads_4 0xF1 0xF3 0x80 0xBF h (λ c d e p q r s. four b c d e (omega arith) q r s (omega arith) (omega arith)),
                  (λ h. reads_4 0xF4 0xF4 0x80 0x8F h (λ c d e p q r s. four b c d e (omega arith) (omega arith) r s (omega arith) (omega arith)), tt),
                ),
              ),
            ),
          ),
        ),
      ),
    ),
  )

  -- the character that a string begins with, where it passes
  head : (s : List ℕ) → passes [] (b ∷ s) ≡ true → (t : Taken (follow rows b) s) × Value (b ∷ t.octs)
  unfolding passes
  head s p =
      let t = apart (follow rows b) s (and_right (starts rows b) _ p) in
      (t, which Reads b rows each_row (and_left _ _ p) t.octs t.each)

decode : (most : ℕ) (s : List ℕ) → length s ≤ most → passes [] s ≡ true → Utf8 s
unfolding encodes all_scalar
decode zero [] h p = record { scalars = []; each = refl; is = refl }
decode zero (b ∷ s) h p = absurd (omega arith)
decode (suc most) [] h p = record { scalars = []; each = refl; is = refl }
decode (suc most) (b ∷ s) h p =
    let r = head b s p in
    let t = r.0 in
    let v = r.1 in
    let short : length t.left ≤ most = omega (arith, length-append t.octs t.left, ap length t.split) in
    let u = decode most t.left short t.on in
    record {
      scalars = v.scalar ∷ u.scalars;
      each = rw v.fine u.each;
      is = rw (v.is, u.is) (ap (λ (l : List ℕ). b ∷ l) t.split);
    }

pub sound : (s : List ℕ) → is_utf8 s ≡ true → Utf8 s
unfolding is_utf8
sound s p = decode (length s) s (omega arith) p

-- the two agree
pub agree : (s : List ℕ) → (is_utf8 s ≡ true) ↔ Utf8 s
agree s = (sound s, complete s)
