-- Document 01, "Addresses and control bytes", first paragraph: bytes 0 and 1 of an address hold its family, and its path stands behind them.
use Rattle.std.specs.Prelude.{◌≡◌, cond, List, [], ◌∷◌, ◌++◌, ℕ, ◌+◌, ◌-◌, ltb, eqb, length, take, drop, replicate, Result, Ok, Err}
use Rattle.words.specs.declared.Errno.{Errno}
use Rattle.words.specs.declared.Errno.TheVariants.{EINVAL, EAFNOSUPPORT, ENAMETOOLONG, SHORT}
use Rattle.le.specs.Le.{le}
use Rattle.utf8.specs.Syntax.{is_utf8}

-- ── Reading ──

-- the bytes before the first zero
unfoldable pub up_to_zero : List ℕ → List ℕ
up_to_zero [] = []
up_to_zero (b ∷ s) = cond (eqb b 0) [] (b ∷ up_to_zero s)

-- what an address says: its path, or why it has none
pub data Address : Type 0 where
  path : List ℕ → Address
  refused : Errno → Address

-- "not UTF-8 or empty, 2"
unfoldable pub named : List ℕ → Address
named [] = refused EINVAL
named (b ∷ s) = cond (is_utf8 (b ∷ s)) (path (b ∷ s)) (refused EINVAL)

-- "under 2 bytes refusal 2; family not 1 refusal 12; the path is the part of the caller's address after the family, up to the first zero byte"
unfoldable pub address_of : List ℕ → Address
address_of a =
    cond (ltb (length a) 2) (refused EINVAL)
    (cond (eqb (le 2 a 0) 1) (named (up_to_zero (drop 2 a)))
    (refused EAFNOSUPPORT))

-- "A refused address shows an empty part."
unfoldable pub path_in : Address → List ℕ
path_in (path p) = p
path_in (refused e) = []

unfoldable pub refusal_in : Address → Result Unit Errno
refusal_in (path p) = Ok tt
refusal_in (refused e) = Err e

-- ── Writing ──

-- "needs 110 bytes (18), takes at most 107 path bytes (17), refuses bad UTF-8 (2, added), in that order"
unfoldable pub new_of : List ℕ → List ℕ → Result Unit Errno
new_of p a =
    cond (ltb (length a) 110) (Err SHORT)
    (cond (ltb 107 (length p)) (Err ENAMETOOLONG)
    (cond (is_utf8 p) (Ok tt)
    (Err EINVAL)))

-- "it fills the first 110 bytes, zeros after the path, keeps any bytes beyond"
unfoldable pub written : List ℕ → List ℕ → List ℕ
written p a = 1 ∷ 0 ∷ p ++ replicate (108 - length p) 0 ++ drop 110 a

unfoldable pub after_new : Result Unit Errno → List ℕ → List ℕ → List ℕ
after_new (Ok _) p a = written p a
after_new (Err e) p a = a

-- the writer's answer, and every byte of the lent address after it
pub record Wrote (p a a' : List ℕ) (r : Result Unit Errno) : Type 0 where
  pub answer : r ≡ new_of p a
  pub bytes : a' ≡ after_new (new_of p a) p a

-- ── Length ──

-- "The length of an address of 110 bytes (fewer 18) is 2 + place of the first zero in its path field + 1; a full path field without a zero gives
-- 111": the place of the first zero is the number of bytes before it
unfoldable pub length_of : List ℕ → Result ℕ Errno
length_of a =
    cond (ltb (length a) 110) (Err SHORT)
    (Ok (2 + length (up_to_zero (take 108 (drop 2 a))) + 1))
