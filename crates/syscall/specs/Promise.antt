-- What the parser and the encoder promise: the answer, the lent list and every byte of the lent buffer.
use Rattle.words.specs.declared.Errno.{Errno}
use Rattle.std.specs.Prelude.{◌≡◌, cond, List, [], ◌∷◌, ◌++◌, ℕ, ◌+◌, ◌*◌, min, ltb, ℤ, length, drop, Result, Ok, Err}
use Rattle.words.specs.Integers.{equals}
use Rattle.words.specs.declared.Errno.TheVariants.{EOPNOTSUPP, SHORT}
use Rattle.abi.specs.Size.{up8}
use Rattle.syscall.specs.Control.{Control, meaning, encoding, capacity_of}

-- ── The parser, at a control buffer's meaning and a lent list f ──

-- "into a lent list of i32 (too short: 18, after all of these)"
unfoldable pub parse_of : Control → List ℤ → Result ℕ Errno
parse_of (Control.descriptors ds) f = cond (ltb (length f) (length ds)) (Err SHORT) (Ok (length ds))
parse_of (Control.refused e) f = Err e

-- "its other entries stay"
unfoldable pub list_after : Control → List ℤ → List ℤ
list_after (Control.descriptors ds) f = cond (ltb (length f) (length ds)) f (ds ++ drop (length ds) f)
list_after (Control.refused e) f = f

pub record Parsed (b : List ℕ) (f f' : List ℤ) (r : Result ℕ Errno) : Type 0 where
  pub answer : r ≡ parse_of (meaning b) f
  pub list : f' ≡ list_after (meaning b) f

-- "Non-zero flags of sendmsg and recvmsg: 6, asked before control bytes are looked at and before the table call."
pub record SendParsed (flags : ℤ) (b : List ℕ) (f f' : List ℤ) (r : Result ℕ Errno) : Type 0 where
  pub answer : r ≡ cond (equals flags 0) (parse_of (meaning b) f) (Err EOPNOTSUPP)
  pub list : f' ≡ cond (equals flags 0) (list_after (meaning b) f) f

unfoldable pub recv_capacity_of : ℤ → ℕ → Result ℕ Errno
recv_capacity_of flags n = cond (equals flags 0) (Ok (capacity_of n)) (Err EOPNOTSUPP)

-- ── The encoder, of the descriptors ds into the buffer b ──

-- "Encoding more than that: 18. Encoding none writes nothing, answers 0. Encoding k writes 16 + 4k bytes and answers the lesser of the buffer length
-- and 16 + 4k rounded up to 8"
unfoldable pub encode_of : List ℤ → List ℕ → Result ℕ Errno
encode_of [] b = Ok 0
encode_of (d ∷ ds) b =
    cond (ltb (capacity_of (length b)) (length (d ∷ ds))) (Err SHORT)
    (Ok (min (length b) (up8 (16 + 4 * length (d ∷ ds)))))

unfoldable pub buffer_after : List ℤ → List ℕ → List ℕ
buffer_after [] b = b
buffer_after (d ∷ ds) b =
    cond (ltb (capacity_of (length b)) (length (d ∷ ds))) b
    (encoding (d ∷ ds) ++ drop (16 + 4 * length (d ∷ ds)) b)

pub record Encoded (ds : List ℤ) (b b' : List ℕ) (r : Result ℕ Errno) : Type 0 where
  pub answer : r ≡ encode_of ds b
  pub bytes : b' ≡ buffer_after ds b
