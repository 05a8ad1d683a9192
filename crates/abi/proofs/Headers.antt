-- What a count of descriptors says of its header.
use mathlib.Core.Path.{◌≡◌, refl}
use mathlib.Core.Bool.{Bool, true, false, cond, not}
use Prim.Native.Nat.{ℕ, ◌-◌, ◌/◌, ◌%◌, ◌≤◌}
use native.Mathlib.Omega.{arith}
use borrow.Author.Tests.{ltb-false, eqb-true, not-false}
use lib.Dec.{eqb, ltb}
use Rattle.std.specs.Prelude.{Option, Some, None}
use Rattle.words.specs.Integers.{equals}
use Rattle.abi.specs.Size.{rights_count_of}
use Rattle.abi.specs.declared.CmsgHdr.{CmsgHdr}

pub record Counted (h : CmsgHdr) (n k : ℕ) : Type 0 where
  pub level : equals h.cmsg_level 1 ≡ true
  pub type : equals h.cmsg_type 1 ≡ true
  pub fits : h.cmsg_len ≤ n
  pub has : 16 ≤ h.cmsg_len
  pub whole : (h.cmsg_len - 16) % 4 ≡ 0
  pub is : k ≡ (h.cmsg_len - 16) / 4

past : (k : ℕ) (b : Bool) (x : Option ℕ) → Some k ≡ cond b None x → (b ≡ false) × (Some k ≡ x)
past k true x p = absurd (let z : ◌≡◌ {A = ℕ} 0 1 = cc in omega arith)
past k false x p = (refl, p)

last : (k m : ℕ) (b : Bool) → Some k ≡ cond b (Some m) None → (b ≡ true) × (k ≡ m)
last k m true p = (refl, cc)
last k m false p = absurd (let z : ◌≡◌ {A = ℕ} 0 1 = cc in omega arith)

pub count_says : (h : CmsgHdr) (n k : ℕ) → Some k ≡ rights_count_of h n → Counted h n k
unfolding rights_count_of
count_says h n k p =
    let a = past k (not (equals h.cmsg_level 1)) _ p in
    let b = past k (not (equals h.cmsg_type 1)) _ a.1 in
    let c = past k (ltb n h.cmsg_len) _ b.1 in
    let d = past k (ltb h.cmsg_len 16) _ c.1 in
    let e = last k ((h.cmsg_len - 16) / 4) (eqb ((h.cmsg_len - 16) % 4) 0) d.1 in
    record {
      level = not-false _ a.0;
      type = not-false _ b.0;
      fits = ltb-false n h.cmsg_len c.0;
      has = ltb-false h.cmsg_len 16 d.0;
      whole = eqb-true _ 0 e.0;
      is = e.1;
    }
