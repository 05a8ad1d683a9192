-- The returns of `SockAddrUn`'s functions, and what the definitions of an address say of each other.
use mathlib.Core.Path.{◌≡◌, refl, sym, ◌∙◌, ap, ap₂}
use mathlib.Core.Bool.{Bool, true, false, cond, not}
use mathlib.Core.List.{List, [], ◌∷◌, ◌++◌, append_assoc}
use Prim.Native.Nat.{ℕ, ◌+◌, ◌-◌, ◌<◌, ◌≤◌}
use native.Mathlib.Omega.{arith}
use borrow.Author.Tests.{eq-eqb, lt-ltb, le-ltb, not-true, not-false}
use lib.Dec.{eqb, ltb}
use borrow.Rule.Slice.PartMut.{mid_of, put_mid}
use lib.ListN.{length, take, drop, replicate, take-append-drop, length-take, length-drop}
use lib.Seq.{sets, sets-eq, drop-drop, take_all}
use Rattle.std.specs.Prelude.{Result, Ok, Err, MatchResult}
use Rattle.std.specs.Result.{result_unwrap_or}
use Rattle.words.specs.declared.Errno.{Errno}
use Rattle.words.specs.declared.Errno.TheVariants.{EINVAL, EAFNOSUPPORT, ENAMETOOLONG, SHORT}
use Rattle.laws.proofs.Lists.{mid_is, put_back}
use Rattle.le.specs.Le.{le, bytes}
use Rattle.utf8.specs.Syntax.{is_utf8}
use Rattle.address.specs.Address.{up_to_zero, Address, named, address_of, path_in, refusal_in, new_of, written, after_new, Wrote}

-- ── What a path says ──

named_empty : (p : List ℕ) → length p ≡ 0 → named p ≡ Address.refused EINVAL
unfolding named
named_empty [] e = refl
named_empty (b ∷ p) e = absurd (omega arith)

named_bad : (p : List ℕ) → is_utf8 p ≡ false → named p ≡ Address.refused EINVAL
unfolding named
named_bad [] e = refl
named_bad (b ∷ p) e = rw e

pub named_good : (p : List ℕ) → (length p ≡ 0 → ⊥) → is_utf8 p ≡ true → named p ≡ Address.path p
unfolding named
named_good [] n e = absurd (n refl)
named_good (b ∷ p) n e = rw e

-- ── path ──

module _ (a p : List ℕ) (h : 2 ≤ length a) (f : ℕ) (is : f ≡ le 2 a 0) (unix : f ≡ 1) (part : p ≡ up_to_zero (take (length a - 2) (drop 2 a))) where
  -- an address of this family says what its path says
  says : address_of a ≡ named p
  unfolding address_of
  says =
      let all : p ≡ up_to_zero (drop 2 a) = part ∙ ap up_to_zero (take_all (length a - 2) (drop 2 a) (omega (arith, length-drop 2 a))) in
      rw (le-ltb (length a) 2 h, eq-eqb (le 2 a 0) 1 (sym is ∙ unix), all)

  pub says_empty : length p ≡ 0 → address_of a ≡ Address.refused EINVAL
  says_empty z = says ∙ named_empty p z

  pub says_bad : is_utf8 p ≡ false → address_of a ≡ Address.refused EINVAL
  says_bad n = says ∙ named_bad p n

  pub says_path : (length p ≡ 0 → ⊥) → is_utf8 p ≡ true → address_of a ≡ Address.path p
  says_path z n = says ∙ named_good p z n

-- a path is what stands before the first zero
path_named : (s p : List ℕ) → named s ≡ Address.path p → p ≡ s
unfolding named
path_named [] p e = absurd (let z : ◌≡◌ {A = ℕ} 0 1 = cc in omega arith)
path_named (b ∷ s) p e = go (is_utf8 (b ∷ s)) e
  where
    go : (d : Bool) → cond d (Address.path (b ∷ s)) (Address.refused EINVAL) ≡ Address.path p → p ≡ b ∷ s
    go true q = cc
    go false q = absurd (let z : ◌≡◌ {A = ℕ} 0 1 = cc in omega arith)

pub path_said : (a p : List ℕ) → address_of a ≡ Address.path p → p ≡ up_to_zero (drop 2 a)
unfolding address_of
path_said a p e = go (ltb (length a) 2) (eqb (le 2 a 0) 1) e
  where
    go : (b d : Bool) → cond b (Address.refused EINVAL) (cond d (named (up_to_zero (drop 2 a))) (Address.refused EAFNOSUPPORT)) ≡ Address.path p → p ≡ up_to_zero (drop 2 a)
    go true d q = absurd (let z : ◌≡◌ {A = ℕ} 0 1 = cc in omega arith)
    go false true q = path_named (up_to_zero (drop 2 a)) p q
    go false false q = absurd (let z : ◌≡◌ {A = ℕ} 0 1 = cc in omega arith)

-- a path shows itself, and a refused address an empty part; r is what `path` answers, and `now` the bytes of a part
pub shown : (a : List ℕ) {B : Type 0} (now : B → List ℕ) (r : Result B Errno) (d : B)
    → MatchResult r (λ p. address_of a ≡ Address.path (now p)) (λ e. address_of a ≡ Address.refused e) → now d ≡ [] → now (result_unwrap_or r d) ≡ path_in (address_of a)
unfolding path_in
shown a now (Ok p) d h z = rw h refl
shown a now (Err e) d h z = rw h z

-- "is empty exactly where refused"
pub record Refused (m : Address) : Type 0 where
  pub why : Errno
  pub is : refusal_in m ≡ Err why

named_refused : (s : List ℕ) → path_in (named s) ≡ [] → Refused (named s)
unfolding named refusal_in path_in
named_refused [] e = record { why = EINVAL; is = refl }
named_refused (b ∷ s) e = go (is_utf8 (b ∷ s)) e
  where
    go : (d : Bool) → path_in (cond d (Address.path (b ∷ s)) (Address.refused EINVAL)) ≡ [] → Refused (cond d (Address.path (b ∷ s)) (Address.refused EINVAL))
    go true q = absurd (let z : ◌≡◌ {A = ℕ} 0 1 = cc in omega arith)
    go false q = record { why = EINVAL; is = refl }

pub empty_refused : (a : List ℕ) → path_in (address_of a) ≡ [] → Refused (address_of a)
unfolding address_of refusal_in
empty_refused a e = go (ltb (length a) 2) (eqb (le 2 a 0) 1) e
  where
    go : (b d : Bool) → path_in (cond b (Address.refused EINVAL) (cond d (named (up_to_zero (drop 2 a))) (Address.refused EAFNOSUPPORT))) ≡ []
        → Refused (cond b (Address.refused EINVAL) (cond d (named (up_to_zero (drop 2 a))) (Address.refused EAFNOSUPPORT)))
    go true d q = record { why = EINVAL; is = refl }
    go false true q = named_refused (up_to_zero (drop 2 a)) q
    go false false q = record { why = EAFNOSUPPORT; is = refl }

-- ── new ──

module _ (p a : List ℕ) where
  refuses : (e : Errno) → new_of p a ≡ Err e → Wrote p a a (Err e)
  unfolding after_new
  refuses e q = record { answer = sym q; bytes = rw q }

  pub no_room : length a < 110 → Wrote p a a (Err SHORT)
  unfolding new_of
  no_room h = refuses SHORT (rw (lt-ltb (length a) 110 h))

  module _ (room : 110 ≤ length a) where
    pub long_path : 108 ≤ length p → Wrote p a a (Err ENAMETOOLONG)
    unfolding new_of
    long_path h = refuses ENAMETOOLONG (rw (le-ltb (length a) 110 room, lt-ltb 107 (length p) (omega arith)))

    module _ (fits : length p < 108) (b : Bool) (test : b ≡ is_utf8 p) where
      pub bad_path : not b ≡ true → Wrote p a a (Err EINVAL)
      unfolding new_of
      bad_path n = refuses EINVAL (rw (le-ltb (length a) 110 room, le-ltb 107 (length p) (omega arith), ← test, not-true b n))

      -- the family, then the path, then zeros
      module _ (good : not b ≡ false) (n : ℕ) (all : n ≡ length p) (l₁ c₁ c₂ : List ℕ)
          (family : l₁ ≡ sets a 0 (bytes 2 1))
          (copied : c₁ ≡ p)
          (cleared : c₂ ≡ replicate (length (mid_of (2 + n) (110 - (2 + n)) (put_mid 2 ((2 + n) - 2) l₁ c₁))) 0) where
        abbrev d : List ℕ
        d = drop 2 a

        abbrev r : List ℕ
        r = drop (length p) d

        front_is : l₁ ≡ (1 ∷ 0 ∷ []) ++ (take (length p) d ++ r)
        unfolding bytes
        front_is = family ∙ sets-eq (bytes 2 1) a 0 (omega arith) ∙ ap (λ (l : List ℕ). 1 ∷ 0 ∷ l) (sym (take-append-drop (length p) d))

        room_long : length (take (length p) d) ≡ (2 + n) - 2
        room_long = let e = length-take (length p) d in let f = length-drop 2 a in omega arith

        path_is : put_mid 2 ((2 + n) - 2) l₁ c₁ ≡ (1 ∷ 0 ∷ p) ++ (take (108 - n) r ++ drop (108 - n) r)
        path_is =
            ap (λ (l : List ℕ). put_mid 2 ((2 + n) - 2) l c₁) front_is
            ∙ put_back (1 ∷ 0 ∷ []) (take (length p) d) r 2 ((2 + n) - 2) refl room_long c₁
            ∙ ap₂ (λ (x y : List ℕ). 1 ∷ 0 ∷ x ++ y) copied (sym (take-append-drop (108 - n) r))

        part_long : length (take (108 - n) r) ≡ 110 - (2 + n)
        part_long = let e = length-take (108 - n) r in let f = length-drop (length p) d in let g = length-drop 2 a in omega arith

        zeros : c₂ ≡ replicate (108 - length p) 0
        zeros =
            let e : 110 - (2 + n) ≡ 108 - length p = omega arith in
            cleared
            ∙ ap (λ (m : ℕ). replicate m 0)
            (ap (λ (l : List ℕ). length (mid_of (2 + n) (110 - (2 + n)) l)) path_is
            ∙ ap length (mid_is (1 ∷ 0 ∷ p) (take (108 - n) r) (drop (108 - n) r) (2 + n) (110 - (2 + n)) (omega arith) part_long)
            ∙ part_long ∙ e)

        beyond : drop (108 - n) r ≡ drop 110 a
        beyond =
            let e : 2 + (length p + (108 - n)) ≡ 110 = omega arith in
            drop-drop (108 - n) (length p) d ∙ drop-drop (length p + (108 - n)) 2 a ∙ ap (λ (m : ℕ). drop m a) e

        accepts : new_of p a ≡ Ok tt
        unfolding new_of
        accepts = rw (le-ltb (length a) 110 room, le-ltb 107 (length p) (omega arith), ← test, not-false b good)

        pub wrote : Wrote p a (put_mid (2 + n) (110 - (2 + n)) (put_mid 2 ((2 + n) - 2) l₁ c₁) c₂) (Ok tt)
        unfolding after_new written
        wrote =
            record {
              answer = sym accepts;
              bytes =
                  rw accepts
                  (ap (λ (l : List ℕ). put_mid (2 + n) (110 - (2 + n)) l c₂) path_is
                  ∙ put_back (1 ∷ 0 ∷ p) (take (108 - n) r) (drop (108 - n) r) (2 + n) (110 - (2 + n)) (omega arith) part_long c₂
                  ∙ ap₂ (λ (x y : List ℕ). 1 ∷ 0 ∷ p ++ (x ++ y)) zeros beyond
                  ∙ ap (λ (l : List ℕ). 1 ∷ 0 ∷ l) (sym (append_assoc p (replicate (108 - length p) 0) (drop 110 a))));
            }
