-- Two results that meet a contract of this crate are equal. Most contracts are an equation for the result (`laws`, Unique); these tell the answer of a
-- function below, whose own promise settles the answer and what is lent.
use mathlib.Core.Path.{◌≡◌, sym, ap, ◌∙◌}
use mathlib.Core.List.{List}
use Prim.Native.Nat.{ℕ}
use lib.IntN.{ℤ}
use Rattle.laws.proofs.Unique.{unique}
use Rattle.words.specs.Numbers.{refusal_of}
use Rattle.address.specs.Address.{Wrote}
use Rattle.address.proofs.Results.{wrote_unique}
use Rattle.syscall.specs.Promise.{Parsed, SendParsed, Encoded}
use Rattle.syscall.proofs.Results.{parsed_unique, send_unique, encoded_unique}
use Rattle.eidrovang.specs.declared.plain.EidNumber.{EidNumber}
use Rattle.eidrovang.specs.declared.plain.EidPath.{EidPath}
use Rattle.eidrovang.specs.Numbers.{numbers, Told, Answered, Shown}

pub new_unique : (p a b c : List ℕ) (r s : ℕ) → Told (Wrote p a b) r → Told (Wrote p a c) s → (r ≡ s) × (b ≡ c)
new_unique p a b c r s x y =
    let u = wrote_unique p a b c x.verdict y.verdict x.holds y.holds in
    (x.told ∙ ap refusal_of u.0 ∙ sym y.told, u.1)

pub path_unique : (a : List ℕ) (r s : EidPath) → Shown a r → Shown a s → r ≡ s
path_unique a r s x y = unique x.says y.says

pub parse_unique : (b : List ℕ) (f g h : List ℤ) (r s : EidNumber) → Answered (Parsed b f g) r → Answered (Parsed b f h) s → (r ≡ s) × (g ≡ h)
parse_unique b f g h r s x y =
    let u = parsed_unique b f g h x.answer y.answer x.holds y.holds in
    (x.told ∙ ap numbers u.0 ∙ sym y.told, u.1)

pub control_unique : (z : ℤ) (b : List ℕ) (f g h : List ℤ) (r s : EidNumber)
    → Answered (SendParsed z b f g) r → Answered (SendParsed z b f h) s → (r ≡ s) × (g ≡ h)
control_unique z b f g h r s x y =
    let u = send_unique z b f g h x.answer y.answer x.holds y.holds in
    (x.told ∙ ap numbers u.0 ∙ sym y.told, u.1)

pub encode_unique : (ds : List ℤ) (a b c : List ℕ) (r s : EidNumber) → Answered (Encoded ds a b) r → Answered (Encoded ds a c) s → (r ≡ s) × (b ≡ c)
encode_unique ds a b c r s x y =
    let u = encoded_unique ds a b c x.answer y.answer x.holds y.holds in
    (x.told ∙ ap numbers u.0 ∙ sym y.told, u.1)
