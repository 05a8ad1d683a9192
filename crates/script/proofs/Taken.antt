-- Fewer bytes than were asked for are all that there were.
use Rattle.std.proofs.Common.{◌≡◌, ◌∙◌, ℕ, ◌<◌, List, [], ◌++◌, length, take, Option, None, Some, IfSome, arith, ap, subst}
use Rattle.std.specs.Option.{option_map}
use Rattle.std.specs.declared.io.traits.Take.{Take}
use Rattle.std.specs.Io.Take.{take_limit, take_inner, take_remaining}
use Rattle.std.proofs.lemmas.List.{take_all, length-take}

few_are_all : (limit : ℕ) (left : Option (List ℕ)) (taken : List ℕ) → IfSome (option_map (take limit) left) (λ bytes. taken ≡ bytes) → length taken < limit → IfSome left (λ bytes. taken ≡ bytes)
few_are_all limit None taken is few = tt
few_are_all limit (Some bytes) taken is few =
    is ∙ take_all limit bytes (let count = ap length is ∙ length-take limit bytes in omega (arith, count, few))

pub all_taken : {R : Type 0} (remaining : R → Option (List ℕ)) (reader : R) (limit : ℕ) (t : Take R) (start taken : List ℕ) → take_limit t ≡ limit → take_inner t ≡ reader → start ≡ [] → IfSome (take_remaining remaining t) (λ bytes. taken ≡ start ++ bytes) → length taken < limit → IfSome (remaining reader) (λ bytes. taken ≡ bytes)
all_taken remaining reader limit t start taken limited inner none is few =
    few_are_all limit (remaining reader) taken
    (subst (λ l. IfSome (option_map (take l) (remaining reader)) (λ bytes. taken ≡ bytes)) limited
    (subst (λ r. IfSome (option_map (take (take_limit t)) (remaining r)) (λ bytes. taken ≡ bytes)) inner
    (subst (λ s. IfSome (take_remaining remaining t) (λ bytes. taken ≡ s ++ bytes)) none is)))
    few
