-- A contract that is an equation for its result, `r ≡ f arguments`, has one result.
use mathlib.Core.Path.{◌≡◌, sym, ◌∙◌}

pub unique : {A : Type 0} {x a b : A} → a ≡ x → b ≡ x → a ≡ b
unique p q = p ∙ sym q
