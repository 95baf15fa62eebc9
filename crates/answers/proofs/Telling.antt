-- What an answer tells fits the caller's 32 bits, also of the case that it turns out to be.
use mathlib.Core.Path.{◌≡◌, subst}
use Rattle.rules.specs.Result.{Res}
use Rattle.answers.specs.Small.{Small}

pub small_as : {A B : Type 0} (few : B → Type 0) (tell : A → Res B) (a b : A) → Small few (tell a) → a ≡ b → Small few (tell b)
small_as {A} few tell a b h e = subst (λ (x : A). Small few (tell x)) e h
