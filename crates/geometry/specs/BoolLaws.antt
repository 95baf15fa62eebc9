-- Tests of two tests: both hold, or one of them does.
use Rattle.std.specs.Prelude.{◌≡◌, refl, Bool, true, false, ◌&&◌, ◌||◌}
use Rattle.std.proofs.Common.{sym, ◌∙◌}
use Rattle.std.proofs.lemmas.Bool.{false≢true}

pub both : (s t : Bool) → (s && t) ≡ true → (s ≡ true) × (t ≡ true)
both true t e = (refl, e)
both false t e = absurd (false≢true e)

pub on_either : {C : Type 0} (s t : Bool) → (s || t) ≡ true → (s ≡ true → C) → (t ≡ true → C) → C
on_either true t e f h = f refl
on_either false t e f h = h e

pub either_left : (s t : Bool) → s ≡ true → (s || t) ≡ true
either_left true t e = refl
either_left false t e = absurd (false≢true e)

pub either_right : (s t : Bool) → t ≡ true → (s || t) ≡ true
either_right true t e = refl
either_right false t e = e

-- where the second fails, it is the first
pub right_fails : (s t : Bool) → (s || t) ≡ true → t ≡ false → s ≡ true
right_fails true t e q = refl
right_fails false t e q = absurd (false≢true (sym q ∙ e))
