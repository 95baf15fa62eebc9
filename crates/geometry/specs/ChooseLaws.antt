-- Laws of a choice by a test.
use Rattle.std.specs.Prelude.{◌≡◌, refl, Bool, true, false}
use Rattle.geometry.specs.Choose.{choose}

pub choose_true : {A : Type 0} (x y : A) → choose true x y ≡ x
unfolding choose
choose_true x y = refl

pub choose_false : {A : Type 0} (x y : A) → choose false x y ≡ y
unfolding choose
choose_false x y = refl

pub on_choose : {A C : Type 0} (t : Bool) (x y z : A) → choose t x y ≡ z → (t ≡ true → x ≡ z → C) → (t ≡ false → y ≡ z → C) → C
unfolding choose
on_choose true x y z e k l = k refl e
on_choose false x y z e k l = l refl e
