-- Laws of answers: what a run that ends well has met, and runs that begin alike.
use Rattle.std.specs.Prelude.{◌≡◌, refl, Bool, true, false, ℕ}
use Rattle.std.proofs.Common.{arith}
use Rattle.rules.specs.Result.{Res, ok, err, and_then, and_after, refuse_unless}

pub ok_inj : {A : Type 0} {a b : A} → ok a ≡ ok b → a ≡ b
ok_inj e = cc

-- a fault is no value
pub clash : {A : Type 0} {a : A} {n p : ℕ} {C : Type 0} → err n p ≡ ok a → C
clash {a = a} {n = n} {p = p} e = absurd (let z : ◌≡◌ {A = ℕ} 0 1 = cc in omega arith)

-- a refusal is the same whatever was asked for
pub err_same : {A B : Type 0} {m q n p : ℕ} → ◌≡◌ {A = Res B} (err m q) (err n p) → ◌≡◌ {A = Res A} (err m q) (err n p)
err_same {m = m} {q = q} {n = n} {p = p} e =
    let i : m ≡ n = cc in
    let j : q ≡ p = cc in
    cc

-- what a run in two steps has met, if it ends well
pub on_then : {A B C : Type 0} (r : Res A) (f : A → Res B) (b : B) → and_then r f ≡ ok b → ((a : A) → r ≡ ok a → f a ≡ ok b → C) → C
unfolding and_then
on_then (ok a) f b e k = k a refl e
on_then (err n p) f b e k = clash e

pub on_refuse : {B C : Type 0} (t : Bool) (n p : ℕ) (r : Res B) (b : B) → and_after (refuse_unless t n p) r ≡ ok b → (t ≡ true → r ≡ ok b → C) → C
unfolding and_then refuse_unless
on_refuse true n p r b e k = k refl e
on_refuse false n p r b e k = clash e

-- and of a test alone
pub refuse_inv : (t : Bool) (n p : ℕ) (u : Unit {0}) → refuse_unless t n p ≡ ok u → t ≡ true
unfolding refuse_unless
refuse_inv true n p u e = refl
refuse_inv false n p u e = clash e

pub then_ok : {A B : Type 0} (a : A) (f : A → Res B) → and_then (ok a) f ≡ f a
unfolding and_then
then_ok a f = refl

pub then_err : {A B : Type 0} (n p : ℕ) (f : A → Res B) → and_then (err n p) f ≡ err n p
unfolding and_then
then_err n p f = refl

pub refuse_true : (n p : ℕ) → refuse_unless true n p ≡ ok tt
unfolding refuse_unless
refuse_true n p = refl

pub refuse_false : (n p : ℕ) → refuse_unless false n p ≡ err n p
unfolding refuse_unless
refuse_false n p = refl

-- two runs that begin alike
pub then_cong : {A B : Type 0} (r : Res A) (f g : A → Res B) → ((a : A) → r ≡ ok a → f a ≡ g a) → and_then r f ≡ and_then r g
unfolding and_then
then_cong (ok a) f g h = h a refl
then_cong (err n p) f g h = refl

-- three steps, however they are bracketed
pub then_assoc : {A B C : Type 0} (r : Res A) (f : A → Res B) (h : B → Res C) → and_then (and_then r f) h ≡ and_then r (λ a. and_then (f a) h)
unfolding and_then
then_assoc (ok a) f h = refl
then_assoc (err n p) f h = refl

-- where a run in two steps was refused
pub on_refused : {A B C : Type 0} (r : Res A) (f : A → Res B) (n p : ℕ) → and_then r f ≡ err n p → (r ≡ err n p → C) → ((a : A) → r ≡ ok a → f a ≡ err n p → C) → C
unfolding and_then
on_refused (ok a) f n p e k j = j a refl e
on_refused {A = A} (err m q) f n p e k j = let i : ◌≡◌ {A = Res A} (err m q) (err n p) = err_same e in k i
