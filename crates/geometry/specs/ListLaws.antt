-- Parts of parts of lists.
use Rattle.std.specs.Prelude.{◌≡◌, List, [], ◌∷◌, ℕ, zero, suc, ◌+◌, ◌-◌, ◌≤◌, take, drop}
use Rattle.std.proofs.Common.{ap, sym, ◌∙◌, arith}
use Rattle.std.proofs.Math.Seq.{take-nil}

pub drop_take : (k m : ℕ) (l : List ℕ) → drop k (take (k + m) l) ≡ take m (drop k l)
drop_take zero m l = let e : 0 + m ≡ m = omega arith in rw e
drop_take (suc k) m [] = ap (drop (suc k)) (take-nil (suc k + m)) ∙ sym (take-nil m)
drop_take (suc k) m (x ∷ l) = let e : suc k + m ≡ suc (k + m) = omega arith in rw e (drop_take k m l)

pub drop_of_take : (k m : ℕ) (l : List ℕ) → k ≤ m → drop k (take m l) ≡ take (m - k) (drop k l)
drop_of_take k m l h = let e : m ≡ k + (m - k) = omega arith in ap (λ (i : ℕ). drop k (take i l)) e ∙ drop_take k (m - k) l
