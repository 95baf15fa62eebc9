-- The number that a mend tells: the marks set without those of the pages in use.
use Rattle.std.specs.Prelude.{◌≡◌, refl, Bool, true, false, List, [], ◌∷◌, ℕ, zero, suc, ◌+◌, ◌≤◌, ◌<◌, length}
use Rattle.std.proofs.Common.{ap, arith, length-append}
use Rattle.std.proofs.Math.Decide.{dec_lt}
use Rattle.geometry.specs.Choose.{choose}
use Rattle.geometry.specs.ChooseLaws.{choose_true, choose_false}
use Rattle.rules.specs.PageSets.{bit, count, mem, Within, free_pages}
use Rattle.rules.proofs.PageSetLaws.{mem_true, mem_false, free_length}
use Rattle.rules.specs.Bitmap.{bit_at}
use Rattle.editing_theorems.specs.NewChains.{range_more}
use Rattle.rules.specs.Careful.{unowned}
use Rattle.rules.specs.CarefulPromises.{Covers, bits_set}

-- ---- the number
abbrev used_from : List ℕ → ℕ → ℕ → ℕ
used_from us k zero = 0
used_from us k (suc n) = bit (mem k us) + used_from us (k + 1) n

used_last : (us : List ℕ) (k n : ℕ) → used_from us k (suc n) ≡ used_from us k n + bit (mem (k + n) us)
used_last us k zero = let e : k + 0 ≡ k = omega arith in rw e (omega arith)
used_last us k (suc n) =
    let e : k + suc n ≡ k + 1 + n = omega arith in
    omega (arith, used_last us (k + 1) n, ap (λ (m : ℕ). bit (mem m us)) e)

free_used : (us : List ℕ) (n : ℕ) → length (free_pages us n) + used_from us 0 n ≡ n
unfolding free_pages
free_used us zero = refl
free_used us (suc n) =
    let e : 0 + n ≡ n = omega arith in
    omega (arith, free_used us n, length-append (free_pages us n) (choose (mem n us) [] (n ∷ [])), used_last us 0 n, ap (λ (m : ℕ). bit (mem m us)) e, one (mem n us))
  where
    one : (t : Bool) → length {A = ℕ} (choose t [] (n ∷ [])) + bit t ≡ 1
    one true = simp choose_true
    one false = simp choose_false

used_all : (us : List ℕ) (N n : ℕ) → N ≤ n → Within N us → used_from us 0 n ≡ length us
used_all us N n h w = omega (arith, free_used us n, free_length us n (λ x. omega (arith, w x, range_more x N n h)))

unowned_sum : (raw us : List ℕ) (k n : ℕ) → ((x : ℕ) → k ≤ x → x < k + n → bit (mem x us) ≤ bit_at raw x) → unowned raw us k n + used_from us k n ≡ bits_set raw k n
unfolding unowned
unowned_sum raw us k zero h = refl
unowned_sum raw us k (suc n) h = omega (arith, h k (omega arith) (omega arith), unowned_sum raw us (k + 1) n (λ x p q. h x (omega arith) (omega arith)))

covered_bit : (N : ℕ) (raw us : List ℕ) → Covers N raw us → (x : ℕ) → bit (mem x us) ≤ bit_at raw x
covered_bit N raw us c x = elim (dec_lt 0 (count x us)) [
  | yes q ↦ rw (mem_true x us (omega arith), c.marked x (omega arith)) (omega arith)
  | no q ↦ rw (mem_false x us (omega arith)) (omega arith)
]

pub unowned_are : (N n : ℕ) (raw us : List ℕ) → Covers N raw us → N ≤ n → Within N us → unowned raw us 0 n + length us ≡ bits_set raw 0 n
unowned_are N n raw us c h w = omega (arith, unowned_sum raw us 0 n (λ x p q. covered_bit N raw us c x), used_all us N n h w)
