-- One byte more of a number, read from the last byte on and written from the first.
use mathlib.Core.Path.{◌≡◌, sym, ap, ◌∙◌}
use mathlib.Core.List.{List, [], ◌∷◌, ◌++◌, append_assoc}
use Prim.Native.Nat.{ℕ, suc, ◌+◌, ◌-◌, ◌/◌, ◌%◌, ◌^◌, ◌≤◌, ◌<◌}
use native.Mathlib.Nat.{pow-le-pow_right}
use native.Mathlib.Numerals.{add-one}
use native.Mathlib.Omega.{arith}
use lib.ListN.{length, take, set, length-append, length-set}
use lib.Seq.{take-suc-set}
use Rattle.geometry.specs.Number.{number, number_bytes}

-- the bytes seen are the last ones, behind those still to come; the value is their number
pub record Read (bytes rest : List ℕ) (value : ℕ) : Type 0 where
  pub seen : List ℕ
  pub whole : rest ++ seen ≡ bytes
  pub is : value ≡ number seen
  pub below : value < 256 ^ length seen

pub read_fits : (bytes rest : List ℕ) (v : ℕ) → length bytes ≤ 4 → Read bytes rest v → v < 4294967296
read_fits bytes rest v h r =
    let k : length r.seen ≤ 4 = omega (arith, simp length-append at (ap length r.whole)) in
    let p : 256 ^ length r.seen ≤ 256 ^ 4 = pow-le-pow_right (omega arith) k in
    omega (arith, r.below)

pub write_more : (b : List ℕ) (x rest i : ℕ) → i < length b → number_bytes (length b) x ≡ take i b ++ number_bytes (length b - i) rest
    → let c = set b i (rest % 256) in number_bytes (length c) x ≡ take (i + 1) c ++ number_bytes (length c - (i + 1)) (rest / 256)
write_more b x rest i h e =
    let s : length b - i ≡ suc (length b - suc i) = omega arith in
    rw (length-set b i (rest % 256)) (e ∙ rw (add-one i, take-suc-set b i (rest % 256), s) (sym (append_assoc (take i b) (rest % 256 ∷ []) (number_bytes (length b - suc i) (rest / 256)))))
