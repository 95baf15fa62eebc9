-- A new chain: bytes as a chain over pages can be written; pages upward from one; no page twice.
use Rattle.std.specs.Prelude.{◌≡◌, refl, List, [], ◌∷◌, ℕ, zero, suc, ◌+◌, ◌≤◌, ◌<◌, length, drop}
use Rattle.std.proofs.Common.{ap, sym, ◌∙◌, arith, length-take}
use Rattle.std.proofs.Math.Decide.{dec_lt}
use Rattle.geometry.specs.declared.Geometry.{Geometry}
use Rattle.geometry.specs.Geometry.{Valid, data_capacity}
use Rattle.geometry.specs.Number.{Bytes}
use Rattle.geometry.specs.NumberLaws.{bytes_take, bytes_drop}
use Rattle.rules.specs.PageSets.{count, range, Within}
use Rattle.rules.proofs.PageSetLaws.{hit_same, range_above, range_below, range_of}
use Rattle.rules.specs.Chain.{first, linked, chain_of}
use Rattle.rules.specs.Format.{upward}
use Rattle.reading_theorems.specs.DirectoryComplete.{pages_fit}
use Rattle.editing_theorems.specs.Capacity.{capacity_is}
use Rattle.editing_theorems.specs.AfterWrites.{WritesFit}

first_chain_of : (N capacity : ℕ) (ps bs : List ℕ) → 0 < N → Within N ps → first (chain_of capacity ps bs) < N
first_chain_of N capacity [] bs h f = h
first_chain_of N capacity (p ∷ ps) bs h f = range_of p N (omega (arith, f p, hit_same p))

pub chain_of_fits : (g : Geometry) → Valid g → (ps bs : List ℕ) → Within g.pages ps → Bytes bs → WritesFit g (linked (chain_of (data_capacity g) ps bs))
chain_of_fits g v [] bs f h = tt
chain_of_fits g v (p ∷ ps) bs f h =
    let c = data_capacity g in
    let f' : Within g.pages ps = λ x. omega (arith, f x) in (
      record {
        below = range_of p g.pages (omega (arith, f p, hit_same p));
        room = omega (arith, length-take c bs, capacity_is g, v.least, v.two);
        pointer = omega (arith, first_chain_of g.pages c ps (drop c bs) (omega (arith, v.some)) f', pages_fit g v);
        bytes = bytes_take c bs h;
      },
      chain_of_fits g v ps (drop c bs) f' (bytes_drop c bs h),
    )

-- ---- pages upward
pub range_more : (x a b : ℕ) → a ≤ b → count x (range a) ≤ count x (range b)
range_more x a b h = elim (dec_lt x a) [
  | yes k ↦ omega (arith, range_below x a k, range_below x b (omega arith))
  | no k ↦ omega (arith, range_above x a (omega arith))
]

pub count_upward : (x p k : ℕ) → count x (upward p k) + count x (range p) ≡ count x (range (p + k))
count_upward x p zero = let e : p + 0 ≡ p = omega arith in rw e (omega arith)
count_upward x p (suc k) =
    let e : p + suc k ≡ p + 1 + k = omega arith in
    let s : p + 1 ≡ suc p = omega arith in
    let r : count x (upward (p + 1) k) + count x (range (suc p)) ≡ count x (range (p + 1 + k)) = ap (λ (n : ℕ). count x (upward (p + 1) k) + count x (range n)) (sym s) ∙ count_upward x (p + 1) k in
    rw e (omega (arith, r))

pub upward_within : (k N : ℕ) → suc k ≤ N → Within N (0 ∷ upward 1 k)
upward_within k N h x =
    let e : 0 + suc k ≡ suc k = omega arith in
    let r = count_upward x 0 (suc k) in
    omega (arith, ap (λ (n : ℕ). count x (range n)) e, range_more x (suc k) N h)

pub length_upward : (p k : ℕ) → length (upward p k) ≡ k
length_upward p zero = refl
length_upward p (suc k) = ap suc (length_upward (p + 1) k)
