-- The bits of a new bitmap: in a table without owners, the pages below the bound are those up to the last page of the bitmap file.
use mathlib.Core.Path.{◌≡◌, ap, sym, ◌∙◌}
use mathlib.Core.List.{List, ◌∷◌}
use Prim.Native.Nat.{ℕ, suc, ◌+◌}
use native.Mathlib.Omega.{arith}
use native.Mathlib.Decide.{dec_lt}
use lib.ListN.{replicate}
use Rattle.rules.specs.PageSets.{count, range}
use Rattle.rules.proofs.PageSetLaws.{range_below, range_above}
use Rattle.rules.specs.Format.{upward}
use Rattle.rules.specs.Owners.{OwnerRecord, free}
use Rattle.owners.specs.Owned.{owner_at, nonzero, Marks}
use Rattle.owners.specs.OwnerLaws.{represents_none}
use Rattle.owners.specs.BitLaws.{bit_below, bit_from}
use Rattle.editing_theorems.specs.NewChains.{count_upward}

up_to : (x last : ℕ) → count x (0 ∷ upward 1 last) ≡ count x (range (suc last))
up_to x last =
    let e : 0 + suc last ≡ suc last = omega arith in
    omega (arith, count_upward x 0 (suc last), ap (λ (n : ℕ). count x (range n)) e)

pub new_marks : (table : List OwnerRecord) (n last : ℕ) → table ≡ replicate n free → Marks table (last + 1) (0 ∷ upward 1 last)
new_marks table n last e x = elim (dec_lt x (last + 1)) [
  | yes h ↦ up_to x last ∙ range_below x (suc last) (omega arith) ∙ sym (bit_below table (last + 1) x h)
  | no h ↦ up_to x last ∙ range_above x (suc last) (omega arith) ∙ sym (bit_from table (last + 1) x (omega arith) ∙ ap (λ (t : List OwnerRecord). nonzero (owner_at t x)) e ∙ sym (represents_none n x))
]
