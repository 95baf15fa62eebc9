use mathlib.Core.Path.{◌≡◌, refl, ap, sym, ◌∙◌, subst}
use mathlib.Core.List.{List}
use Prim.Native.Nat.{ℕ, ◌+◌, ◌<◌}
use native.Mathlib.Omega.{arith}
use lib.ListN.{length, set, length-set}
use Rattle.rules.proofs.PageSetLaws.{same, other, hits}
use Rattle.rules.specs.Owners.{OwnerRecord, held}
use Rattle.owners.specs.Records.{records_of}
use Rattle.owners.specs.RecordLaws.{length_records}
use Rattle.owners.specs.Owned.{nonzero, ClaimsBelow}
use Rattle.owners.specs.OwnerLaws.{owner_set, owner_other}
use Rattle.owners.specs.BitLaws.{bit_below, bit_from, bit_more}
use Rattle.owners.proofs.claim_below.Goals as goal

none : (table : List OwnerRecord) → ClaimsBelow table 0 table
none table = record { sized = refl; owned = λ x. sym (bit_from table 0 x (omega arith)) }

-- one page more
more : (table now : List OwnerRecord) (p : ℕ) → p < length table → ClaimsBelow table p now → ClaimsBelow table (p + 1) (set now p (held 1 0))
more table now p h c = record {
  sized = length-set now p (held 1 0) ∙ c.sized;
  owned = λ x. elim (hits x p) [
    | same e i ↦ rw e (ap nonzero (owner_set now p (held 1 0) (omega (arith, c.sized))) ∙ sym (bit_below table (p + 1) p (omega arith)))
    | other e i ↦ ap nonzero (owner_other now p x (held 1 0) e) ∙ c.owned x ∙ sym (bit_more table p x e)
  ];
}

pub loop-page-init : goal.loop-page-init
loop-page-init c = record { sized = refl; claimed = none _ }

pub claim-requires : goal.claim-requires
claim-requires c = (omega (arith, c.loop-page.invariant.sized, c.requires), omega arith, omega arith)

pub loop-page-preserved : goal.loop-page-preserved
loop-page-preserved c =
    let table = records_of c.args.table.now in
    let page = c.loop-page.page in
    let inside : page < length table = omega (arith, c.requires, length_records c.args.table.now) in
    record {
      sized = c.claim.auto.table ∙ c.loop-page.invariant.sized;
      claimed = subst (ClaimsBelow table (page + 1)) (sym c.claim.ensures) (more table (records_of c.loop-page.table) page inside c.loop-page.invariant.claimed);
    }

pub returns : goal.returns
returns c =
    let e : c.loop-page.page ≡ c.args.below = omega arith in
    rw e at c.loop-page.invariant.claimed
