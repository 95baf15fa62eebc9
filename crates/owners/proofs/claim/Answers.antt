-- The four bytes of the record are written two by two.
use mathlib.Core.Path.{◌∙◌}
use Rattle.owners.proofs.Claiming.{record_put}
use Rattle.owners.proofs.claim.Goals as goal

pub returns : goal.returns
returns c =
    let r = c.requires in
    record_put _ _ _ _ r.0 r.1 r.2 _ _ (c.copy_from_slice.ensures.after ∙ c.to_le_bytes.ensures) (c.copy_from_slice-2.ensures.after ∙ c.to_le_bytes-2.ensures)
