-- The part of n bytes that is lent is filled with the number; before and behind it the target stays.
use Rattle.geometry.proofs.Parts.{number_put}
use Rattle.geometry.proofs.put_number.Goals as goal

pub returns : goal.returns
returns c =
    number_put _ _ _ _ _ c.requires c.write_number.ensures
