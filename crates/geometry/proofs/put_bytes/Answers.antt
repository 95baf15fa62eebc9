-- The part lent has as many bytes as are copied into it; given back, the target has them from the place on and is else as before.
use Rattle.geometry.proofs.Parts.{bytes_put}
use Rattle.geometry.proofs.put_bytes.Goals as goal

pub returns : goal.returns
returns c = bytes_put _ _ _ _ c.copy_from_slice.ensures.after
