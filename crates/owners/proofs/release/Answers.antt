-- A free page has the owner 0 and the place 0.
use Rattle.owners.proofs.release.Goals as goal

pub returns : goal.returns
returns c = c.claim.ensures
