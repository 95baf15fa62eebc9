-- Four bytes are two pairs; the other ways the checker finds alone.
use Rattle.geometry.proofs.Parts.{four_bytes}
use Rattle.geometry.proofs.number_at.Goals as goal

pub returns-then-n-eq4 : goal.returns-then-n-eq4
returns-then-n-eq4 c =
    four_bytes _ _ _ _ _ c.requires.1 c.pair_at-then-n-eq4.ensures c.pair_at-then-n-eq4-2.ensures c.if-n-eq4.true
