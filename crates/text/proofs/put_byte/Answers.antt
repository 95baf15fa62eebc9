-- A byte inside the output is set there, a byte past its end is dropped; the position goes on by one in both cases.
use Rattle.text.proofs.Steps.{inside, outside}
use Rattle.text.proofs.put_byte.Goals as goal
use Rattle.text.proofs.put_byte.Goals.{then-at-out, else-at-out}

pub returns : goal.returns
returns c =
    elim c.if-at-out.branch [
      | then-at-out w ↦ rw w.out-is (inside _ _ _)
      | else-at-out w ↦ rw w.out-is (outside _ _ _ w.if-at-out.false)
    ]
