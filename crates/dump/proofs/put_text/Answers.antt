-- A refusal is one line. Else the line of totals, of at most 200 bytes, and behind it the lines of the entries, which an image that passed its check has.
use native.Mathlib.Omega.{arith}
use Rattle.text.specs.TextLaws.{totals_short}
use Rattle.dump.proofs.Laying.{text_refused, text_done, known, accepted}
use Rattle.dump.proofs.put_text.Goals as goal

pub put_lines-requires : goal.put_lines-requires
put_lines-requires c =
    let s = known _ _ _ _ c.requires c.in-Ok.is in record { fit = s.fit; has_image = (accepted _ _ _ s, omega (arith, c.put_totals-lines.ensures.position, totals_short c.in-Ok.g c.in-Ok.totals)) }

pub returns-in-Err : goal.returns-in-Err
returns-in-Err c =
    text_refused _ _ _ _ _ _ c.in-Err.is c.put_refusal.ensures

pub returns-in-Ok : goal.returns-in-Ok
returns-in-Ok c =
    text_done _ _ _ _ _ _ _ _ _ c.in-Ok.is c.put_totals-lines.ensures c.put_lines.ensures
