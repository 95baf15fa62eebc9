-- Where the bitmap may stand as asked, the empty image is written and the edit is done; where not, 4, and the image is as it was.
-- Either way the last check leaves the table of the image that then stands.
use Rattle.format.proofs.Emptying.{leaves_done, leaves_refused}
use Rattle.format.proofs.format_in.Goals as goal

pub returns-then-is_allowed : goal.returns-then-is_allowed
returns-then-is_allowed c =
    let a = c.args in
    record {
      answers = leaves_done a.g a.local a.image.now c.is_allowed.result c.is_allowed.ensures _ c.if-is_allowed.true
          c.write_empty.ensures;
      check = c.check_table.result;
      checked = c.check_table.ensures;
    }

pub returns : goal.returns
returns c =
    let a = c.args in
    record {
      answers = leaves_refused a.g a.local a.image.now c.is_allowed.result c.is_allowed.ensures c.if-is_allowed.false;
      check = c.check_table-2.result;
      checked = c.check_table-2.ensures;
    }
