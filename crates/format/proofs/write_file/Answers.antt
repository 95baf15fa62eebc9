-- The root's page, then the bitmap file's pages; the table has no owner, so the pages below the bound alone are marked.
use native.Mathlib.Omega.{arith}
use Rattle.owners.specs.RecordLaws.{empty_zero}
use Rattle.editing_theorems.specs.Capacity.{capacity_least}
use Rattle.format.proofs.Bits.{count_is, count_below}
use Rattle.format.proofs.Emptying.{file_emptied}
use Rattle.format.proofs.Marking.{new_marks}
use Rattle.format.proofs.write_file.Goals as goal

pub pages_for-count-requires : goal.pages_for-count-requires
pages_for-count-requires c =
    omega (arith, c.data_capacity.ensures, capacity_least c.args.g c.requires.fit.valid)

pub overflow_add-count : goal.overflow_add-count
overflow_add-count c =
    let a = c.args in
    let p = c.requires in
    omega (arith, count_below a.g p.fit.valid _ _ c.bitmap_size.ensures c.data_capacity.ensures _ c.pages_for-count.ensures, p.fit.valid.few)

pub returns : goal.returns
returns c =
    let a = c.args in
    let p = c.requires in
    file_emptied a.g p.fit.valid a.image.now c.write_root.new.image _ _ _ _ _
    (count_is a.g p.fit.valid _ _ c.bitmap_size.ensures c.data_capacity.ensures _ c.pages_for-count.ensures)
    (new_marks _ a.g.pages _ (empty_zero a.g.pages a.table.now _ p.table_len c.clear.ensures).free) c.fill_place.ensures c.write_root.ensures c.write_bits.ensures
