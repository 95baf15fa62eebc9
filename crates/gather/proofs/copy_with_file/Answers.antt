-- The tree is laid behind the file's pages; then the file is written: the table has no owner, so the pages below the number laid alone are marked.
use mathlib.Core.Path.{ap, ◌∙◌}
use native.Mathlib.Omega.{arith}
use lib.ListN.{length}
use Rattle.owners.specs.RecordLaws.{empty_zero}
use Rattle.editing_theorems.specs.Capacity.{capacity_least}
use Rattle.format.proofs.Bits.{count_is, count_below}
use Rattle.volume.proofs.EditLaws.{fit_same}
use Rattle.gather.proofs.Copying.{place_length, file_room, file_copied}
use Rattle.gather.proofs.copy_with_file.Goals as goal

pub pages_for-count-requires : goal.pages_for-count-requires
pages_for-count-requires c =
    omega (arith, c.data_capacity.ensures, capacity_least c.args.g c.requires.fit.0.valid)

pub overflow_add-count : goal.overflow_add-count
overflow_add-count c =
    let a = c.args in
    let s = c.requires in
    let K = s.table_len.1 in
    let valid = s.fit.0.valid in
    let n = count_is a.g valid _ _ c.bitmap_size.ensures c.data_capacity.ensures _ c.pages_for-count.ensures in
    omega (arith, count_below a.g valid _ _ c.bitmap_size.ensures c.data_capacity.ensures _ c.pages_for-count.ensures, valid.few)

pub lay_root-size-requires : goal.lay_root-size-requires
lay_root-size-requires c =
    let a = c.args in
    let s = c.requires in
    let K = s.table_len.1 in
    let valid = s.fit.0.valid in
    let n = count_is a.g valid _ _ c.bitmap_size.ensures c.data_capacity.ensures _ c.pages_for-count.ensures in record {
      fit = s.fit;
      fit_2 = s.fit_2;
      control_bound = (omega arith, ap length c.fill_place.ensures ∙ place_length a.g valid _, file_room a.g a.image.now s.fit.0 s.fit.1 K.tree K.accepted (K.kind K.tree K.accepted) _ n);
    }

pub write_bits-requires : goal.write_bits-requires
write_bits-requires c =
    let a = c.args in
    let s = c.requires in
    let K = s.table_len.1 in
    let valid = s.fit.0.valid in
    let n = count_is a.g valid _ _ c.bitmap_size.ensures c.data_capacity.ensures _ c.pages_for-count.ensures in
    fit_same _ _ _ s.fit_2 c.lay_root-size.auto.second

pub returns : goal.returns
returns c =
    let a = c.args in
    let s = c.requires in
    let K = s.table_len.1 in
    let valid = s.fit.0.valid in
    let n = count_is a.g valid _ _ c.bitmap_size.ensures c.data_capacity.ensures _ c.pages_for-count.ensures in
    file_copied a.g a.image.now s.fit.0 s.fit.1 (λ i q. K.kind i q) _ n _ (empty_zero a.g.pages a.table.now _ s.table_len.0 c.clear.ensures)
    _ c.fill_place.ensures _ _ c.lay_root-size.ensures _ c.write_bits.ensures
