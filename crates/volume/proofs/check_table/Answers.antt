-- Over a table without owners both halves are judged; after a refusal the table is cleared again. Its length never changed.
use mathlib.Core.Path.{◌∙◌}
use Rattle.owners.specs.RecordLaws.{empty_zero}
use Rattle.volume.proofs.CheckLaws.{kept, refused_table, not_err}
use Rattle.volume.proofs.check_table.Goals as goal

pub judge-checked-requires : goal.judge-checked-requires
judge-checked-requires c =
    let s = c.requires in record { fit = s.fit; empty = empty_zero c.args.g.pages c.args.table.now _ s.table_len c.clear.ensures }

pub returns-in-Err : goal.returns-in-Err
returns-in-Err c =
    let s = c.requires in
    let z = empty_zero c.args.g.pages c.judge-checked.new.table _ (c.judge-checked.auto.table ∙ c.clear.auto.table ∙ s.table_len) c.clear-in-Err.ensures in
    refused_table _ _ _ _ _ c.judge-checked.ensures _ c.in-Err.is z.free

pub returns : goal.returns
returns c =
    kept _ _ _ _ c.judge-checked.ensures (not_err _ c.in_default.not-Err)
