-- The entry's page is written without it; unless a write was held back, the bitmap follows.
use Rattle.owners.specs.Records.{records_of}
use Rattle.edit.proofs.Removing.{remove_can, remove_stop, remove_fit, remove_done}
use Rattle.edit.proofs.remove_entry.Goals as goal

pub change_pages-changed-requires : goal.change_pages-changed-requires
change_pages-changed-requires c =
    let a = c.args in
    let p = c.requires in record { fit = p.fit; can_change = (remove_can a.g a.image.now (records_of a.table.now) a.slot a.stamps a.budget p.removal.3 p.removal.0, p.removal.3) }

pub returns-then-changed : goal.returns-then-changed
returns-then-changed c =
    let a = c.args in
    λ R. remove_stop a.g a.image.now (records_of a.table.now) a.slot a.stamps a.budget c.requires.removal.3 R _ _ c.change_pages-changed.ensures c.if-changed.true

pub write_map-requires : goal.write_map-requires
write_map-requires c =
    let a = c.args in
    let p = c.requires.removal in
    let k = remove_fit a.g a.image.now (records_of a.table.now) a.slot a.stamps a.budget p.3 p.0 _ _ c.change_pages-changed.ensures c.if-changed.false in record { fit = k.0; has_root = (k.1, c.if-changed.false) }

pub returns : goal.returns
returns c =
    let a = c.args in
    λ R. remove_done a.g a.image.now (records_of a.table.now) a.slot a.stamps a.budget c.requires.removal.3 R _ _ c.change_pages-changed.ensures c.if-changed.false _ _
    c.write_map.ensures
