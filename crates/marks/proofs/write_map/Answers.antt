-- Page 0 tells where the bitmap is; the one or the other way writes it.
use Rattle.marks.proofs.MapPlace.{has_local, map_local, has_file, map_file}
use Rattle.marks.proofs.write_map.Goals as goal

pub write_local-requires : goal.write_local-requires
write_local-requires c =
    let s = c.requires in record { fit = s.fit; has_local = has_local _ _ _ c.is_local.ensures c.if-is_local.true s.has_root.0 }

pub returns-then-is_local : goal.returns-then-is_local
returns-then-is_local c =
    map_local _ _ _ c.is_local.ensures c.if-is_local.true _ _ _ _ _ c.write_local.ensures

pub write_file-requires : goal.write_file-requires
write_file-requires c =
    let s = c.requires in record { fit = s.fit; has_map_file = (has_file _ _ _ c.is_local.ensures c.if-is_local.false _ c.map_start-start.ensures s.has_root.0, s.has_root.1) }

pub returns : goal.returns
returns c =
    map_file _ _ _ c.is_local.ensures c.if-is_local.false _ c.map_start-start.ensures _ _ _ _ _ c.write_file.ensures
