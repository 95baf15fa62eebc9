-- The first byte must be a name byte, and the three bytes after it are the tail.
use Rattle.std.proofs.Common.{◌∙◌}
use Rattle.directory.proofs.NameLaws.{le_bytes, name_begins, name_not}
use Rattle.directory.proofs.names.valid_name.Goals as goal

pub returns-then-name_byte : goal.returns-then-name_byte
returns-then-name_byte c = name_begins _ _ (c.to_le_bytes-bytes.ensures ∙ le_bytes _) _ c.name_byte.ensures _ c.if-name_byte.true c.valid_tail.ensures

pub returns-else-name_byte : goal.returns-else-name_byte
returns-else-name_byte c = name_not _ _ (c.to_le_bytes-bytes.ensures ∙ le_bytes _) _ c.name_byte.ensures c.if-name_byte.false
