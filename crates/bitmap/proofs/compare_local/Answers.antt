-- The four bytes of a local bitmap are the whole bitmap: none stand before them, so what is said of a part from byte 0 on is said of all.
use Rattle.owners.specs.Records.{records_of}
use Rattle.bitmap.proofs.BitLaws.{judged_all}
use Rattle.bitmap.proofs.compare_local.Goals as goal

pub returns : goal.returns
returns c =
    let a = c.args in judged_all a.bytes.now (records_of a.table.now) c.compare_bytes.result c.compare_bytes.ensures
