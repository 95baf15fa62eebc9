-- Four writes, each directly behind the one before: 1 + 4 + 1 + n bytes fill the slice, and each leaves the earlier ones alone.
use Rattle.directory.proofs.ControlLaws.{control_filled}
use Rattle.directory.proofs.control.put_control.Goals as goal

pub returns : goal.returns
returns c =
    let a = c.args in
    control_filled a.n (record { name = a.name; start = a.start }) _ _ _ _ _ c.requires c.put_number.ensures c.put_number-2.ensures
    c.put_number-3.ensures c.put_number-4.ensures
