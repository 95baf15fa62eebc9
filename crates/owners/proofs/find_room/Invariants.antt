-- The loop: the free pages passed and those still looked for are as many as were asked for.
use Prim.Native.Nat.{◌<◌}
use Rattle.owners.specs.Records.{records_of}
use Rattle.owners.proofs.Finding.{Counted}
use Rattle.owners.proofs.find_room.Given as goal

abbrev pub invariant-loop-page : goal.invariant-loop-page
invariant-loop-page l = record { some : 0 < l.left; counted : Counted (records_of l.table) l.need l.left l.page }
