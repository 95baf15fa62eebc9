-- The loop: the pages that are left, made free, give the whole. The pages that can still be passed fall.
use mathlib.Core.Path.{◌≡◌}
use mathlib.Core.List.{List}
use Prim.Native.Nat.{◌-◌}
use lib.ListN.{length}
use Rattle.packet.specs.Packet.{view_of}
use Rattle.rules.specs.Chain.{Link, pages}
use Rattle.owners.specs.Records.{records_of}
use Rattle.owners.specs.Owned.{freed}
use Rattle.chain.specs.KnownChain.{ChainAt}
use Rattle.chain.proofs.Releasing.{Releasing}
use Rattle.chain.proofs.release_chain.Given as goal

abbrev pub invariant-loop-g : goal.invariant-loop-g
invariant-loop-g l =
    (length l.table ≡ length l.initial.table)
    × ((ls : List Link) → ChainAt l.g (view_of l.g l.image) l.start ls → Releasing l.g (view_of l.g l.image) (length ls) (freed (pages ls) (records_of l.initial.table)) (records_of l.table) l.c)

abbrev pub decreases-loop-g : goal.decreases-loop-g
decreases-loop-g l = l.g.pages - l.c.count
