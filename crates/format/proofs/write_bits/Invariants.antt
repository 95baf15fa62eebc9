-- The invariant: the pages and bytes of the bitmap file that are left to write, written to the image as it is, give the whole, and end with the last page.
use mathlib.Core.Path.{◌≡◌}
use Prim.Native.Nat.{◌+◌, ◌-◌}
use lib.ListN.{length}
use Rattle.owners.specs.Records.{records_of}
use Rattle.rules.specs.Chain.{pages_for}
use Rattle.format.proofs.Bits.{Held}
use Rattle.format.proofs.write_bits.Given as goal

abbrev pub invariant-loop-page : goal.invariant-loop-page
invariant-loop-page l = record {
  sized : length l.image ≡ length l.initial.image;
  held : Held l.g (records_of l.table) l.below l.initial.image l.image l.capacity l.page l.done (l.size - l.done);
  counts : l.page + pages_for l.capacity (l.size - l.done) ≡ l.last + 1;
}
