-- Whether the entries from the place on have the key is what is left to search; the place is behind the entries passed.
use mathlib.Core.Path.{◌≡◌}
use Prim.Native.Nat.{◌+◌, ◌-◌, ◌*◌}
use lib.ListN.{drop}
use Rattle.geometry.specs.Geometry.{entry_size}
use Rattle.rules.specs.PageSets.{mem}
use Rattle.entries.specs.EntrySlots.{keys_from}
use Rattle.entries.proofs.page_has.Given as goal

abbrev pub invariant-loop : goal.invariant-loop
invariant-loop l = record {
  place : l.at ≡ l.from + entry_size l.g * l.counter;
  same : mem l.key (keys_from l.g l.m (drop l.from l.page)) ≡ mem l.key (keys_from l.g (l.m - l.counter) (drop l.at l.page));
}
