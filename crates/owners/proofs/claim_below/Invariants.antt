-- The loop: the pages passed have an owner, the others are as they were.
use mathlib.Core.Path.{◌≡◌}
use lib.ListN.{length}
use Rattle.owners.specs.Records.{records_of}
use Rattle.owners.specs.Owned.{ClaimsBelow}
use Rattle.owners.proofs.claim_below.Given as goal

abbrev pub invariant-loop-page : goal.invariant-loop-page
invariant-loop-page l = record { sized : length l.table ≡ length l.initial.table; claimed : ClaimsBelow (records_of l.initial.table) l.page (records_of l.table) }
