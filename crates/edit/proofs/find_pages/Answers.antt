-- Room for all pages; then the first free page, and, if one joins, the next.
use native.Mathlib.Omega.{arith}
use Rattle.owners.specs.RecordLaws.{length_records}
use Rattle.edit.proofs.Taking.{too_few, first_inside, none_joins, one_joins}
use Rattle.edit.proofs.find_pages.Goals as goal

pub returns-then-extra-eq0 : goal.returns-then-extra-eq0
returns-then-extra-eq0 c =
    none_joins _ _ _ c.requires.1 _ c.find_room.ensures _ c.in_ok-below.was _ c.next_free-first.ensures c.if-extra-eq0.true

pub overflow_add-first : goal.overflow_add-first
overflow_add-first c =
    omega (arith, length_records c.args.table.now, first_inside _ c.args.extra c.args.pages c.requires.1 _ c.find_room.ensures _ c.in_ok-below.was _ c.next_free-first.ensures)

pub returns-in_err-below : goal.returns-in_err-below
returns-in_err-below c =
    rw c.from_residual.ensures (too_few _ _ _ c.requires.1 _ c.find_room.ensures c.in_err-below.was)

pub returns : goal.returns
returns c =
    one_joins _ _ _ c.requires.1 _ c.find_room.ensures _ c.in_ok-below.was _ c.next_free-first.ensures (omega (arith, c.if-extra-eq0.false, c.requires.0)) _
    c.next_free.ensures
