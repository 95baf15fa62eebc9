use mathlib.Core.Path.{◌≡◌, refl, ◌∙◌}
use Prim.Native.Nat.{◌+◌, ◌-◌}
use native.Mathlib.Omega.{arith}
use Rattle.editing_theorems.specs.Capacity.{capacity_least}
use Rattle.owners.specs.Records.{records_of}
use Rattle.format.proofs.Bits.{held_first, is_full, counts_on, held_on, last_asks, last_held}
use Rattle.format.proofs.write_bits.Goals as goal

pub pages_for-last-requires : goal.pages_for-last-requires
pages_for-last-requires c = omega (arith, capacity_least c.args.g c.requires.valid, c.data_capacity-capacity.ensures)

pub loop-page-init : goal.loop-page-init
loop-page-init c =
    let a = c.args in
    let z : c.bitmap_size-size.result - 0 ≡ c.bitmap_size-size.result = omega arith in
    record {
      sized = refl;
      held = held_first a.g (records_of a.table.now) a.below a.image.now c.data_capacity-capacity.result (c.bitmap_size-size.result - 0) c.requires c.data_capacity-capacity.ensures (z ∙ c.bitmap_size-size.ensures);
      counts = rw z (omega (arith, c.pages_for-last.ensures));
    }

pub loop-page-preserved : goal.loop-page-preserved
loop-page-preserved c =
    let i = c.loop-page.invariant in
    let h = is_full i.held _ i.counts c.loop-page-test.true in
    let less : c.bitmap_size-size.result - (c.loop-page.done + c.data_capacity-capacity.result) ≡ c.bitmap_size-size.result - c.loop-page.done - c.data_capacity-capacity.result = omega arith in
    record {
      sized = c.write_bytes.auto.image ∙ i.sized;
      held = rw less (held_on i.held _ h c.write_bytes.auto.image c.write_bytes.ensures);
      counts = rw less (counts_on i.held _ i.counts h);
    }

-- after the loop the page is the last
pub write_bytes-requires-2 : goal.write_bytes-requires-2
write_bytes-requires-2 c =
    let i = c.loop-page.invariant in
    let e : c.loop-page.page ≡ c.pages_for-last.result = omega (arith, c.loop-page-test.false, c.loop-page.auto.page-end, c.pages_for-last.ensures) in
    record { fit = i.held.fit; page_lt_pages = last_asks i.held _ i.counts e }

pub returns : goal.returns
returns c =
    let i = c.loop-page.invariant in
    let e : c.loop-page.page ≡ c.pages_for-last.result = omega (arith, c.loop-page-test.false, c.loop-page.auto.page-end, c.pages_for-last.ensures) in
    last_held i.held _ i.counts e _ c.write_bytes-2.ensures
