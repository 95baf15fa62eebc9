use mathlib.Core.Path.{refl}
use native.Mathlib.Omega.{arith}
use Rattle.owners.specs.RecordLaws.{length_exact}
use Rattle.editing_theorems.specs.Capacity.{capacity_least}
use Rattle.writes.specs.Stores.{Stores}
use Rattle.writes.proofs.Storing.{store_first, store_stop, store_on, store_last, image_fits, data_room}
use borrow.Author.Rules.{rules}
use Rattle.writes.proofs.store_chain.Goals as goal

pub data_capacity-capacity-requires : goal.data_capacity-capacity-requires
data_capacity-capacity-requires c =
    c.requires.fit.valid

pub loop-rest-init : goal.loop-rest-init
loop-rest-init c =
    let s = c.requires.table_len in
    record { sized = refl; storing = λ used r. store_first _ _ _ _ _ _ _ (length_exact _ _ s.0) s.1 s.2 c.next_free-page.ensures used r }

pub overflow_add-page : goal.overflow_add-page
overflow_add-page c =
    let s = c.requires in
    let l = c.loop-rest.invariant.storing s.table_len.1.used s.table_len.1.represents in
    omega (arith, l.below, s.fit.valid.few)

pub write-left-requires : goal.write-left-requires
write-left-requires c =
    let s = c.requires in
    let i = c.loop-rest.invariant in
    let l = i.storing s.table_len.1.used s.table_len.1.represents in
    record { fit = image_fits _ _ _ s.fit i.sized; p_lt_pages = (l.below, data_room _ s.fit.valid _ _ c.data_capacity-capacity.ensures (omega (arith, c.split_at.ensures.front_len))) }

pub returns-then-left : goal.returns-then-left
unfolding Stores
returns-then-left c =
    λ used r.
    store_stop c.data_capacity-capacity.ensures c.requires.fit.valid (length_exact _ _ c.requires.table_len.0) (c.loop-rest.invariant.storing used r) c.loop-rest-test.true _
    c.next_free-next.ensures _ _ _ _ c.split_at.ensures.front c.split_at.ensures.back c.write-left.ensures c.if-left.true

pub loop-rest-smaller : goal.loop-rest-smaller
loop-rest-smaller c =
    omega (arith, c.loop-rest-test.true, c.split_at.ensures.back_len, capacity_least c.args.g c.requires.fit.valid, c.data_capacity-capacity.ensures)

pub loop-rest-preserved : goal.loop-rest-preserved
loop-rest-preserved c = record {
  sized = search rules;
  storing = λ used r.
      store_on c.data_capacity-capacity.ensures c.requires.fit.valid (length_exact _ _ c.requires.table_len.0) (c.loop-rest.invariant.storing used r) c.loop-rest-test.true _
      c.next_free-next.ensures _ _ _ _ c.split_at.ensures.front c.split_at.ensures.back c.write-left.ensures c.if-left.false;
}

pub write-requires : goal.write-requires
write-requires c =
    let s = c.requires in
    let i = c.loop-rest.invariant in
    let l = i.storing s.table_len.1.used s.table_len.1.represents in record { fit = image_fits _ _ _ s.fit i.sized; p_lt_pages = (l.below, data_room _ s.fit.valid _ _ c.data_capacity-capacity.ensures c.loop-rest-test.false) }

pub returns : goal.returns
unfolding Stores
returns c =
    λ used r.
    store_last c.data_capacity-capacity.ensures c.requires.fit.valid (length_exact _ _ c.requires.table_len.0)
    (c.loop-rest.invariant.storing used r) c.loop-rest-test.false _ c.write.ensures
