-- The page's data are put together in an array, and written.
use mathlib.Core.Path.{refl, sym, ap, ◌∙◌}
use mathlib.Core.List.{List}
use Prim.Native.Nat.{ℕ, ◌+◌, ◌-◌}
use native.Mathlib.Omega.{arith}
use lib.ListN.{length, length-replicate}
use lib.Seq.{length-take-le}
use Rattle.packet.specs.Packet.{write}
use Rattle.packet.specs.Budgets.{write_one}
use Rattle.writes.proofs.Cutting.{page_good, page_below, parts, in_page_lem, data_size, spliced_data}
use Rattle.writes.proofs.rewrite.Goals as goal

pub follow-size-requires : goal.follow-size-requires
follow-size-requires c =
    let p = c.requires in
    let k = page_good p.fit p.page_lt_pages.0 p.page_lt_pages.1 c.new.ensures in
    record { fit = p.fit; counted = (k.0, page_below p.fit p.page_lt_pages.0 p.page_lt_pages.1 c.new.ensures, k.1) }

pub data_of-bytes-requires : goal.data_of-bytes-requires
data_of-bytes-requires c =
    let p = c.requires in
    in_page_lem p.fit p.page_lt_pages.0 p.page_lt_pages.1 c.new.ensures c.follow-size.ensures _ c.page_of.ensures

pub splice-requires : goal.splice-requires
splice-requires c =
    let p = c.requires in
    let k = parts p.fit p.page_lt_pages.0 p.page_lt_pages.1 c.new.ensures c.follow-size.ensures in
    let n = data_size p.fit p.page_lt_pages.0 p.page_lt_pages.1 c.new.ensures c.follow-size.ensures _
    c.page_of.ensures _ c.data_of-bytes.ensures in
    (k.0, omega (arith, k, n), omega (arith, k, n))

pub overflow_add-end : goal.overflow_add-end
overflow_add-end c =
    let p = c.requires in
    omega (arith, parts p.fit p.page_lt_pages.0 p.page_lt_pages.1 c.new.ensures c.follow-size.ensures)

pub overflow_sub-end : goal.overflow_sub-end
overflow_sub-end c =
    let p = c.requires in
    omega (arith, parts p.fit p.page_lt_pages.0 p.page_lt_pages.1 c.new.ensures c.follow-size.ensures)

pub overflow_add-end-2 : goal.overflow_add-end-2
overflow_add-end-2 c =
    let p = c.requires in
    omega (arith, parts p.fit p.page_lt_pages.0 p.page_lt_pages.1 c.new.ensures c.follow-size.ensures)

pub slice_bounds-kept-end : goal.slice_bounds-kept-end
slice_bounds-kept-end c =
    let p = c.requires in
    let k = parts p.fit p.page_lt_pages.0 p.page_lt_pages.1 c.new.ensures c.follow-size.ensures in
    omega (arith, k, c.splice.auto.out, length-replicate {A = ℕ} 256 0)

pub slice_bounds-write-end : goal.slice_bounds-write-end
slice_bounds-write-end c =
    let p = c.requires in
    let k = parts p.fit p.page_lt_pages.0 p.page_lt_pages.1 c.new.ensures c.follow-size.ensures in
    sym (length-take-le _ c.splice.new.out (omega (arith, k, c.splice.auto.out, length-replicate {A = ℕ} 256 0)))

pub write-requires : goal.write-requires
write-requires c =
    let a = c.args in
    let p = c.requires in
    let k = parts p.fit p.page_lt_pages.0 p.page_lt_pages.1 c.new.ensures c.follow-size.ensures in
    let z = length-take-le (a.from + length a.new.now + (c.follow-size.result.0 - a.to)) c.splice.new.out
    (omega (arith, k, c.splice.auto.out, length-replicate {A = ℕ} 256 0)) in record { fit = p.fit; p_lt_pages = (p.page_lt_pages.0, omega (arith, k, z)) }

pub returns : goal.returns
returns c =
    let a = c.args in
    let p = c.requires in
    λ b n E.
    c.write.ensures ∙ ap (λ (x : List ℕ). write_one a.g (write a.page x a.next) (record { image = a.image.now; budget = a.budget }))
    (spliced_data p.fit p.page_lt_pages.0 p.page_lt_pages.1 c.new.ensures c.follow-size.ensures _ c.page_of.ensures
    a.new.now refl _ _ _ c.data_of-bytes.ensures c.splice.ensures b n E)
