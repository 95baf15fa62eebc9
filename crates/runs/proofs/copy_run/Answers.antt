use mathlib.Core.Path.{refl, sym, ◌∙◌}
use Prim.Native.Nat.{ℕ}
use native.Mathlib.Omega.{arith}
use lib.ListN.{length-replicate}
use lib.Seq.{length-take-le}
use Rattle.editing_theorems.specs.Capacity.{capacity_is}
use Rattle.chain.proofs.Following.{page_known, counts_up, data_inside}
use Rattle.runs.proofs.RunLaws.{run_first, ready, run_on, page_left, last_room, lays_all}
use Rattle.runs.proofs.copy_run.Goals as goal

pub data_capacity-capacity-requires : goal.data_capacity-capacity-requires
data_capacity-capacity-requires c = c.requires.fit.valid

pub loop-next-init : goal.loop-next-init
loop-next-init c = (refl, length-replicate {A = ℕ} 256 0, omega arith, λ ls d. run_first _ _ _ _ _ _ _ ls c.new-c.ensures d)

pub follow-size-requires : goal.follow-size-requires
follow-size-requires c =
    let s = c.requires in
    let l = c.loop-next.invariant.3 s.known_run.links s.known_run.chain in record { fit = s.fit; counted = (let k = page_known _ _ s.fit _ _ _ l.following in (l.following.counted, k.0, k.1)) }

pub page_of-requires : goal.page_of-requires
page_of-requires c =
    let s = c.requires in
    let l = c.loop-next.invariant.3 s.known_run.links s.known_run.chain in record { fit = s.fit; page_lt_pages = (page_known _ _ s.fit _ _ _ l.following).0 }

pub data_of-bytes-requires : goal.data_of-bytes-requires
data_of-bytes-requires c =
    let s = c.requires in
    let l = c.loop-next.invariant.3 s.known_run.links s.known_run.chain in
    data_inside _ _ s.fit _ _ _ l.following _ _ c.follow-size.ensures _ c.page_of.ensures

pub take_in-f-requires : goal.take_in-f-requires
take_in-f-requires c =
    let s = c.requires in
    let i = c.loop-next.invariant in
    let l = i.3 s.known_run.links s.known_run.chain in record {
      fit = record { valid = s.fit_2.valid; whole = i.0 ∙ s.fit_2.whole };
      ready = ready _ _ s.fit _ _ _ _ _ _ _ l _ _ c.follow-size.ensures _ c.page_of.ensures _ c.data_of-bytes.ensures _ c.data_capacity-capacity.ensures i.1 i.2 s.known_run.room;
    }

pub slice_bounds-buffer-end : goal.slice_bounds-buffer-end
slice_bounds-buffer-end c =
    let t = c.take_in-f.ensures in omega (arith, t.held, t.long, capacity_is c.args.g, c.requires.fit.valid.most)

pub slice_bounds-write_page-end : goal.slice_bounds-write_page-end
slice_bounds-write_page-end c =
    let t = c.take_in-f.ensures in sym (length-take-le _ _ (omega (arith, t.held, t.long, capacity_is c.args.g, c.requires.fit.valid.most)))

pub write_page-requires : goal.write_page-requires
write_page-requires c =
    let s = c.requires in
    let i = c.loop-next.invariant in
    let l = i.3 s.known_run.links s.known_run.chain in
    let t = c.take_in-f.ensures in record {
      fit = record { valid = s.fit_2.valid; whole = t.fits ∙ i.0 ∙ s.fit_2.whole };
      p_lt_pages = (
        page_left _ _ s.fit _ _ _ _ _ _ _ l _ _ c.follow-size.ensures _ c.page_of.ensures _ c.data_of-bytes.ensures _ _ _ t s.known_run.room,
        last_room _ _ s.fit _ _ _ _ _ _ _ l _ _ c.follow-size.ensures _ c.page_of.ensures _ c.data_of-bytes.ensures _ _ _ t,
      );
    }

pub overflow_add-result : goal.overflow_add-result
overflow_add-result c =
    let s = c.requires in
    let i = c.loop-next.invariant in
    let l = i.3 s.known_run.links s.known_run.chain in
    let p = page_left _ _ s.fit _ _ _ _ _ _ _ l _ _ c.follow-size.ensures _ c.page_of.ensures _ c.data_of-bytes.ensures _ _ _ c.take_in-f.ensures s.known_run.room in
    omega (arith, p, s.fit.valid.few)

pub returns-then-next-eq0 : goal.returns-then-next-eq0
returns-then-next-eq0 c =
    λ ls d.
    let s = c.requires in
    let l = c.loop-next.invariant.3 ls d in
    lays_all _ _ s.fit _ _ _ _ _ _ _ l _ _ c.follow-size.ensures _ c.page_of.ensures _ c.data_of-bytes.ensures _ _ _
    c.take_in-f.ensures c.if-next-eq0.true _ c.write_page.ensures

pub loop-next-smaller : goal.loop-next-smaller
loop-next-smaller c =
    let s = c.requires in
    let l = c.loop-next.invariant.3 s.known_run.links s.known_run.chain in
    let k = counts_up _ _ s.fit _ _ _ l.following _ _ c.follow-size.ensures in
    omega (arith, k, l.following.steps, l.following.chain.some, s.known_run.chain.few)

pub loop-next-preserved : goal.loop-next-preserved
loop-next-preserved c =
    let s = c.requires in
    let i = c.loop-next.invariant in
    let t = c.take_in-f.ensures in (
      t.fits ∙ i.0,
      t.long,
      omega (arith, t.held, c.data_capacity-capacity.ensures),
      λ ls d. run_on _ _ s.fit _ _ _ _ _ _ _ (i.3 ls d) _ _ c.follow-size.ensures _ c.page_of.ensures _ c.data_of-bytes.ensures _ _ _ t c.if-next-eq0.false d.few,
    )
