use mathlib.Core.Path.{refl, sym, ◌∙◌}
use native.Mathlib.Omega.{arith}
use Rattle.chain.proofs.Following.{page_known, counts_up}
use Rattle.marks.specs.MapPages.{WritesFile}
use Rattle.marks.proofs.MapFile.{write_first, part_there, part_size_lem, part_small, data_there, data_size, data_room, buffer_kept, written_stop, written_all, write_on}
use borrow.Author.Rules.{rules}
use Rattle.marks.proofs.write_pages.Goals as goal

pub loop-left-init : goal.loop-left-init
loop-left-init c =
    (refl, refl, λ ls d. write_first _ _ _ _ _ ls _ _ c.requires.fit c.requires.buffer_len.2 c.new-c.ensures d)

pub follow-size-requires : goal.follow-size-requires
follow-size-requires c =
    let s = c.requires.buffer_len.1 in
    let l = c.loop-left.invariant.2 s.links s.stands in record { fit = l.fit; counted = (let k = page_known _ _ l.fit _ _ _ l.following in (l.following.counted, k.0, k.1)) }

pub slice_bounds-fill-end : goal.slice_bounds-fill-end
slice_bounds-fill-end c =
    let s = c.requires.buffer_len in
    let i = c.loop-left.invariant in
    let l = i.2 s.1.links s.1.stands in
    part_there l c.follow-size.ensures c.loop-left.buffer (i.1 ∙ s.0)

pub slice_bounds-fill-end-in-loop-left : goal.slice_bounds-fill-end-in-loop-left
slice_bounds-fill-end-in-loop-left c =
    let s = c.requires.buffer_len in
    let i = c.loop-left.invariant in
    let l = i.2 s.1.links s.1.stands in
    sym (part_size_lem l c.follow-size.ensures c.loop-left.buffer (i.1 ∙ s.0))

pub overflow_mul-c : goal.overflow_mul-c
overflow_mul-c c =
    let s = c.requires.buffer_len in
    let i = c.loop-left.invariant in
    let l = i.2 s.1.links s.1.stands in
    omega (arith, part_small l c.follow-size.ensures c.loop-left.buffer (i.1 ∙ s.0))

pub fill-requires : goal.fill-requires
fill-requires c =
    let s = c.requires.buffer_len in
    let i = c.loop-left.invariant in
    let l = i.2 s.1.links s.1.stands in
    part_small l c.follow-size.ensures c.loop-left.buffer (i.1 ∙ s.0)

pub slice_bounds-write-end : goal.slice_bounds-write-end
slice_bounds-write-end c =
    let s = c.requires.buffer_len in
    let i = c.loop-left.invariant in
    let l = i.2 s.1.links s.1.stands in
    data_there l c.follow-size.ensures c.loop-left.buffer (i.1 ∙ s.0) _ c.fill.ensures

pub slice_bounds-write-end-in-loop-left : goal.slice_bounds-write-end-in-loop-left
slice_bounds-write-end-in-loop-left c =
    let s = c.requires.buffer_len in
    let i = c.loop-left.invariant in
    let l = i.2 s.1.links s.1.stands in
    sym (data_size l c.follow-size.ensures c.loop-left.buffer (i.1 ∙ s.0) _ c.fill.ensures)

pub write-left-requires : goal.write-left-requires
write-left-requires c =
    let s = c.requires.buffer_len in
    let i = c.loop-left.invariant in
    let l = i.2 s.1.links s.1.stands in record { fit = l.fit; p_lt_pages = data_room l c.follow-size.ensures c.loop-left.buffer (i.1 ∙ s.0) _ c.fill.ensures }

pub returns-then-left : goal.returns-then-left
unfolding WritesFile
returns-then-left c =
    λ ls d.
    let i = c.loop-left.invariant in
    written_stop (i.2 ls d) c.follow-size.ensures c.loop-left.buffer (i.1 ∙ c.requires.buffer_len.0) _ c.fill.ensures _ _
    c.write-left.ensures c.if-left.true

pub returns-then-next-eq0 : goal.returns-then-next-eq0
unfolding WritesFile
returns-then-next-eq0 c =
    λ ls d.
    let i = c.loop-left.invariant in
    written_all (i.2 ls d) c.follow-size.ensures c.loop-left.buffer (i.1 ∙ c.requires.buffer_len.0) _ c.fill.ensures _ _
    c.write-left.ensures c.if-next-eq0.true

pub loop-left-smaller : goal.loop-left-smaller
loop-left-smaller c =
    let s = c.requires.buffer_len in
    let l = c.loop-left.invariant.2 s.1.links s.1.stands in
    let k = counts_up _ _ l.fit _ _ _ l.following _ _ c.follow-size.ensures in
    omega (arith, l.following.steps, l.following.chain.some, s.1.stands.chain.few)

pub loop-left-preserved : goal.loop-left-preserved
loop-left-preserved c =
    let s = c.requires.buffer_len in
    let i = c.loop-left.invariant in
    let l = i.2 s.1.links s.1.stands in (
      search rules,
      buffer_kept l c.follow-size.ensures c.loop-left.buffer (i.1 ∙ s.0) _ c.fill.ensures ∙ i.1,
      λ ls d.
          write_on (i.2 ls d) c.follow-size.ensures c.loop-left.buffer (i.1 ∙ c.requires.buffer_len.0) _ c.fill.ensures _ _
          c.write-left.ensures c.if-left.false c.if-next-eq0.false d.chain.few,
    )
