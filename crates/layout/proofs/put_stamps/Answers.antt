-- The stamps lie before the entry in its page; they are copied as they stand.
use mathlib.Core.Path.{ap, ◌∙◌}
use mathlib.Core.List.{List}
use Prim.Native.Nat.{ℕ}
use native.Mathlib.Omega.{arith}
use lib.ListN.{length}
use Rattle.geometry.specs.Page.{overwritten}
use Rattle.geometry.specs.PageLaws.{page_length}
use Rattle.layout.proofs.AddedEntries.{stamps_inside, stamps_are, stamps_size}
use Rattle.layout.proofs.put_stamps.Goals as goal

pub overflow_mul-from : goal.overflow_mul-from
overflow_mul-from c =
    let s = c.requires.buffer_len in
    omega (arith, stamps_inside c.args.g c.args.here c.args.stamps _ c.entry_size-size.ensures.0 s.2 s.3 s.4, c.requires.fit.valid.most)

pub overflow_add-from-2 : goal.overflow_add-from-2
overflow_add-from-2 c =
    let s = c.requires.buffer_len in
    omega (arith, stamps_inside c.args.g c.args.here c.args.stamps _ c.entry_size-size.ensures.0 s.2 s.3 s.4, c.requires.fit.valid.most)

pub overflow_mul-to : goal.overflow_mul-to
overflow_mul-to c =
    let s = c.requires.buffer_len in
    omega (arith, stamps_inside c.args.g c.args.here c.args.stamps _ c.entry_size-size.ensures.0 s.2 s.3 s.4, c.requires.fit.valid.most)

pub overflow_add-to : goal.overflow_add-to
overflow_add-to c =
    let s = c.requires.buffer_len in
    omega (arith, stamps_inside c.args.g c.args.here c.args.stamps _ c.entry_size-size.ensures.0 s.2 s.3 s.4, c.requires.fit.valid.most)

pub slice_bounds-put_bytes-end : goal.slice_bounds-put_bytes-end
slice_bounds-put_bytes-end c =
    let s = c.requires.buffer_len in
    omega (arith, stamps_inside c.args.g c.args.here c.args.stamps _ c.entry_size-size.ensures.0 s.2 s.3 s.4, ap length c.page_of-page.ensures, page_length _ _ _ c.requires.fit s.2.inside)

pub put_bytes-requires : goal.put_bytes-requires
put_bytes-requires c =
    let s = c.requires.buffer_len in
    omega (arith, stamps_size c.args.g c.args.here c.args.stamps _ c.entry_size-size.ensures.0 s.2 s.3 s.4 _ _ c.page_of-page.ensures, s.1, s.0)

pub returns : goal.returns
returns c =
    let s = c.requires.buffer_len in
    c.put_bytes.ensures ∙ ap (λ (l : List ℕ). overwritten c.args.held l c.args.buffer.now)
    (stamps_are c.args.g c.args.here c.args.stamps _ c.entry_size-size.ensures.0 s.2 s.3 s.4 _ _ c.page_of-page.ensures)
