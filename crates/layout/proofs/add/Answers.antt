-- The stamps, then the entry with its new start page.
use native.Mathlib.Omega.{arith}
use Rattle.layout.proofs.AddedEntries.{entry_end, entry_ends, now_long, entry_part, entry_added}
use Rattle.layout.proofs.add.Goals as goal

pub put_stamps-requires : goal.put_stamps-requires
put_stamps-requires c =
    let s = c.requires.holding in record { fit = c.requires.fit; buffer_len = (s.0.long, omega (arith, entry_end _ _ _ c.args.stamps s.0 s.1), s.3, s.4, s.5) }

pub overflow_mul-at : goal.overflow_mul-at
overflow_mul-at c =
    let s = c.requires.holding in
    omega (arith, entry_ends _ _ _ c.args.stamps s.0 s.1 _ c.entry_size-size.ensures.0)

pub overflow_add-at : goal.overflow_add-at
overflow_add-at c =
    let s = c.requires.holding in
    omega (arith, entry_ends _ _ _ c.args.stamps s.0 s.1 _ c.entry_size-size.ensures.0)

pub overflow_add-end : goal.overflow_add-end
overflow_add-end c =
    let s = c.requires.holding in
    omega (arith, entry_ends _ _ _ c.args.stamps s.0 s.1 _ c.entry_size-size.ensures.0)

pub slice_bounds-put_entry-end : goal.slice_bounds-put_entry-end
slice_bounds-put_entry-end c =
    let s = c.requires.holding in
    omega (
      arith,
      entry_ends _ _ _ c.args.stamps s.0 s.1 _ c.entry_size-size.ensures.0,
      now_long _ _ _ c.args.stamps s.0 s.1 c.args.image.now c.args.here _ c.put_stamps.ensures _ c.entry_size-size.ensures.0,
    )

pub put_entry-requires : goal.put_entry-requires
put_entry-requires c =
    let s = c.requires.holding in
    (entry_part _ _ _ c.args.stamps s.0 s.1 c.args.image.now c.args.here _ c.put_stamps.ensures _ c.entry_size-size.ensures.0, c.requires.fit.valid.two)

pub returns : goal.returns
returns c =
    let s = c.requires.holding in
    entry_added _ _ _ c.args.stamps s.0 s.1 c.args.image.now c.args.here _ c.put_stamps.ensures _ c.entry_size-size.ensures.0
    c.args.e _ _ _ c.pages_of.ensures c.put_entry.ensures
