-- Page 0's bytes in the buffer, the bitmap's four bytes put among them, then the page's write.
use mathlib.Core.Path.{sym}
use native.Mathlib.Omega.{arith}
use Rattle.marks.specs.MapPages.{WritesLocal}
use Rattle.marks.proofs.RootPage.{root_there, root_size, root_fits, root_written}
use Rattle.marks.proofs.write_root.Goals as goal

pub slice_bounds-write-end : goal.slice_bounds-write-end
slice_bounds-write-end c =
    let s = c.requires in
    root_there _ _ s.fit _ _ _ _ _ c.copy_root-packet.ensures _ _ _ s.buffer_len.1.stands c.fill.ensures

pub slice_bounds-write-end-2 : goal.slice_bounds-write-end-2
slice_bounds-write-end-2 c =
    let s = c.requires in
    sym (root_size _ _ s.fit _ _ _ _ _ c.copy_root-packet.ensures _ _ _ s.buffer_len.1.stands c.fill.ensures)

pub write-requires : goal.write-requires
write-requires c =
    let s = c.requires in record {
      fit = s.fit;
      p_lt_pages = (
        omega (arith, s.fit.valid.some),
        root_fits _ _ s.fit _ _ _ _ _ c.copy_root-packet.ensures _ _ _ s.buffer_len.1.stands c.fill.ensures,
      );
    }

pub returns : goal.returns
unfolding WritesLocal
returns c =
    λ bits rest next l.
    root_written _ _ c.requires.fit _ _ _ _ _ c.copy_root-packet.ensures bits rest next l c.fill.ensures _ _ c.write.ensures
