-- A page of the bitmap file has at most the data capacity of bytes, no more than the array's 252; the marks fill the array's front, and that front is what the page gets.
use mathlib.Core.Path.{sym}
use native.Mathlib.Omega.{arith}
use Rattle.owners.specs.Records.{records_of}
use Rattle.marks.specs.MarkLaws.{length_marks}
use Rattle.packet.proofs.Fronts.{zeros_front, front_room, front_size, front_written}
use Rattle.format.proofs.Fields.{front_fits, capacity_most, marks_front}
use Rattle.format.proofs.write_bytes.Goals as goal

pub slice_bounds-bytes-end : goal.slice_bounds-bytes-end
slice_bounds-bytes-end c = capacity_most c.args.g c.requires.fit.valid _ c.requires.page_lt_pages.1

pub slice_bounds-fill-end : goal.slice_bounds-fill-end
slice_bounds-fill-end c =
    sym (zeros_front c.args.size 252 (capacity_most c.args.g c.requires.fit.valid _ c.requires.page_lt_pages.1))

pub fill-requires : goal.fill-requires
fill-requires c =
    let z = zeros_front c.args.size 252 (capacity_most c.args.g c.requires.fit.valid _ c.requires.page_lt_pages.1) in
    omega (arith, z, c.requires.page_lt_pages.2)

pub slice_bounds-bytes-end-2 : goal.slice_bounds-bytes-end-2
slice_bounds-bytes-end-2 c =
    let h = capacity_most c.args.g c.requires.fit.valid _ c.requires.page_lt_pages.1 in
    front_room _ _ _ _ (marks_front (records_of c.args.table.now) _ _ _ c.args.size 252 h c.fill.ensures) (length_marks (records_of c.args.table.now) _ _ _)

pub slice_bounds-write_page-end : goal.slice_bounds-write_page-end
slice_bounds-write_page-end c =
    let h = capacity_most c.args.g c.requires.fit.valid _ c.requires.page_lt_pages.1 in
    front_size _ _ _ _ (marks_front (records_of c.args.table.now) _ _ _ c.args.size 252 h c.fill.ensures) (length_marks (records_of c.args.table.now) _ _ _)

pub write_page-requires : goal.write_page-requires
write_page-requires c =
    let h = capacity_most c.args.g c.requires.fit.valid _ c.requires.page_lt_pages.1 in record {
      fit = c.requires.fit;
      p_lt_pages = (
        c.requires.page_lt_pages.0,
        front_fits _ _ _ _ (marks_front (records_of c.args.table.now) _ _ _ c.args.size 252 h c.fill.ensures) (length_marks (records_of c.args.table.now) _ _ _)
            c.args.g c.requires.fit.valid c.requires.page_lt_pages.1,
      );
    }

pub returns : goal.returns
returns c =
    let h = capacity_most c.args.g c.requires.fit.valid _ c.requires.page_lt_pages.1 in
    front_written _ _ _ _ (marks_front (records_of c.args.table.now) _ _ _ c.args.size 252 h c.fill.ensures) (length_marks (records_of c.args.table.now) _ _ _) c.args.g _ _ _ _
    c.write_page.ensures
