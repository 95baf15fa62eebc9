-- Name, extension, start page and page count are read where they stand one behind the other; the two page numbers have n bytes, n at most 2, so they are below 65536.
use mathlib.Core.Path.{refl}
use Rattle.directory.proofs.EntryLaws.{narrow, entry_is}
use Rattle.directory.proofs.entries.entry_at.Goals as goal

pub returns : goal.returns
returns c =
    let a = c.args in (
      entry_is a.at a.n _ _ _ _ a.bytes.now c.number_at.ensures.0 refl c.number_at-2.ensures.0 c.number_at-3.ensures.0,
      narrow _
          a.n c.requires.1 c.number_at-2.ensures.1,
      narrow _ a.n c.requires.1 c.number_at-3.ensures.1,
    )
