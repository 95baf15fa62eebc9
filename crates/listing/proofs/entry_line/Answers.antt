-- A subdirectory's line has no bytes; a file's are those of its chain.
use mathlib.Core.Path.{sym, ◌∙◌}
use Rattle.rules.specs.Chain.{views_of}
use Rattle.listing.proofs.Lines.{directory_head, file_head, file_known}
use Rattle.listing.proofs.entry_line.Goals as goal

pub returns-then-is_directory : goal.returns-then-is_directory
returns-then-is_directory c =
    let a = c.args in
    directory_head a.g (views_of a.g a.image.now) a.levels a.level a.e (sym c.is_directory.ensures ∙ c.if-is_directory.true) _ c.line_of.ensures

pub chain_bytes-requires : goal.chain_bytes-requires
chain_bytes-requires c =
    let a = c.args in
    let s = c.requires in record { fit = s.fit; known_chain = file_known _ _ a.levels a.level a.e (sym c.is_directory.ensures ∙ c.if-is_directory.false) s.has_part }

pub returns : goal.returns
returns c =
    let a = c.args in
    file_head a.g (views_of a.g a.image.now) a.levels a.level a.e (sym c.is_directory.ensures ∙ c.if-is_directory.false) _ _ c.chain_bytes.ensures c.line_of-2.ensures
