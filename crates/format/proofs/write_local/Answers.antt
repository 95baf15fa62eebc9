-- Only page 0 is in use, so the bitmap's four bytes are 1, 0, 0, 0, and the root's page is the one page to write.
use Rattle.geometry.specs.NumberLaws.{bytes_from}
use Rattle.format.proofs.Emptying.{local_emptied}
use Rattle.format.proofs.write_local.Goals as goal

pub returns : goal.returns
returns c =
    local_emptied c.args.g c.args.image.now _ c.requires (bytes_from c.args.image.now (λ i. (c.slice_known-1.given i).fits)) c.write_root.ensures
