-- Number and attribute of the extension byte are the rules'.
use Rattle.listing.proofs.Lines.{line_is}
use Rattle.listing.proofs.line_of.Goals as goal

pub returns : goal.returns
returns c = let a = c.args in line_is a.level a.e a.length c.extension_of-x.result c.extension_of-x.ensures
