-- The text of the bytes read is the text of every dump that they are the whole or the front of, and the output has room for it.
use Rattle.std.proofs.Common.{refl}
use Rattle.list.proofs.Room.{laid_or}
use Rattle.list.proofs.text_of.Goals as goal

pub returns : goal.returns
returns c =
    let l = laid_or _ _ _ c.list_text.result c.requires.2 c.list_text.ensures c.args.input.now c.args.n _ c.requires.1 refl c.unwrap_or.ensures in
    record { prefix_len = l.0; prints_text = l.1 }
