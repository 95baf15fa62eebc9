-- The key is made of the name and the extension of the plain entry that is read at the place.
use Rattle.entries.proofs.ItemLaws.{no_key, its_key}
use Rattle.entries.proofs.has_key.Goals as goal

pub returns-in-Extended : goal.returns-in-Extended
returns-in-Extended c =
    no_key c.args.n c.args.page.now c.args.at _ _ c.read_slot.ensures c.in-Extended.is c.requires.1

pub returns-in-Plain : goal.returns-in-Plain
returns-in-Plain c =
    its_key c.args.n c.args.page.now c.args.at _ _ c.read_slot.ensures _ c.in-Plain.is _ c.key_of.ensures
