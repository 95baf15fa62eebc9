-- The six bytes of the array are blank, three digits, blank and the letter that `letter_of` gives, in the order of the rule; they are written as one text.
use Rattle.text.proofs.put_kind.Goals as goal

pub returns : goal.returns
returns c =
    rw c.letter_of.ensures at c.put_bytes.ensures
