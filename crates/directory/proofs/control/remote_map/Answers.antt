-- The four bytes are 4 - 2n zeros, the start page and the page count, each of n bytes: zeros that are none are 4, else the two numbers are the place.
use Rattle.directory.proofs.ControlLaws.{no_place, a_place}
use Rattle.directory.proofs.control.remote_map.Goals as goal

pub returns-then-number_at-ne0 : goal.returns-then-number_at-ne0
returns-then-number_at-ne0 c =
    no_place _ _ c.requires.0 c.requires.1 _ c.number_at.ensures.0 c.if-number_at-ne0.true

pub returns : goal.returns
returns c =
    a_place _ _ c.requires.0 c.requires.1 _ c.number_at.ensures.0 c.if-number_at-ne0.false _ _ c.number_at-2.ensures.0 c.number_at-3.ensures.0
