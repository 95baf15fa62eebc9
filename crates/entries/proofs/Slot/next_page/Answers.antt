-- No page is to come where the next page's number is 0; else that page is the chain's next, and is opened.
use native.Mathlib.Omega.{arith}
use Rattle.entries.proofs.Stepping.{page_end, page_there, page_on}
use Rattle.entries.proofs.Slot.next_page.Goals as goal

pub returns-then-next-eq0 : goal.returns-then-next-eq0
returns-then-next-eq0 c = page_end _ _ _ c.if-next-eq0.true

pub begin-requires : goal.begin-requires
begin-requires c =
    let k = page_there c.requires.fit c.requires.in_directory c.if-next-eq0.false in record { fit = c.requires.fit; counted = (k.0, k.1, k.2, omega arith) }

pub returns : goal.returns
returns c =
    page_on c.requires.fit c.requires.in_directory c.if-next-eq0.false _ c.begin.ensures
