use native.Mathlib.Omega.{arith}
use Rattle.entries.proofs.Stepping.{page_answer, last_answer}
use Rattle.entries.proofs.Counting.{count_first, count_few, count_done, count_on}
use Rattle.entries.proofs.count_of.Goals as goal

pub loop-later-init : goal.loop-later-init
loop-later-init c = λ ls d. count_first (c.first-slot.ensures ls d)

pub overflow_add-n : goal.overflow_add-n
overflow_add-n c =
    let chain = c.requires.known_chain.chain in
    let k = count_few c.requires.fit chain (c.loop-later.invariant _ chain) in
    omega arith

pub next_page-requires : goal.next_page-requires
next_page-requires c =
    let i = c.loop-later.invariant _ c.requires.known_chain.chain in record { fit = c.requires.fit; in_directory = record { ts = i.ts; ahead = i.ahead } }

pub returns-in_default : goal.returns-in_default
returns-in_default c =
    let i = c.loop-later.invariant in
    let n = last_answer _ _ _ _ c.next_page.ensures c.in_default.is in
    let chain = c.requires.known_chain.chain in
    (λ ls d. count_done (i ls d) (n _ (i ls d).ahead), count_few c.requires.fit chain (i _ chain))

pub loop-later-smaller : goal.loop-later-smaller
loop-later-smaller c =
    (page_answer _ _ _ _ c.next_page.ensures _ c.in-Some.is).less

pub loop-later-preserved : goal.loop-later-preserved
loop-later-preserved c =
    let n = page_answer _ _ _ _ c.next_page.ensures _ c.in-Some.is in
    λ ls d. let i = c.loop-later.invariant ls d in count_on i (n.ahead _ i.ahead)
