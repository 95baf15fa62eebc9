use native.Mathlib.Omega.{arith}
use Rattle.chain.proofs.Reading.{counted_all, count_on}
use Rattle.chain.proofs.Following.{page_known, counts_up, read_first}
use Rattle.chain.proofs.chain_bytes.Goals as goal

pub loop-g-init : goal.loop-g-init
loop-g-init c = λ ls d. read_first _ _ _ _ ls c.new-c.ensures d

pub follow-requires : goal.follow-requires
follow-requires c =
    let s = c.requires in
    let l = c.loop-g.invariant s.known_chain.links s.known_chain.chain in record { fit = s.fit; counted = (let k = page_known _ _ s.fit _ _ _ l.following in (l.following.counted, k.0, k.1)) }

pub returns-then-next-eq0 : goal.returns-then-next-eq0
returns-then-next-eq0 c =
    λ ls d. counted_all c.requires.fit (c.loop-g.invariant ls d) c.follow.ensures c.if-next-eq0.true

pub loop-g-smaller : goal.loop-g-smaller
loop-g-smaller c =
    let s = c.requires in
    let l = c.loop-g.invariant s.known_chain.links s.known_chain.chain in
    let k = counts_up _ _ s.fit _ _ _ l.following _ _ c.follow.ensures in
    omega (arith, l.following.steps, l.following.chain.some, s.known_chain.chain.few)

pub loop-g-preserved : goal.loop-g-preserved
loop-g-preserved c =
    λ ls d. count_on c.requires.fit (c.loop-g.invariant ls d) c.follow.ensures c.if-next-eq0.false d.few
