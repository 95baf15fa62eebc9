use mathlib.Core.Path.{refl}
use native.Mathlib.Omega.{arith}
use Rattle.chain.specs.Claims.{Releases}
use Rattle.chain.proofs.Following.{page_known, counts_up}
use Rattle.chain.proofs.Releasing.{release_first, released_all, release_on}
use borrow.Author.Rules.{rules}
use Rattle.chain.proofs.release_chain.Goals as goal

pub loop-g-init : goal.loop-g-init
loop-g-init c = (refl, λ ls d. release_first _ _ _ _ ls _ c.new-c.ensures d)

pub follow-requires : goal.follow-requires
follow-requires c =
    let s = c.requires in
    let l = c.loop-g.invariant.1 s.known_chain.0.links s.known_chain.0.chain in record { fit = s.fit; counted = (let k = page_known _ _ s.fit _ _ _ l.following in (l.following.counted, k.0, k.1)) }

pub release-requires : goal.release-requires
release-requires c =
    let s = c.requires in
    let l = c.loop-g.invariant.1 s.known_chain.0.links s.known_chain.0.chain in
    let k = page_known _ _ s.fit _ _ _ l.following in
    omega (arith, k.0, s.known_chain.1, c.loop-g.invariant.0)

pub returns-then-next-eq0 : goal.returns-then-next-eq0
unfolding Releases
returns-then-next-eq0 c =
    λ ls d. released_all c.requires.fit (c.loop-g.invariant.1 ls d) c.follow.ensures c.if-next-eq0.true _ c.release.ensures

pub loop-g-smaller : goal.loop-g-smaller
loop-g-smaller c =
    let s = c.requires in
    let l = c.loop-g.invariant.1 s.known_chain.0.links s.known_chain.0.chain in
    let k = counts_up _ _ s.fit _ _ _ l.following _ _ c.follow.ensures in
    omega (arith, l.following.steps, l.following.chain.some, s.known_chain.0.chain.few)

pub loop-g-preserved : goal.loop-g-preserved
loop-g-preserved c = (
  search rules,
  λ ls d.
      release_on c.requires.fit (c.loop-g.invariant.1 ls d) c.follow.ensures c.if-next-eq0.false d.few _ c.release.ensures,
)
