use mathlib.Core.Path.{refl}
use native.Mathlib.Omega.{arith}
use Rattle.chain.proofs.Following.{page_known, counts_up, data_inside}
use Rattle.chain.proofs.Reading.{copy_first, has_place, copied_all, copy_on}
use borrow.Author.Rules.{rules}
use Rattle.chain.proofs.copy_chain.Goals as goal

pub loop-g-init : goal.loop-g-init
loop-g-init c = (refl, λ ls d. copy_first _ _ _ _ ls _ c.new-c.ensures d)

pub follow-size-requires : goal.follow-size-requires
follow-size-requires c =
    let s = c.requires in
    let l = (c.loop-g.invariant.1 s.known_chain.links s.known_chain.chain).read in record { fit = s.fit; counted = (let k = page_known _ _ s.fit _ _ _ l.following in (l.following.counted, k.0, k.1)) }

pub page_of-requires : goal.page_of-requires
page_of-requires c =
    let s = c.requires in
    let l = (c.loop-g.invariant.1 s.known_chain.links s.known_chain.chain).read in record { fit = s.fit; page_lt_pages = (page_known _ _ s.fit _ _ _ l.following).0 }

pub data_of-bytes-requires : goal.data_of-bytes-requires
data_of-bytes-requires c =
    let s = c.requires in
    let l = (c.loop-g.invariant.1 s.known_chain.links s.known_chain.chain).read in
    data_inside _ _ s.fit _ _ _ l.following _ _ c.follow-size.ensures _ c.page_of.ensures

pub put_bytes-requires : goal.put_bytes-requires
put_bytes-requires c =
    let s = c.requires in
    let l = c.loop-g.invariant.1 s.known_chain.links s.known_chain.chain in
    has_place s.fit l.read c.follow-size.ensures _ c.page_of.ensures _ c.data_of-bytes.ensures _ _ l.laid
    (s.fits s.known_chain.links s.known_chain.chain)

pub returns-then-next-eq0 : goal.returns-then-next-eq0
returns-then-next-eq0 c =
    λ ls d.
    let s = c.requires in
    let l = c.loop-g.invariant.1 ls d in
    copied_all s.fit l.read c.follow-size.ensures _ c.page_of.ensures _ c.data_of-bytes.ensures _ _ _
    l.laid c.put_bytes.ensures c.if-next-eq0.true

pub loop-g-smaller : goal.loop-g-smaller
loop-g-smaller c =
    let s = c.requires in
    let l = (c.loop-g.invariant.1 s.known_chain.links s.known_chain.chain).read in
    let k = counts_up _ _ s.fit _ _ _ l.following _ _ c.follow-size.ensures in
    omega (arith, l.following.steps, l.following.chain.some, s.known_chain.chain.few)

pub loop-g-preserved : goal.loop-g-preserved
loop-g-preserved c = (
  search rules,
  λ ls d.
      let s = c.requires in
      let l = c.loop-g.invariant.1 ls d in
      copy_on s.fit l.read c.follow-size.ensures _ c.page_of.ensures _ c.data_of-bytes.ensures _ _ _ l.laid
      c.put_bytes.ensures c.if-next-eq0.false d.few,
)
