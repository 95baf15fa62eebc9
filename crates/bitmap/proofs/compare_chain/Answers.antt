use native.Mathlib.Omega.{arith}
use Rattle.owners.specs.Records.{records_of}
use Rattle.owners.specs.OwnerLaws.{taken, represents_taken}
use Rattle.bitmap.proofs.Comparing.{started, answer_differ, answer_same, compare_on}
use Rattle.bitmap.proofs.PagesRead.{in_bounds}
use Rattle.chain.proofs.Following.{page_known, counts_up, data_inside}
use Rattle.bitmap.proofs.compare_chain.Goals as goal

pub loop-bit-init : goal.loop-bit-init
loop-bit-init c =
    λ ls d used r. started _ _ c.requires.fit _ _ used ls c.new-c.ensures d

pub follow-size-requires : goal.follow-size-requires
follow-size-requires c =
    let s = c.requires in
    let t = records_of c.args.table.now in
    let l = c.loop-bit.invariant s.known_chain.links s.known_chain.chain (taken t) (represents_taken t) in record { fit = s.fit; counted = (let k = page_known _ _ s.fit _ _ _ l.read.following in (l.read.following.counted, k.0, k.1)) }

pub page_of-requires : goal.page_of-requires
page_of-requires c =
    let s = c.requires in
    let t = records_of c.args.table.now in
    let l = c.loop-bit.invariant s.known_chain.links s.known_chain.chain (taken t) (represents_taken t) in record { fit = s.fit; page_lt_pages = (page_known _ _ s.fit _ _ _ l.read.following).0 }

pub data_of-bytes-requires : goal.data_of-bytes-requires
data_of-bytes-requires c =
    let s = c.requires in
    let t = records_of c.args.table.now in
    let l = c.loop-bit.invariant s.known_chain.links s.known_chain.chain (taken t) (represents_taken t) in
    data_inside _ _ s.fit _ _ _ l.read.following _ _ c.follow-size.ensures _ c.page_of.ensures

pub compare_bytes-requires : goal.compare_bytes-requires
compare_bytes-requires c =
    let s = c.requires in
    let t = records_of c.args.table.now in
    let l = c.loop-bit.invariant s.known_chain.links s.known_chain.chain (taken t) (represents_taken t) in
    in_bounds _ _ s.fit l.read c.follow-size.ensures c.page_of.ensures c.data_of-bytes.ensures

pub returns-in-Some : goal.returns-in-Some
returns-in-Some c =
    λ ls d used r.
    let s = c.requires in
    answer_differ _ _ s.fit (c.loop-bit.invariant ls d used r) c.follow-size.ensures c.page_of.ensures
    c.data_of-bytes.ensures (records_of c.args.table.now) r c.compare_bytes.result c.compare_bytes.ensures _ c.in-Some.is

pub returns-then-next-eq0 : goal.returns-then-next-eq0
returns-then-next-eq0 c =
    λ ls d used r.
    let s = c.requires in
    answer_same _ _ s.fit (c.loop-bit.invariant ls d used r) c.follow-size.ensures c.page_of.ensures
    c.data_of-bytes.ensures (records_of c.args.table.now) r c.compare_bytes.result c.compare_bytes.ensures
    c.in_default.not-Some c.if-next-eq0.true

pub loop-bit-smaller : goal.loop-bit-smaller
loop-bit-smaller c =
    let s = c.requires in
    let t = records_of c.args.table.now in
    let l = c.loop-bit.invariant s.known_chain.links s.known_chain.chain (taken t) (represents_taken t) in
    let k = counts_up _ _ s.fit _ _ _ l.read.following _ _ c.follow-size.ensures in
    omega (arith, l.read.following.steps, l.read.following.chain.some, s.known_chain.chain.few)

pub loop-bit-preserved : goal.loop-bit-preserved
loop-bit-preserved c =
    λ ls d used r.
    let s = c.requires in
    compare_on _ _ s.fit (c.loop-bit.invariant ls d used r) c.follow-size.ensures c.page_of.ensures
    c.data_of-bytes.ensures (records_of c.args.table.now) r c.compare_bytes.result c.compare_bytes.ensures
    c.in_default.not-Some c.if-next-eq0.false d.few
