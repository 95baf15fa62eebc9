use mathlib.Core.Path.{refl}
use Prim.Native.Nat.{◌*◌}
use native.Mathlib.Omega.{arith}
use Rattle.owners.specs.Records.{records_of}
use Rattle.rules.specs.Chain.{content}
use Rattle.rules.proofs.CarefulLaws.{unowned_most}
use Rattle.owners.specs.OwnerLaws.{taken, represents_taken}
use Rattle.chain.proofs.Following.{page_known, counts_up, data_inside}
use Rattle.bitmap.proofs.PagesRead.{in_bounds}
use Rattle.bitmap.proofs.Surveying.{started, answer_uncovered, answer_end, survey_on}
use Rattle.bitmap.proofs.survey_chain.Goals as goal

pub loop-unowned-init : goal.loop-unowned-init
loop-unowned-init c =
    λ ls d used r. started _ _ c.requires.fit _ _ _ used ls c.new-c.ensures d

pub follow-size-requires : goal.follow-size-requires
follow-size-requires c =
    let s = c.requires in
    let t = records_of c.args.table.now in
    let l = c.loop-unowned.invariant s.known_chain.links s.known_chain.chain (taken t) (represents_taken t) in record { fit = s.fit; counted = (let k = page_known _ _ s.fit _ _ _ l.read.following in (l.read.following.counted, k.0, k.1)) }

pub page_of-requires : goal.page_of-requires
page_of-requires c =
    let s = c.requires in
    let t = records_of c.args.table.now in
    let l = c.loop-unowned.invariant s.known_chain.links s.known_chain.chain (taken t) (represents_taken t) in record { fit = s.fit; page_lt_pages = (page_known _ _ s.fit _ _ _ l.read.following).0 }

pub data_of-bytes-requires : goal.data_of-bytes-requires
data_of-bytes-requires c =
    let s = c.requires in
    let t = records_of c.args.table.now in
    let l = c.loop-unowned.invariant s.known_chain.links s.known_chain.chain (taken t) (represents_taken t) in
    data_inside _ _ s.fit _ _ _ l.read.following _ _ c.follow-size.ensures _ c.page_of.ensures

pub survey_bytes-requires : goal.survey_bytes-requires
survey_bytes-requires c =
    let s = c.requires in
    let t = records_of c.args.table.now in
    let l = c.loop-unowned.invariant s.known_chain.links s.known_chain.chain (taken t) (represents_taken t) in
    let b = in_bounds _ _ s.fit l.read c.follow-size.ensures c.page_of.ensures c.data_of-bytes.ensures in
    (b.0, b.1, omega (arith, l.counted, unowned_most (content s.known_chain.links) (taken t) 0 (8 * c.loop-unowned.c.bytes)))

pub returns-in_err-unowned : goal.returns-in_err-unowned
returns-in_err-unowned c =
    rw c.from_residual.ensures (λ ls d used r. answer_uncovered _ _ c.requires.fit (c.loop-unowned.invariant ls d used r) c.follow-size.ensures c.page_of.ensures
    c.data_of-bytes.ensures (records_of c.args.table.now) refl r c.survey_bytes.result c.survey_bytes.ensures c.in_err-unowned.was)

pub returns-then-next-eq0 : goal.returns-then-next-eq0
returns-then-next-eq0 c =
    λ ls d used r. answer_end _ _ c.requires.fit (c.loop-unowned.invariant ls d used r) c.follow-size.ensures c.page_of.ensures
    c.data_of-bytes.ensures (records_of c.args.table.now) refl r c.survey_bytes.result c.survey_bytes.ensures _ c.in_ok-unowned.was c.if-next-eq0.true

pub loop-unowned-smaller : goal.loop-unowned-smaller
loop-unowned-smaller c =
    let s = c.requires in
    let t = records_of c.args.table.now in
    let l = c.loop-unowned.invariant s.known_chain.links s.known_chain.chain (taken t) (represents_taken t) in
    let k = counts_up _ _ s.fit _ _ _ l.read.following _ _ c.follow-size.ensures in
    omega (arith, l.read.following.steps, l.read.following.chain.some, s.known_chain.chain.few)

pub loop-unowned-preserved : goal.loop-unowned-preserved
loop-unowned-preserved c =
    λ ls d used r. survey_on _ _ c.requires.fit (c.loop-unowned.invariant ls d used r) c.follow-size.ensures c.page_of.ensures
    c.data_of-bytes.ensures (records_of c.args.table.now) refl r c.survey_bytes.result c.survey_bytes.ensures _ c.in_ok-unowned.was c.if-next-eq0.false d.few
