-- In the order of the check: start page 0 is 6, then the faults of the chain, then a page count (8) or a length (8) that is not the bitmap's.
-- The table was empty, so it has the bitmap file's pages alone, and as many are in use.
use native.Mathlib.Omega.{arith}
use Rattle.rules.proofs.AnswerLaws.{passed_up}
use Rattle.volume.specs.Scans.{MapClaimed}
use Rattle.volume.proofs.MapLaws.{map_none, map_refused, map_counted, map_short, map_done}
use Rattle.volume.proofs.claim_map.Goals as goal

pub returns-then-start-eq0 : goal.returns-then-start-eq0
unfolding MapClaimed
returns-then-start-eq0 c =
    map_none _ _ _ c.args.count c.if-start-eq0.true

pub claim_chain-requires : goal.claim_chain-requires
claim_chain-requires c =
    let s = c.requires in record { fit = s.fit; table_len = (s.empty.sized, omega arith, λ h. omega arith) }

pub returns-then-count-chain : goal.returns-then-count-chain
unfolding MapClaimed
returns-then-count-chain c =
    map_counted _ _ _ _ c.if-start-eq0.false _ _ c.requires.empty.free _ c.claim_chain.ensures _ _ c.in_ok-chain.was c.if-count-chain.true

pub returns-then-chain-bitmap_size : goal.returns-then-chain-bitmap_size
unfolding MapClaimed
returns-then-chain-bitmap_size c =
    map_short _ _ _ _ c.if-start-eq0.false _ _ c.requires.empty.free _ c.claim_chain.ensures _ _ c.in_ok-chain.was c.if-count-chain.false _
    c.bitmap_size.ensures c.if-chain-bitmap_size.true

pub returns-in_err-chain : goal.returns-in_err-chain
unfolding MapClaimed
returns-in_err-chain c =
    rw (passed_up c.from_residual.result _ c.from_residual.ensures.1)
    (map_refused _ _ _ c.args.count c.if-start-eq0.false _ _ c.requires.empty.free _ c.claim_chain.ensures _ c.in_err-chain.was)

pub returns : goal.returns
returns c =
    map_done _ _ _ _ c.if-start-eq0.false _ _ c.requires.empty.free _ c.claim_chain.ensures _ _ c.in_ok-chain.was c.if-count-chain.false _
    c.bitmap_size.ensures c.if-chain-bitmap_size.false
