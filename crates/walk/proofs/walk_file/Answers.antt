-- The answer for a file's chain, with its entry's page count; the owner's number fits.
use mathlib.Core.Path.{refl}
use native.Mathlib.Omega.{arith}
use Rattle.rules.proofs.AnswerLaws.{passed_up}
use Rattle.owners.specs.RecordLaws.{length_exact}
use Rattle.walk.proofs.Parts.{totals_fit, owner_fits, claim_few, file_none, file_refused, file_counted, file_done}
use Rattle.walk.proofs.walk_file.Goals as goal

pub returns-then-e-eq0 : goal.returns-then-e-eq0
returns-then-e-eq0 c =
    λ claimed h. file_none _ _ claimed _ c.args.e c.if-e-eq0.true

pub overflow_add-owner : goal.overflow_add-owner
overflow_add-owner c =
    let s = c.requires in
    let k = totals_fit _ _ _ s.table_len.1 (length_exact _ _ s.table_len.0) s.fit.valid.few in
    omega arith

pub overflow_add-owner-2 : goal.overflow_add-owner-2
overflow_add-owner-2 c =
    let s = c.requires in
    let k = totals_fit _ _ _ s.table_len.1 (length_exact _ _ s.table_len.0) s.fit.valid.few in
    omega arith

pub claim_chain-requires : goal.claim_chain-requires
claim_chain-requires c =
    let s = c.requires in record { fit = s.fit; table_len = (s.table_len.0, omega arith, owner_fits _ _ _ s.table_len.1 (length_exact _ _ s.table_len.0) s.fit.valid.few) }

pub returns-then-e-chain : goal.returns-then-e-chain
returns-then-e-chain c =
    λ claimed h. file_counted _ _ claimed _ c.args.e c.if-e-eq0.false _ _ _ _ (c.claim_chain.ensures claimed h) _ _ c.in_ok-chain.was c.if-e-chain.true

pub overflow_add-result : goal.overflow_add-result
overflow_add-result c =
    let s = c.requires in
    let k = totals_fit _ _ _ s.table_len.1 (length_exact _ _ s.table_len.0) s.fit.valid.few in
    let n = claim_few c.args.g _ _ _ _ _ _ _ _ _ _ c.claim_chain.ensures c.in_ok-chain.was (length_exact _ _ s.table_len.0) in
    let f = s.fit.valid.few in
    omega arith

pub overflow_add-result-2 : goal.overflow_add-result-2
overflow_add-result-2 c =
    let s = c.requires in
    let k = totals_fit _ _ _ s.table_len.1 (length_exact _ _ s.table_len.0) s.fit.valid.few in
    omega arith

pub returns-in_err-chain : goal.returns-in_err-chain
returns-in_err-chain c =
    λ claimed h.
    rw (passed_up c.from_residual.result _ c.from_residual.ensures.1)
    (file_refused _ _ claimed _ c.args.e c.if-e-eq0.false _ _ _ _ (c.claim_chain.ensures claimed h) _ c.in_err-chain.was)

pub returns : goal.returns
returns c =
    λ claimed h. file_done _ _ claimed _ c.args.e c.if-e-eq0.false _ _ _ _ (c.claim_chain.ensures claimed h) c.args.totals _ _
    c.in_ok-chain.was refl c.if-e-chain.false
