use mathlib.Core.Path.{refl, ap, sym, ◌∙◌}
use native.Mathlib.Omega.{arith}
use Rattle.rules.specs.Answers.{answer_of}
use Rattle.rules.proofs.AnswerLaws.{passed_up}
use Rattle.owners.specs.Records.{records_of}
use Rattle.owners.specs.RecordLaws.{length_exact}
use Rattle.owners.specs.OwnerLaws.{has_owner, no_owner, taken, represents_taken}
use Rattle.chain.proofs.Claiming.{inside, counted_on, held_first, counts, crossed, refused_too, last, again, leaves_room, stays_small}
use borrow.Author.Rules.{rules}
use Rattle.chain.proofs.claim_chain.Goals as goal

pub loop-g-init : goal.loop-g-init
loop-g-init c = (omega arith, λ claimed h. held_first _ _ _ _ _ _ _ _ _ c.new-c.ensures h)

pub returns-then-is_owned : goal.returns-then-is_owned
returns-then-is_owned c =
    λ claimed h. crossed _ _ _ _ _ _ (c.loop-g.invariant.1 claimed h) (length_exact _ _ c.loop-g.invariant.0) (has_owner _ _ _ c.is_owned.ensures c.if-is_owned.true)

pub enter-requires : goal.enter-requires
enter-requires c =
    let t = records_of c.args.table.now in
    let h = c.loop-g.invariant.1 (taken t) (represents_taken t) in
    let n = counts _ _ _ _ _ _ h (length_exact _ _ c.loop-g.invariant.0) in record { fit = c.requires.fit; counted = record { few = omega arith; small = h.small } }

pub returns-in_err-next : goal.returns-in_err-next
returns-in_err-next c =
    λ claimed h.
    rw (passed_up c.from_residual.result _ c.from_residual.ensures.1)
    (refused_too _ _ _ _ _ _ (c.loop-g.invariant.1 claimed h) (length_exact _ _ c.loop-g.invariant.0) (no_owner _ _ _ c.is_owned.ensures c.if-is_owned.false) _
    (ap answer_of (sym c.in_err-next.was) ∙ c.enter.ensures))

pub claim-requires : goal.claim-requires
claim-requires c =
    let t = records_of c.args.table.now in
    let h = c.loop-g.invariant.1 (taken t) (represents_taken t) in
    let i = inside _ _ _ _ _ (ap answer_of (sym c.in_ok-next.was) ∙ c.enter.ensures) in
    let free = no_owner _ _ _ c.is_owned.ensures c.if-is_owned.false in
    let e = length_exact _ _ c.loop-g.invariant.0 in
    let n = counts _ _ _ _ _ _ h e in
    let f = c.requires.table_len.2 (leaves_room _ _ _ _ _ _ h e refl (omega arith) free) in
    (omega (arith, c.loop-g.invariant.0), omega arith, omega (arith, n, c.requires.fit.valid.few))

pub returns-then-next-eq0 : goal.returns-then-next-eq0
returns-then-next-eq0 c =
    λ claimed h.
    last _ _ _ _ _ _ (c.loop-g.invariant.1 claimed h) (length_exact _ _ c.loop-g.invariant.0) (no_owner _ _ _ c.is_owned.ensures c.if-is_owned.false) _
    (ap answer_of (sym c.in_ok-next.was) ∙ c.enter.ensures) c.if-next-eq0.true _ c.claim.ensures

pub loop-g-smaller : goal.loop-g-smaller
loop-g-smaller c =
    let t = records_of c.args.table.now in
    let n = counts _ _ _ _ _ _ (c.loop-g.invariant.1 (taken t) (represents_taken t)) (length_exact _ _ c.loop-g.invariant.0) in
    let k = counted_on _ _ _ _ _ (ap answer_of (sym c.in_ok-next.was) ∙ c.enter.ensures) in
    omega arith

pub loop-g-preserved : goal.loop-g-preserved
loop-g-preserved c =
    let l = c.loop-g in
    let i = inside _ _ _ _ _ (ap answer_of (sym c.in_ok-next.was) ∙ c.enter.ensures) in (
      search rules,
      λ claimed h.
          again _ _ _ _ _ _ (l.invariant.1 claimed h) (length_exact _ _ l.invariant.0) (no_owner _ _ _ c.is_owned.ensures c.if-is_owned.false) _
          (ap answer_of (sym c.in_ok-next.was) ∙ c.enter.ensures) c.if-next-eq0.false c.requires.table_len.1 (omega (arith, length_exact c.args.g.pages l.table l.invariant.0))
          (stays_small _ _ _ _ _ c.requires.fit (ap answer_of (sym c.in_ok-next.was) ∙ c.enter.ensures) (l.invariant.1 claimed h).small) _ c.claim.ensures,
    )
