-- A dump is placed exactly when five bounds hold: header, least offset, greatest offset, image inside, image not too long. Each refusal breaks one of them; the last return has all or breaks the last.
use Rattle.std.proofs.Common.{◌∙◌, ◌<◌, ◌≤◌, ◌⊎◌, arith, rules}
use Rattle.dump.proofs.Judging.{place_invalid, place_judged}
use Rattle.dump.proofs.place_of.Goals as goal

pub returns-then-dump-lt-HEADER_BYTES : goal.returns-then-dump-lt-HEADER_BYTES
returns-then-dump-lt-HEADER_BYTES c = place_invalid _ (λ r. omega (arith, r.header, c.if-dump-lt-HEADER_BYTES.true))

pub returns-then-not-contains : goal.returns-then-not-contains
returns-then-not-contains c =
    let out : (c.number_at-offset.result < 8) ⊎ (32768 < c.number_at-offset.result) = search rules in
    place_invalid _ (λ r. omega (arith, r.least, r.most, c.number_at-offset.ensures.0, out))

pub returns-in_err-length : goal.returns-in_err-length
returns-in_err-length c =
    c.from_residual.ensures ∙ place_invalid _ (λ r. c.in_err-length.ensures (omega (arith, r.inside, c.number_at-offset.ensures.0)))

pub returns : goal.returns
returns c =
    let within : (8 ≤ c.number_at-offset.result) × (c.number_at-offset.result ≤ 32768) = search rules in
    c.then_some.ensures
    ∙ place_judged _ _ _ c.number_at-offset.ensures.0 c.if-dump-lt-HEADER_BYTES.false within c.in_ok-length.ensures.0 c.in_ok-length.ensures.1
