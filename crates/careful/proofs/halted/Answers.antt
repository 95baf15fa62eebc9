-- Each answer is the definition's; no more is left of the budget than was allowed.
use Rattle.std.specs.Prelude.{Result}
use Rattle.refusals.specs.declared.Refusal.{Refusal}
use Rattle.packet.specs.declared.Budget.{Budget}
use Rattle.rules.proofs.AnswerLaws.{passed_up}
use mathlib.Core.Path.{sym, ap, subst}
use native.Mathlib.Omega.{arith}
use Rattle.careful.specs.Halts.{HasSpent, halt_of}
use Rattle.careful.proofs.halted.Goals as goal

pub overflow_sub-result : goal.overflow_sub-result
overflow_sub-result c =
    omega (arith, subst (λ (o : Result Budget Refusal). HasSpent o c.args.allowed) c.in_ok-left.was c.requires)

pub returns-in_err-left : goal.returns-in_err-left
returns-in_err-left c =
    rw (passed_up c.from_residual.result _ c.from_residual.ensures.1)
    (sym (ap (λ (o : Result Budget Refusal). halt_of o c.args.allowed) c.in_err-left.was))

pub returns : goal.returns
returns c =
    sym (ap (λ (o : Result Budget Refusal). halt_of o c.args.allowed) c.in_ok-left.was)
