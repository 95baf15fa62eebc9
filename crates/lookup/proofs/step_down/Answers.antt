-- Hidden from there on, or as before.
use mathlib.Core.Path.{sym, ◌∙◌}
use Rattle.lookup.proofs.Resolving.{enter_hidden, enter_shown}
use Rattle.lookup.proofs.step_down.Goals as goal

pub returns-then-extension_of-eq1 : goal.returns-then-extension_of-eq1
returns-then-extension_of-eq1 c =
    let a = c.args in
    enter_hidden a.from a.name a.e (sym c.extension_of.ensures.attribute_is ∙ c.if-extension_of-eq1.true)

pub returns-else-extension_of-eq1 : goal.returns-else-extension_of-eq1
returns-else-extension_of-eq1 c =
    let a = c.args in
    enter_shown a.from a.name a.e (λ z. c.if-extension_of-eq1.false (c.extension_of.ensures.attribute_is ∙ z))
