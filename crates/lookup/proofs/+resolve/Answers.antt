use mathlib.Core.Path.{ap, sym, ◌∙◌, subst}
use native.Mathlib.Omega.{arith}
use Rattle.rules.specs.Chain.{views_of}
use Rattle.rules.specs.Paths.{step_down}
use Rattle.lookup.proofs.Resolving.{step_reached, has_tree_from, lead_here, lead_absent, lead_next, lead_on}
use Rattle.lookup.specs.declared.Reached.{Reached}
use Rattle.lookup.specs.Searches.{IsReached}
use Rattle.lookup.proofs.+resolve.Goals as goal

pub returns-then-names-eq0 : goal.returns-then-names-eq0
returns-then-names-eq0 t c =
    λ p T.
    let a = c.args in
    lead_here a.g (views_of a.g a.image.now) a.from a.path.now a.at a.names c.if-names-eq0.true p T

pub find_entry-requires : goal.find_entry-requires
find_entry-requires t c =
    let s = c.requires in record { fit = s.fit; has_tree = s.has_tree.0 }

pub resolve-requires : goal.resolve-requires
resolve-requires t c =
    let s = c.requires in
    let h = s.has_tree.0 in
    let a = c.args in
    let n = lead_next a.g (views_of a.g a.image.now) a.from a.path.now a.at a.names c.if-names-eq0.false _ _ c.number_at-name.ensures.0
    c.key_of.ensures h.tree h.at _ (sym c.in-Some.is ∙ c.find_entry.ensures h.tree h.at) in
    (omega (arith, c.decreases, c.if-names-eq0.false), (s.fit, (has_tree_from _ _ (ap (λ (r : Reached). r.start) c.step_down-below.ensures) n.tree, omega (arith, s.has_tree.1))))

pub returns-in_default : goal.returns-in_default
returns-in_default t c =
    λ p T.
    let a = c.args in
    lead_absent a.g (views_of a.g a.image.now) a.from a.path.now a.at a.names c.if-names-eq0.false _ _ c.number_at-name.ensures.0
    c.key_of.ensures p (sym c.in_default.is ∙ c.find_entry.ensures p.items T.tree)

pub returns : goal.returns
returns t c =
    λ p T.
    let a = c.args in
    let vs = views_of a.g a.image.now in
    let n = lead_next a.g vs a.from a.path.now a.at a.names c.if-names-eq0.false _ _ c.number_at-name.ensures.0
    c.key_of.ensures p.items T.tree _ (sym c.in-Some.is ∙ c.find_entry.ensures p.items T.tree) in
    lead_on a.g vs a.from a.path.now a.at a.names c.if-names-eq0.false _ _ c.number_at-name.ensures.0
    c.key_of.ensures p _ n c.resolve.result (c.resolve.ensures (step_down p _ n.label n.items)
    (subst (IsReached a.g vs (step_down p _ n.label n.items)) (sym c.step_down-below.ensures) (step_reached a.g vs a.from p T _ n.label n.items _ n.entry_is n.tree)))
