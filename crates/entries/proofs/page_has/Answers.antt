use mathlib.Core.Path.{◌≡◌, ◌∙◌, sym, ap}
use Prim.Native.Nat.{ℕ, ◌+◌, ◌-◌}
use native.Mathlib.Omega.{arith}
use lib.ListN.{drop}
use Rattle.geometry.specs.Geometry.{entry_size}
use Rattle.rules.specs.PageSets.{mem}
use Rattle.entries.specs.EntrySlots.{keys_from}
use Rattle.entries.proofs.KeyLaws.{key_found, key_passed, keys_begin, keys_end, at_entry}
use Rattle.entries.proofs.page_has.Goals as goal

pub loop-init : goal.loop-init
loop-init c = let a = c.args in record { place = omega arith; same = keys_begin _ a.page.now a.key a.m a.from }

pub has_key-requires : goal.has_key-requires
has_key-requires c =
    let s = c.requires in
    let k = at_entry _ _ _ _ _ _ s.valid s.m_in_bounds.0 c.loop-test.true c.loop.invariant.place in
    ((s.valid.one, s.valid.two, k.1), s.m_in_bounds.2)

pub returns-then-has_key : goal.returns-then-has_key
returns-then-has_key c =
    let a = c.args in
    let l = c.loop in
    sym (l.invariant.same ∙ key_found _ a.page.now _ a.m l.counter l.at c.loop-test.true _ c.has_key.ensures c.if-has_key.true)

pub after_entry-at-requires : goal.after_entry-at-requires
after_entry-at-requires c =
    let s = c.requires in
    let k = at_entry _ _ _ _ _ _ s.valid s.m_in_bounds.0 c.loop-test.true c.loop.invariant.place in
    (s.valid.two, omega (arith, k.1, s.m_in_bounds.1))

pub loop-preserved : goal.loop-preserved
unfolding entry_size
loop-preserved c =
    let a = c.args in
    let l = c.loop in
    let e : c.after_entry-at.result ≡ l.at + entry_size a.g = c.after_entry-at.ensures in
    let k : mem a.key (keys_from a.g (a.m - l.counter) (drop l.at a.page.now)) ≡ mem a.key (keys_from a.g (a.m - (l.counter + 1)) (drop (l.at + entry_size a.g) a.page.now)) =
    key_passed a.g a.page.now _ a.m l.counter l.at c.loop-test.true _ c.has_key.ensures c.if-has_key.false in
    record { place = omega arith; same = l.invariant.same ∙ k ∙ ap (λ (x : ℕ). mem a.key (keys_from a.g (a.m - (l.counter + 1)) (drop x a.page.now))) (sym e) }

pub returns : goal.returns
returns c =
    let a = c.args in
    let l = c.loop in
    keys_end _ a.page.now a.key a.m l.counter l.at (omega (arith, c.loop-test.false)) ∙ sym l.invariant.same
