-- The page stays if the slots are left in it; else it is written and the next one begun.
use mathlib.Core.Path.{refl, ap, sym}
use Prim.Native.Nat.{ℕ, ◌+◌}
use native.Mathlib.Omega.{arith}
use lib.Seq.{length-take-le}
use Rattle.layout.specs.declared.Laid.{Laid}
use Rattle.layout.specs.Layout.{stays, turns}
use Rattle.layout.proofs.AddedEntries.{head_room}
use borrow.Author.Rules.{rules}
use Rattle.layout.proofs.turn.Goals as goal

pub returns-then-slots-w : goal.returns-then-slots-w
returns-then-slots-w c = stays (omega (arith, c.if-slots-w.true)) refl (search rules)

pub slice_bounds-write_page-end : goal.slice_bounds-write_page-end
slice_bounds-write_page-end c =
    let h = c.requires.holding.0 in
    sym (length-take-le _ _ (omega (arith, h.room 0 (omega arith), h.most, h.long)))

pub write_page-requires : goal.write_page-requires
write_page-requires c =
    let s = c.requires in record { fit = s.fit; p_lt_pages = (s.holding.0.below, head_room _ _ _ s.fit.valid s.holding.0) }

pub returns : goal.returns
returns c =
    let w : Laid = c.args.w in
    turns (omega (arith, c.if-slots-w.false)) (ap (λ (x : ℕ). record { page = w.further; held = 0; left = x; further = w.further + 1; chain = w.chain }) c.later_entries.ensures) c.write_page.ensures
