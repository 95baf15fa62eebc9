-- A page that holds a right packet is passed, and its data behind the bytes before them hold so many entries.
use mathlib.Core.Path.{ap, ◌∙◌}
use Prim.Native.Nat.{ℕ, ◌/◌}
use Rattle.geometry.specs.Geometry.{entry_size}
use Rattle.entries.proofs.SlotLaws.{open_is}
use Rattle.entries.proofs.Slot.begin.Goals as goal

pub follow-size-requires : goal.follow-size-requires
follow-size-requires c = let k = c.requires.counted in record { fit = c.requires.fit; counted = (k.0, k.1, k.2) }

pub returns : goal.returns
returns c =
    open_is _ _ _ c.requires.counted.1 _ _ _ _ c.follow-size.ensures
    (c.entries_in.ensures ∙ ap (λ (x : ℕ). x / entry_size c.args.g) c.saturating_sub.ensures)
