-- Laid once for the number of pages, then with the bitmap of that many: the table has no owner, so the pages below that number alone are marked.
use mathlib.Core.Path.{refl, ap, ◌∙◌}
use mathlib.Core.Bool.{true}
use Prim.Native.Nat.{ℕ}
use native.Mathlib.Omega.{arith}
use lib.ListN.{length, length-replicate}
use Rattle.owners.specs.RecordLaws.{empty_zero}
use Rattle.marks.specs.MarkLaws.{length_marks}
use Rattle.volume.proofs.EditLaws.{fit_same}
use Rattle.gather.proofs.Copying.{room_for, local_copied}
use borrow.Author.Rules.{rules}
use Rattle.gather.proofs.copy_local.Goals as goal

pub lay_root-size-requires : goal.lay_root-size-requires
lay_root-size-requires c =
    let a = c.args in
    let s = c.requires in
    let K = s.table_len.1 in record { fit = s.fit; fit_2 = s.fit_2; control_bound = (omega arith, length-replicate {A = ℕ} 4 0, room_for a.g a.image.now s.fit.0 s.fit.1 K.tree K.accepted true (K.kind K.tree K.accepted) 1 refl) }

pub lay_root-requires : goal.lay_root-requires
lay_root-requires c =
    let a = c.args in
    let s = c.requires in
    let K = s.table_len.1 in record {
      fit = s.fit;
      fit_2 = fit_same _ _ _ s.fit_2 (search rules);
      control_bound = (
        omega arith,
        ap length c.fill.ensures ∙ length_marks _ _ _ _ ∙ length-replicate {A = ℕ} 4 0,
        room_for a.g a.image.now s.fit.0 s.fit.1 K.tree K.accepted true (K.kind K.tree K.accepted) 1 refl,
      );
    }

pub returns : goal.returns
returns c =
    let a = c.args in
    let s = c.requires in
    let K = s.table_len.1 in
    local_copied a.g a.image.now s.fit.0 s.fit.1 (λ i q. K.kind i q) _ (empty_zero a.g.pages a.table.now _ s.table_len.0 c.clear.ensures)
    _ _ _ c.lay_root-size.ensures _ c.fill.ensures _ _ c.lay_root.ensures
