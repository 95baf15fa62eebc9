-- The chain is stored; unless a write was held back, the entry is put together in an array and entered.
use mathlib.Core.Path.{sym, ◌∙◌}
use native.Mathlib.Omega.{arith}
use Rattle.owners.specs.Records.{records_of}
use Rattle.packet.proofs.Fronts.{zeros_front, front_room, front_size, front_read}
use Rattle.edit.proofs.Entries.{entry_length, size_is}
use Rattle.edit.proofs.Carrying.{has_room, carry_stop, carry_fit, carry_can, carry_done}
use Rattle.edit.proofs.put_chain.Goals as goal

pub store_chain-stored-requires : goal.store_chain-stored-requires
store_chain-stored-requires c =
    let a = c.args in
    let p = c.requires in record { fit = p.fit; table_len = (p.table_len.0, has_room a.g a.image.now (records_of a.table.now) a.bytes.now a.change a.e a.budget p.table_len.2 p.table_len.1, p.table_len.2) }

pub returns-then-stored : goal.returns-then-stored
returns-then-stored c =
    let a = c.args in
    λ P. carry_stop a.g a.image.now (records_of a.table.now) a.bytes.now a.change a.e a.budget c.requires.table_len.2 P _ _ c.store_chain-stored.ensures c.if-stored.true

pub slice_bounds-put_entry-end : goal.slice_bounds-put_entry-end
slice_bounds-put_entry-end c =
    sym (zeros_front c.entry_size-width.result 9 (omega (arith, c.entry_size-width.ensures)))

pub put_entry-requires : goal.put_entry-requires
put_entry-requires c = (
  zeros_front c.entry_size-width.result 9 (omega (arith, c.entry_size-width.ensures)) ∙ size_is c.args.g _ c.entry_size-width.ensures.0,
  c.requires.fit.valid.two,
)

pub slice_bounds-entry-end-2 : goal.slice_bounds-entry-end-2
slice_bounds-entry-end-2 c =
    front_room _ _ _ _ c.put_entry.ensures (entry_length c.args.g c.args.e _ c.entry_size-width.ensures.0)

pub slice_bounds-change_pages-end : goal.slice_bounds-change_pages-end
slice_bounds-change_pages-end c =
    front_size _ _ _ _ c.put_entry.ensures (entry_length c.args.g c.args.e _ c.entry_size-width.ensures.0)

pub change_pages-requires : goal.change_pages-requires
change_pages-requires c =
    let a = c.args in
    let p = c.requires.table_len in
    let n = front_read _ _ _ _ c.put_entry.ensures (entry_length a.g a.e _ c.entry_size-width.ensures.0) in record {
      fit = carry_fit a.g a.image.now (records_of a.table.now) a.bytes.now a.change a.e a.budget p.2 p.1 _ _ c.store_chain-stored.ensures c.if-stored.false;
      can_change = (
        carry_can a.g a.image.now (records_of a.table.now) a.bytes.now a.change a.e a.budget p.2 p.1 _ _ c.store_chain-stored.ensures c.if-stored.false _ n,
        c.if-stored.false,
      );
    }

pub returns : goal.returns
returns c =
    let a = c.args in
    let n = front_read _ _ _ _ c.put_entry.ensures (entry_length a.g a.e _ c.entry_size-width.ensures.0) in
    λ P. carry_done a.g a.image.now (records_of a.table.now) a.bytes.now a.change a.e a.budget c.requires.table_len.2 P _ _ c.store_chain-stored.ensures c.if-stored.false _ n _ _
    c.change_pages.ensures
