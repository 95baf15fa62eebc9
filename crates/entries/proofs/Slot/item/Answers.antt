-- The bytes of the entry lie in its page, and are those of the tokens' first entry.
use Rattle.entries.proofs.SlotLaws.{entry_inside, entry_reads}
use Rattle.entries.proofs.ItemLaws.{item_at}
use borrow.Author.Rules.{rules}
use Rattle.entries.proofs.Slot.item.Goals as goal

pub overflow_mul-at : goal.overflow_mul-at
overflow_mul-at c =
    let s = c.requires in
    let i = entry_inside _ _ _ c.entry_size.ensures.0 s.in_directory.0.ahead.at_slot.fits s.in_directory.1 in
    let k = s.fit.valid.most in
    search rules

pub overflow_add-at-2 : goal.overflow_add-at-2
overflow_add-at-2 c =
    let s = c.requires in
    let i = entry_inside _ _ _ c.entry_size.ensures.0 s.in_directory.0.ahead.at_slot.fits s.in_directory.1 in
    let k = s.fit.valid.most in
    search rules

pub read_slot-requires : goal.read_slot-requires
read_slot-requires c =
    let s = c.requires in
    (s.fit.valid.one, s.fit.valid.two, entry_reads _ _ _ _ _ c.entry_size.ensures.0 c.page_of.ensures s.fit s.in_directory.0.ahead.at_slot.fits s.in_directory.1)

pub returns : goal.returns
returns c =
    let s = c.requires in
    item_at s.fit c.args.self s.in_directory.1 _ _ c.entry_size.ensures.0 c.page_of.ensures c.read_slot.result c.read_slot.ensures
