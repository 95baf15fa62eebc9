-- Bytes are whole entries exactly when an entry's size divides their number: no remainder is 0, any other is 8.
use Rattle.directory.proofs.EntryLaws.{are_whole, not_whole}
use Rattle.directory.proofs.entries.judge_whole.Goals as goal

pub returns-then-size-entry_size-ne0 : goal.returns-then-size-entry_size-ne0
returns-then-size-entry_size-ne0 c = not_whole _ _ _ _ c.entry_size.ensures.0 c.if-size-entry_size-ne0.true

pub returns : goal.returns
returns c = are_whole _ _ _ _ c.entry_size.ensures.0 c.if-size-entry_size-ne0.false
