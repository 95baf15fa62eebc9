-- The change and the entry are those of the plan.
use Rattle.edit.proofs.Told.{plan_told, carries_told}
use Rattle.edit.proofs.put_entry.Goals as goal

pub put_chain-requires : goal.put_chain-requires
put_chain-requires c =
    let a = c.args in
    let p = c.requires in record { fit = p.fit; table_len = (p.table_len.0, plan_told a.file a.taken a.pages _ c.count_told.ensures p.table_len.1, p.table_len.2) }

pub returns : goal.returns
returns c =
    let a = c.args in
    carries_told a.file a.taken a.pages _ c.count_told.ensures _ _ _ c.put_chain.ensures
