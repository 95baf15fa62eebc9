-- The first page with space, or the last page, after which one joins.
use Rattle.put.proofs.Placing.{to_space, to_join}
use Rattle.put.proofs.new_entry.Goals as goal

pub returns-in-At : goal.returns-in-At
returns-in-At c =
    to_space c.find_space.ensures c.in-At.is

pub returns-in-Full : goal.returns-in-Full
returns-in-Full c =
    to_join c.find_space.ensures c.in-Full.is
