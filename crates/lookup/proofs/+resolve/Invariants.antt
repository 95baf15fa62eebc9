-- Whatever the names left lead to is what all lead to; a name less is left each time.
use Rattle.lookup.proofs.+resolve.Given as goal

abbrev pub decreases-resolve : goal.decreases-resolve
decreases-resolve l = l.names
