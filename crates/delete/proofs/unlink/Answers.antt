-- The pages of the chain are free again; then its entry is taken out.
use Rattle.lookup.specs.PlaceLaws.{stamps_before}
use Rattle.delete.specs.Deletes.{Unlinks}
use Rattle.delete.proofs.Unlinking.{known_chain, plan, unlinked}
use Rattle.delete.proofs.unlink.Goals as goal

pub release_chain-requires : goal.release_chain-requires
release_chain-requires c =
    let s = c.requires in record { fit = s.fit; known_chain = (known_chain s.fit s.table_len.1, s.table_len.0) }

pub remove_entry-requires : goal.remove_entry-requires
remove_entry-requires c =
    let s = c.requires in
    let d = s.table_len.1 in record { fit = s.fit; removal = (plan s.fit d _ c.release_chain.ensures, d.at.under, stamps_before d.at, s.table_len.2) }

pub returns : goal.returns
unfolding Unlinks
returns c =
    λ d. unlinked c.requires.fit d _ c.release_chain.ensures _ _ _ c.remove_entry.ensures
