-- The chain and its entry; unless a write was held back, the table gets owners for the pages marked and loses those of the replaced chain, and the bitmap is written from it.
use mathlib.Core.Path.{◌∙◌}
use native.Mathlib.Omega.{arith}
use Rattle.owners.specs.RecordLaws.{length_exact}
use Rattle.careful.proofs.Releasing.{marked_stop, marked_old, marked_fit, marked_done}
use Rattle.careful.proofs.put_marked.Goals as goal

pub returns-then-changed : goal.returns-then-changed
returns-then-changed c =
    λ M. marked_stop c.args.budget c.requires.table_len.2 M (c.put_entry-changed.ensures M.plan) c.if-changed.true

pub claim_below-requires : goal.claim_below-requires
claim_below-requires c =
    let M = c.requires.table_len.1 in
    omega (arith, M.inside, length_exact c.args.g.pages c.args.table.now c.requires.table_len.0, c.requires.table_len.0)

pub release_old-requires : goal.release_old-requires
release_old-requires c =
    let M = c.requires.table_len.1 in
    let h = c.put_entry-changed.ensures M.plan in
    let fit = marked_fit c.args.budget c.requires.table_len.2 M h c.if-changed.false in record {
      fit = fit.0;
      has_old = (marked_old c.args.budget c.requires.table_len.2 M h c.if-changed.false, c.claim_below.auto.table ∙ c.requires.table_len.0);
    }

pub write_map-requires : goal.write_map-requires
write_map-requires c =
    let M = c.requires.table_len.1 in
    let fit = marked_fit c.args.budget c.requires.table_len.2 M (c.put_entry-changed.ensures M.plan) c.if-changed.false in record { fit = fit.0; has_root = (fit.1, c.if-changed.false) }

pub returns : goal.returns
returns c =
    λ M. marked_done c.args.budget c.requires.table_len.2 M (c.put_entry-changed.ensures M.plan) c.if-changed.false c.claim_below.ensures c.release_old.ensures
    _ _ c.write_map.ensures
