-- Free pages are found; the chain and its entry, then the bitmap, each step on what the one before leaves.
use mathlib.Core.Path.{ap, ◌∙◌}
use Prim.Native.Nat.{ℕ}
use native.Mathlib.Omega.{arith}
use lib.ListN.{length}
use Rattle.owners.specs.RecordLaws.{length_exact}
use Rattle.owners.specs.Records.{records_of}
use Rattle.rules.specs.Chain.{pages_for}
use Rattle.editing_theorems.specs.Capacity.{capacity_least}
use Rattle.edit.specs.FilePlans.{pages_fit, one_extra}
use Rattle.edit.proofs.FilePut.{put_full, plan_is, put_stop, put_fit, put_done}
use Rattle.edit.proofs.put_file.Goals as goal

pub data_capacity-requires : goal.data_capacity-requires
data_capacity-requires c =
    c.requires.fit.valid

pub pages_for-pages-requires : goal.pages_for-pages-requires
pages_for-pages-requires c =
    omega (arith, capacity_least c.args.g c.requires.fit.valid, c.data_capacity.ensures)

pub find_pages-requires : goal.find_pages-requires
find_pages-requires c =
    let a = c.args in
    let p = c.requires in
    let n = c.pages_for-pages.ensures ∙ ap (λ (x : ℕ). pages_for x (length a.bytes.now)) c.data_capacity.ensures in
    let x = one_extra (length_exact _ _ p.table_len.0) p.table_len.1 in
    (omega (arith, x), omega (arith, n), omega (arith, n, x, pages_fit a.g p.fit.valid (length a.bytes.now) 1 (omega arith) (omega arith)))

pub put_entry-changed-requires : goal.put_entry-changed-requires
put_entry-changed-requires c =
    let a = c.args in
    let p = c.requires in
    let n = c.pages_for-pages.ensures ∙ ap (λ (x : ℕ). pages_for x (length a.bytes.now)) c.data_capacity.ensures in record {
      fit = p.fit;
      table_len = (p.table_len.0, plan_is a.g a.image.now (records_of a.table.now) a.bytes.now (length_exact _ _ p.table_len.0) a.file p.table_len.1 n c.find_pages.ensures c.in-Some.is, p.table_len.2);
    }

pub returns-then-changed : goal.returns-then-changed
returns-then-changed c =
    let a = c.args in
    let p = c.requires.table_len in
    let n = c.pages_for-pages.ensures ∙ ap (λ (x : ℕ). pages_for x (length a.bytes.now)) c.data_capacity.ensures in
    λ P.
    let h = c.put_entry-changed.ensures (plan_is a.g a.image.now (records_of a.table.now) a.bytes.now (length_exact _ _ p.0) a.file P n c.find_pages.ensures c.in-Some.is) in
    put_stop a.g a.image.now (records_of a.table.now) a.bytes.now (length_exact _ _ p.0) a.file P n c.find_pages.ensures c.in-Some.is a.budget p.2 _ _ h c.if-changed.true

pub write_map-requires : goal.write_map-requires
write_map-requires c =
    let a = c.args in
    let p = c.requires.table_len in
    let n = c.pages_for-pages.ensures ∙ ap (λ (x : ℕ). pages_for x (length a.bytes.now)) c.data_capacity.ensures in
    let h = c.put_entry-changed.ensures (plan_is a.g a.image.now (records_of a.table.now) a.bytes.now (length_exact _ _ p.0) a.file p.1 n c.find_pages.ensures c.in-Some.is) in
    let k = put_fit a.g a.image.now (records_of a.table.now) a.bytes.now (length_exact _ _ p.0) a.file p.1 n c.find_pages.ensures c.in-Some.is
    a.budget p.2 _ _ h c.if-changed.false in record { fit = k.0; has_root = (k.1, c.if-changed.false) }

pub returns-in_default : goal.returns-in_default
returns-in_default c =
    let a = c.args in
    let n = c.pages_for-pages.ensures ∙ ap (λ (x : ℕ). pages_for x (length a.bytes.now)) c.data_capacity.ensures in
    λ P. put_full a.g a.image.now (records_of a.table.now) a.bytes.now (length_exact _ _ c.requires.table_len.0) a.file P _ n _ c.find_pages.ensures c.in_default.not-Some a.budget

pub returns : goal.returns
returns c =
    let a = c.args in
    let p = c.requires.table_len in
    let n = c.pages_for-pages.ensures ∙ ap (λ (x : ℕ). pages_for x (length a.bytes.now)) c.data_capacity.ensures in
    λ P.
    let h = c.put_entry-changed.ensures (plan_is a.g a.image.now (records_of a.table.now) a.bytes.now (length_exact _ _ p.0) a.file P n c.find_pages.ensures c.in-Some.is) in
    put_done a.g a.image.now (records_of a.table.now) a.bytes.now (length_exact _ _ p.0) a.file P n c.find_pages.ensures c.in-Some.is
    a.budget p.2 _ _ h c.if-changed.false _ _ c.write_map.ensures
