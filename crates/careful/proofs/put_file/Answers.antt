-- Free pages are found; the bitmap marks them; unless a write was held back, the file is put into the marked image.
use mathlib.Core.Path.{ap, ◌∙◌}
use Prim.Native.Nat.{ℕ}
use native.Mathlib.Omega.{arith}
use lib.ListN.{length}
use Rattle.owners.specs.RecordLaws.{length_exact}
use Rattle.rules.specs.Chain.{pages_for}
use Rattle.editing_theorems.specs.Capacity.{capacity_least}
use Rattle.edit.specs.FilePlans.{pages_fit, one_extra}
use Rattle.careful.proofs.MarkingFile.{careful_full, root_there, marking_stop, mid_fit, to_put, careful_done}
use Rattle.careful.proofs.put_file.Goals as goal

pub pages_for-pages-requires : goal.pages_for-pages-requires
pages_for-pages-requires c =
    omega (arith, capacity_least c.args.g c.requires.fit.valid, c.data_capacity.ensures)

pub find_pages-requires : goal.find_pages-requires
find_pages-requires c =
    let a = c.args in
    let p = c.requires in
    let n = c.pages_for-pages.ensures ∙ ap (λ (x : ℕ). pages_for x (length a.bytes.now)) c.data_capacity.ensures in
    let x = one_extra (length_exact _ _ p.table_len.0) p.table_len.1.putting in
    (omega (arith, x), omega (arith, n), omega (arith, n, x, pages_fit a.g p.fit.valid (length a.bytes.now) 1 (omega arith) (omega arith)))

pub write_map-marked-requires : goal.write_map-marked-requires
write_map-marked-requires c = record { fit = c.requires.fit; has_root = (root_there (length_exact _ _ c.requires.table_len.0) c.requires.table_len.1, c.requires.table_len.2) }

pub returns-then-marked : goal.returns-then-marked
returns-then-marked c =
    let a = c.args in
    let p = c.requires.table_len in
    let n = c.pages_for-pages.ensures ∙ ap (λ (x : ℕ). pages_for x (length a.bytes.now)) c.data_capacity.ensures in
    λ Q. marking_stop (length_exact _ _ p.0) Q n c.find_pages.ensures c.in-Some.is a.budget p.2 _ _ c.write_map-marked.ensures c.if-marked.true

pub put_marked-requires : goal.put_marked-requires
put_marked-requires c =
    let a = c.args in
    let p = c.requires.table_len in
    let n = c.pages_for-pages.ensures ∙ ap (λ (x : ℕ). pages_for x (length a.bytes.now)) c.data_capacity.ensures in
    let fit = mid_fit (length_exact _ _ p.0) p.1 n c.find_pages.ensures c.in-Some.is a.budget p.2 _ _ c.write_map-marked.ensures c.if-marked.false in
    let put = to_put (length_exact _ _ p.0) p.1 n c.find_pages.ensures c.in-Some.is a.budget p.2 _ _ c.write_map-marked.ensures c.if-marked.false in record { fit = fit; table_len = (p.0, put, c.if-marked.false) }

pub returns-in_default : goal.returns-in_default
returns-in_default c =
    let a = c.args in
    let n = c.pages_for-pages.ensures ∙ ap (λ (x : ℕ). pages_for x (length a.bytes.now)) c.data_capacity.ensures in
    λ Q. careful_full (length_exact _ _ c.requires.table_len.0) Q _ n _ c.find_pages.ensures c.in_default.not-Some a.budget

pub returns : goal.returns
returns c =
    let a = c.args in
    let p = c.requires.table_len in
    let n = c.pages_for-pages.ensures ∙ ap (λ (x : ℕ). pages_for x (length a.bytes.now)) c.data_capacity.ensures in
    λ Q. careful_done (length_exact _ _ p.0) Q n c.find_pages.ensures c.in-Some.is a.budget p.2 _ _ c.write_map-marked.ensures c.if-marked.false
    _ _ c.put_marked.ensures
