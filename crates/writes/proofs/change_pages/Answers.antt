-- Entries exchanged on one page; or the page that joins, and then the page that points to it.
use mathlib.Core.Path.{sym, ap, subst}
use Prim.Native.Nat.{ℕ, ◌+◌, ◌*◌}
use native.Mathlib.Omega.{arith}
use lib.ListN.{length}
use Rattle.geometry.specs.NumberLaws.{bytes_from}
use Rattle.packet.specs.Packet.{view_of}
use Rattle.writes.specs.Changes.{HasSpan}
use Rattle.writes.proofs.Cutting.{span_few}
use Rattle.writes.proofs.Changing.{change_exchange, join_stop, join_fit, join_span, join_done}
use Rattle.writes.proofs.change_pages.Goals as goal

pub overflow_mul-from : goal.overflow_mul-from
overflow_mul-from c =
    let a = c.args in
    let k = span_few _ _ c.requires.fit _ _ _ _ (c.requires.can_change.0.exchange c.if-change-eq0.true) in
    omega (arith, k, ap (λ (x : ℕ). x * a.change.first) c.entry_size-width.ensures.0)

pub overflow_add-from : goal.overflow_add-from
overflow_add-from c =
    let a = c.args in
    let k = span_few _ _ c.requires.fit _ _ _ _ (c.requires.can_change.0.exchange c.if-change-eq0.true) in
    omega (arith, k, ap (λ (x : ℕ). x * a.change.first) c.entry_size-width.ensures.0)

pub overflow_mul-to : goal.overflow_mul-to
overflow_mul-to c =
    let a = c.args in
    let k = span_few _ _ c.requires.fit _ _ _ _ (c.requires.can_change.0.exchange c.if-change-eq0.true) in
    omega (arith, k, ap (λ (x : ℕ). x * a.change.last) c.entry_size-width.ensures.0)

pub overflow_add-to : goal.overflow_add-to
overflow_add-to c =
    let a = c.args in
    let k = span_few _ _ c.requires.fit _ _ _ _ (c.requires.can_change.0.exchange c.if-change-eq0.true) in
    omega (arith, k, ap (λ (x : ℕ). x * a.change.last) c.entry_size-width.ensures.0)

pub rewrite-requires : goal.rewrite-requires
rewrite-requires c =
    let a = c.args in
    let s = a.change.slot in record {
      fit = c.requires.fit;
      page_lt_pages = (
        c.requires.can_change.0.below,
        subst (λ (w : ℕ). HasSpan a.g (view_of a.g a.image.now) s.page (s.skip + w * a.change.first) (s.skip + w * a.change.last) (length a.new.now))
            (sym c.entry_size-width.ensures.0) (c.requires.can_change.0.exchange c.if-change-eq0.true),
      );
    }

pub returns-then-change-eq0 : goal.returns-then-change-eq0
returns-then-change-eq0 c =
    let a = c.args in
    change_exchange a.g a.image.now a.change a.new.now a.budget c.if-change-eq0.true _ c.entry_size-width.ensures.0 _ _ c.rewrite.ensures

pub write-left-requires : goal.write-left-requires
write-left-requires c =
    let j = c.requires.can_change.0.join c.if-change-eq0.false in record { fit = c.requires.fit; p_lt_pages = (j.inside, j.room) }

pub returns-then-left : goal.returns-then-left
returns-then-left c =
    let a = c.args in
    join_stop a.g a.image.now a.change a.new.now a.budget c.if-change-eq0.false _ _ c.write-left.ensures c.requires.can_change.1 c.if-left.true

pub rewrite-requires-2 : goal.rewrite-requires-2
rewrite-requires-2 c =
    let a = c.args in
    let p = c.requires in
    let j = p.can_change.0.join c.if-change-eq0.false in
    let b = bytes_from a.new.now (λ i. (c.shared_slice_known-1.given i).fits) in record {
      fit = join_fit a.g a.image.now a.change a.new.now a.budget c.if-change-eq0.false _ _ c.write-left.ensures p.fit b j p.can_change.1;
      page_lt_pages = (
        p.can_change.0.below,
        join_span a.g a.image.now a.change a.new.now a.budget c.if-change-eq0.false _ _ c.write-left.ensures p.fit b j p.can_change.1,
      );
    }

pub returns : goal.returns
returns c =
    let a = c.args in
    let p = c.requires in
    let j = p.can_change.0.join c.if-change-eq0.false in
    let b = bytes_from a.new.now (λ i. (c.shared_slice_known-1.given i).fits) in
    join_done a.g a.image.now a.change a.new.now a.budget c.if-change-eq0.false _ _ c.write-left.ensures p.fit b j p.can_change.1 _ _ c.rewrite-2.ensures
