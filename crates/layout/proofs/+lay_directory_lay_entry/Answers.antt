use mathlib.Core.Path.{refl, ap, sym, ◌∙◌}
use Prim.Native.Nat.{ℕ}
use native.Mathlib.Omega.{arith}
use lib.ListN.{length, length-replicate}
use lib.Seq.{length-take-le}
use Rattle.packet.proofs.Fronts.{zeros_front, front_room, front_size, front_read}
use Rattle.reading_theorems.specs.ControlLaws.{control_size_lem}
use Rattle.reading_theorems.specs.SubControlLaws.{length_sub}
use Rattle.entries.proofs.Stepping.{entry_answer, end_answer, entry_in, past_less}
use Rattle.entries.proofs.ItemLaws.{plain_answer}
use Rattle.layout.specs.Layout.{parent_of}
use Rattle.layout.proofs.AddedEntries.{head_room}
use Rattle.layout.proofs.Laying.{lay_first, lay_in, further_low, lay_done, few_stamps, stamps_inside, lay_stamp, slots_fit, known_part, after_turn, turn_some}
use Rattle.layout.proofs.Laying.{turn_holds, chain_grows, add_holds, after_entry, first_holds, field_front, field_long, fit_same}
use Rattle.layout.proofs.PartLaws.{known_run, lays_chain, known_sub, known_entries, known_directory, further_small, lays_sub}
use borrow.Author.Rules.{rules}
use Rattle.layout.proofs.+lay_directory_lay_entry.Goals as goal

pub lay_directory-put_bytes-requires : goal.lay_directory-put_bytes-requires
lay_directory-put_bytes-requires t c =
    let s = c.requires in
    omega (arith, s.levels_bound.1.field, control_size_lem c.args.g, s.fit.0.valid.two)

pub lay_directory-first_entries-requires : goal.lay_directory-first_entries-requires
lay_directory-first_entries-requires t c =
    let s = c.requires in
    s.fit.0.valid

pub lay_directory-first-slot-requires : goal.lay_directory-first-slot-requires
lay_directory-first-slot-requires t c =
    let s = c.requires in
    let d = s.levels_bound.1.stands.chained in record { fit = s.fit.0; known_chain = record { links = d.links; chain = d.chain } }

pub lay_directory-loop-here-init : goal.lay_directory-loop-here-init
lay_directory-loop-here-init t c =
    let s = c.requires in
    let K = s.levels_bound.1 in
    let f = c.put_bytes.ensures in
    let e = c.first_entries.ensures in
    let h = K.field in (
      refl,
      first_holds s.fit.0 c.args.head.now _ _ _ _ _ (field_long _ _ _ (length-replicate {A = ℕ} 256 0) (omega (arith, h, control_size_lem c.args.g, s.fit.0.valid.two)) f)
          h K.order (omega (arith, K.order, K.inner, K.room)) e,
      λ tree st. lay_first s.fit.0 s.fit.1 (parent_of c.args.name c.args.at) tree c.first-slot.ensures st _ _ _ _ _ _ _ (field_front _ _ _ f) e,
    )

pub lay_directory-next_entry-requires : goal.lay_directory-next_entry-requires
lay_directory-next_entry-requires t c =
    let s = c.requires in
    let K = s.levels_bound.1 in record { fit = s.fit.0; in_directory = lay_in s.fit.0 s.fit.1 (parent_of c.args.name c.args.at) (c.loop-here.invariant.2 K.tree K.stands) }

pub lay_directory-slice_bounds-buffer-end : goal.lay_directory-slice_bounds-buffer-end
lay_directory-slice_bounds-buffer-end t c =
    let h = c.loop-here.invariant.1 in
    omega (arith, h.room 0 (omega arith), h.most, h.long)

pub lay_directory-slice_bounds-write_page-end : goal.lay_directory-slice_bounds-write_page-end
lay_directory-slice_bounds-write_page-end t c =
    let h = c.loop-here.invariant.1 in
    sym (length-take-le _ _ (omega (arith, h.room 0 (omega arith), h.most, h.long)))

pub lay_directory-write_page-requires : goal.lay_directory-write_page-requires
lay_directory-write_page-requires t c =
    let s = c.requires in
    let i = c.loop-here.invariant in record { fit = fit_same _ _ _ s.fit_2 i.0; p_lt_pages = (i.1.below, head_room _ _ _ s.fit.0.valid i.1) }

pub lay_directory-returns : goal.lay_directory-returns
lay_directory-returns t c =
    let s = c.requires in
    λ tree st. lay_done s.fit.0 s.fit.1 (parent_of c.args.name c.args.at) (c.loop-here.invariant.2 tree st)
    (end_answer _ _ _ _ c.next_entry.ensures c.in_default.is) _ c.write_page.ensures

pub lay_directory-past-slot-requires : goal.lay_directory-past-slot-requires
lay_directory-past-slot-requires t c =
    (entry_answer _ _ _ _ c.next_entry.ensures _ c.in-Some.is).under

pub lay_directory-item-requires : goal.lay_directory-item-requires
lay_directory-item-requires t c =
    let s = c.requires in
    let K = s.levels_bound.1 in
    let n = entry_answer _ _ _ _ c.next_entry.ensures _ c.in-Some.is in record { fit = s.fit.0; in_directory = (entry_in n (lay_in s.fit.0 s.fit.1 (parent_of c.args.name c.args.at) (c.loop-here.invariant.2 K.tree K.stands)), n.under) }

pub lay_directory-overflow_add-stamps : goal.lay_directory-overflow_add-stamps
lay_directory-overflow_add-stamps t c =
    let s = c.requires in
    let K = s.levels_bound.1 in
    let n = entry_answer _ _ _ _ c.next_entry.ensures _ c.in-Some.is in
    omega (arith, few_stamps s.fit.0 s.fit.1 (parent_of c.args.name c.args.at) (c.loop-here.invariant.2 K.tree K.stands) n)

pub lay_directory-loop-here-smaller-in_default-item : goal.lay_directory-loop-here-smaller-in_default-item
lay_directory-loop-here-smaller-in_default-item t c =
    past_less (entry_answer _ _ _ _ c.next_entry.ensures _ c.in-Some.is) _ c.past-slot.ensures

pub lay_directory-loop-here-preserved-in_default-item : goal.lay_directory-loop-here-preserved-in_default-item
lay_directory-loop-here-preserved-in_default-item t c =
    let s = c.requires in
    let i = c.loop-here.invariant in
    let n = entry_answer _ _ _ _ c.next_entry.ensures _ c.in-Some.is in
    (i.0, i.1, λ tree st. lay_stamp s.fit.0 s.fit.1 (parent_of c.args.name c.args.at) (i.2 tree st) n c.item.result c.item.ensures c.in_default-item.is _ c.past-slot.ensures)

pub lay_directory-slice_bounds-turn-end : goal.lay_directory-slice_bounds-turn-end
lay_directory-slice_bounds-turn-end t c =
    sym c.loop-here.invariant.1.long

pub lay_directory-overflow_add-stamps-in-Some : goal.lay_directory-overflow_add-stamps-in-Some
lay_directory-overflow_add-stamps-in-Some t c =
    let s = c.requires in
    let K = s.levels_bound.1 in
    let n = entry_answer _ _ _ _ c.next_entry.ensures _ c.in-Some.is in
    omega (arith, few_stamps s.fit.0 s.fit.1 (parent_of c.args.name c.args.at) (c.loop-here.invariant.2 K.tree K.stands) n)

pub lay_directory-turn-w-requires : goal.lay_directory-turn-w-requires
lay_directory-turn-w-requires t c =
    let s = c.requires in
    let K = s.levels_bound.1 in
    let i = c.loop-here.invariant in record { fit = fit_same _ _ _ s.fit_2 i.0; holding = (i.1, further_low s.fit.0 s.fit.1 (parent_of c.args.name c.args.at) (i.2 K.tree K.stands) (K.fitting, K.inner) K.room) }

pub lay_directory-lay_entry-next-requires : goal.lay_directory-lay_entry-next-requires
lay_directory-lay_entry-next-requires t c =
    let s = c.requires in
    let K = s.levels_bound.1 in
    let i = c.loop-here.invariant in
    let n = entry_answer _ _ _ _ c.next_entry.ensures _ c.in-Some.is in
    let x = plain_answer _ _ _ c.item.result c.item.ensures _ c.in-Plain.is in
    let wide = slots_fit s.fit.0 s.fit.1 (parent_of c.args.name c.args.at) (i.2 K.tree K.stands) n x.0 x.1 (K.fitting, K.inner) in
    let l = after_turn s.fit.0 s.fit.1 (parent_of c.args.name c.args.at) (i.2 K.tree K.stands) n x.0 x.1 wide _ _ c.turn-w.ensures in
    (omega (arith, c.decreases), (s.fit, (fit_same _ _ _ s.fit_2 (search rules), (s.levels_bound.0, known_part s.fit.0 s.fit.1 (parent_of c.args.name c.args.at) l n x.0 x.1 (K.fitting, K.inner) K.room))))

pub lay_directory-slice_bounds-add-end : goal.lay_directory-slice_bounds-add-end
lay_directory-slice_bounds-add-end t c =
    sym c.loop-here.invariant.1.long

pub lay_directory-add-w-requires : goal.lay_directory-add-w-requires
lay_directory-add-w-requires t c =
    let s = c.requires in
    let K = s.levels_bound.1 in
    let i = c.loop-here.invariant in
    let n = entry_answer _ _ _ _ c.next_entry.ensures _ c.in-Some.is in
    let x = plain_answer _ _ _ c.item.result c.item.ensures _ c.in-Plain.is in
    let wide = slots_fit s.fit.0 s.fit.1 (parent_of c.args.name c.args.at) (i.2 K.tree K.stands) n x.0 x.1 (K.fitting, K.inner) in
    let l = after_turn s.fit.0 s.fit.1 (parent_of c.args.name c.args.at) (i.2 K.tree K.stands) n x.0 x.1 wide _ _ c.turn-w.ensures in
    let t₁ = c.turn-w.ensures in
    let q = stamps_inside s.fit.0 s.fit.1 (parent_of c.args.name c.args.at) (i.2 K.tree K.stands) n in
    let o = turn_holds s.fit.0 s.fit.1 (parent_of c.args.name c.args.at) (i.2 K.tree K.stands) n x.0 x.1 wide (K.fitting, K.inner) K.room i.1 _ _ t₁ in
    let some = turn_some s.fit.0 s.fit.1 (parent_of c.args.name c.args.at) (i.2 K.tree K.stands) n x.0 x.1 wide _ _ t₁ in record {
      fit = s.fit.0;
      holding = (o, some, chain_grows s.fit.0 s.fit.1 (parent_of c.args.name c.args.at) l n x.0 x.1 some _ _ c.lay_entry-next.ensures, q.0, q.1, q.2);
    }

pub lay_directory-loop-here-smaller : goal.lay_directory-loop-here-smaller
lay_directory-loop-here-smaller t c =
    past_less (entry_answer _ _ _ _ c.next_entry.ensures _ c.in-Some.is) _ c.past-slot.ensures

pub lay_directory-loop-here-preserved : goal.lay_directory-loop-here-preserved
lay_directory-loop-here-preserved t c =
    let s = c.requires in
    let K = s.levels_bound.1 in
    let i = c.loop-here.invariant in
    let n = entry_answer _ _ _ _ c.next_entry.ensures _ c.in-Some.is in
    let x = plain_answer _ _ _ c.item.result c.item.ensures _ c.in-Plain.is in
    let wide = slots_fit s.fit.0 s.fit.1 (parent_of c.args.name c.args.at) (i.2 K.tree K.stands) n x.0 x.1 (K.fitting, K.inner) in
    let t₁ = c.turn-w.ensures in
    let o = turn_holds s.fit.0 s.fit.1 (parent_of c.args.name c.args.at) (i.2 K.tree K.stands) n x.0 x.1 wide (K.fitting, K.inner) K.room i.1 _ _ t₁ in
    let some = turn_some s.fit.0 s.fit.1 (parent_of c.args.name c.args.at) (i.2 K.tree K.stands) n x.0 x.1 wide _ _ t₁ in
    let p = c.lay_entry-next.ensures in
    let l = after_turn s.fit.0 s.fit.1 (parent_of c.args.name c.args.at) (i.2 K.tree K.stands) n x.0 x.1 wide _ _ c.turn-w.ensures in (
      omega (arith, c.lay_entry-next.auto.second, c.turn-w.auto.second, i.0),
      add_holds s.fit.0 s.fit.1 (parent_of c.args.name c.args.at) l n x.0 x.1 some _ _ p o _ _ c.add-w.ensures,
      λ tree st. after_entry s.fit.0 s.fit.1 (parent_of c.args.name c.args.at) (after_turn s.fit.0 s.fit.1 (parent_of c.args.name c.args.at) (i.2 tree st) n x.0 x.1 wide _ _ t₁)
          n x.0 x.1 some _ _ p o _ _ c.add-w.ensures _ c.past-slot.ensures,
    )

pub lay_entry-overflow_sub-below : goal.lay_entry-overflow_sub-below
lay_entry-overflow_sub-below t c =
    let a = c.args in
    let s = c.requires in
    let d = sym c.is_directory.ensures ∙ c.if-is_directory.true in
    let K = known_sub a.g a.image.now a.levels a.e d _ s.levels_bound.1 in
    omega (arith, K.level)

pub lay_entry-further_pages-further-requires : goal.lay_entry-further_pages-further-requires
lay_entry-further_pages-further-requires t c =
    let a = c.args in
    let s = c.requires in
    let d = sym c.is_directory.ensures ∙ c.if-is_directory.true in
    let K = known_sub a.g a.image.now a.levels a.e d _ s.levels_bound.1 in record { fit = s.fit; known_entries = known_entries a.g a.image.now a.levels a.e d K }

pub lay_entry-control_size-size-requires : goal.lay_entry-control_size-size-requires
lay_entry-control_size-size-requires t c =
    c.requires.fit.0.valid

pub lay_entry-slice_bounds-head-end : goal.lay_entry-slice_bounds-head-end
lay_entry-slice_bounds-head-end t c = omega (arith, c.control_size-size.ensures.2)

pub lay_entry-slice_bounds-put_control-end : goal.lay_entry-slice_bounds-put_control-end
lay_entry-slice_bounds-put_control-end t c =
    sym (zeros_front c.control_size-size.result 8 (omega (arith, c.control_size-size.ensures.2)))

pub lay_entry-put_control-requires : goal.lay_entry-put_control-requires
lay_entry-put_control-requires t c =
    (zeros_front c.control_size-size.result 8 (omega (arith, c.control_size-size.ensures.2)) ∙ c.control_size-size.ensures.0 ∙ control_size_lem c.args.g, c.requires.fit.0.valid.two)

pub lay_entry-slice_bounds-head-end-then-is_directory : goal.lay_entry-slice_bounds-head-end-then-is_directory
lay_entry-slice_bounds-head-end-then-is_directory t c =
    let a = c.args in
    let s = c.requires in
    front_room _ _ _ _ c.put_control.ensures (length_sub a.g _ ∙ sym c.control_size-size.ensures.0)

pub lay_entry-slice_bounds-lay_directory-end : goal.lay_entry-slice_bounds-lay_directory-end
lay_entry-slice_bounds-lay_directory-end t c =
    let a = c.args in
    let s = c.requires in
    front_size _ _ _ _ c.put_control.ensures (length_sub a.g _ ∙ sym c.control_size-size.ensures.0)

pub lay_entry-overflow_add-chain : goal.lay_entry-overflow_add-chain
lay_entry-overflow_add-chain t c =
    let a = c.args in
    let s = c.requires in
    let d = sym c.is_directory.ensures ∙ c.if-is_directory.true in
    let K = known_sub a.g a.image.now a.levels a.e d _ s.levels_bound.1 in
    let f = further_small a.g a.image.now a.levels a.e d (parent_of a.name a.at) _ _ c.further_pages-further.ensures K in
    omega (arith, f, s.fit.0.valid.few)

pub lay_entry-overflow_add-chain-then-is_directory : goal.lay_entry-overflow_add-chain-then-is_directory
lay_entry-overflow_add-chain-then-is_directory t c =
    let a = c.args in
    let s = c.requires in
    let d = sym c.is_directory.ensures ∙ c.if-is_directory.true in
    let K = known_sub a.g a.image.now a.levels a.e d _ s.levels_bound.1 in
    let f = further_small a.g a.image.now a.levels a.e d (parent_of a.name a.at) _ _ c.further_pages-further.ensures K in
    omega (arith, f, s.fit.0.valid.few)

pub lay_entry-overflow_add-chain-then-is_directory-2 : goal.lay_entry-overflow_add-chain-then-is_directory-2
lay_entry-overflow_add-chain-then-is_directory-2 t c =
    let a = c.args in
    let s = c.requires in
    let d = sym c.is_directory.ensures ∙ c.if-is_directory.true in
    let K = known_sub a.g a.image.now a.levels a.e d _ s.levels_bound.1 in
    let f = further_small a.g a.image.now a.levels a.e d (parent_of a.name a.at) _ _ c.further_pages-further.ensures K in
    omega (arith, f, s.fit.0.valid.few)

pub lay_entry-lay_directory-requires : goal.lay_entry-lay_directory-requires
lay_entry-lay_directory-requires t c =
    let a = c.args in
    let s = c.requires in
    let d = sym c.is_directory.ensures ∙ c.if-is_directory.true in
    let K = known_sub a.g a.image.now a.levels a.e d _ s.levels_bound.1 in
    let r = front_read _ _ _ _ c.put_control.ensures (length_sub a.g _ ∙ sym c.control_size-size.ensures.0) in (
      omega (arith, c.decreases, K.level),
      (
        s.fit,
        (
          s.fit_2,
          (
            omega (arith, s.levels_bound.0),
            known_directory a.g a.image.now a.levels a.e d (parent_of a.name a.at) _ _ c.further_pages-further.ensures K _ (ap length r ∙ length_sub a.g _),
          ),
        ),
      ),
    )

pub lay_entry-returns-then-is_directory : goal.lay_entry-returns-then-is_directory
lay_entry-returns-then-is_directory t c =
    let a = c.args in
    let s = c.requires in
    let d = sym c.is_directory.ensures ∙ c.if-is_directory.true in
    let r = front_read _ _ _ _ c.put_control.ensures (length_sub a.g _ ∙ sym c.control_size-size.ensures.0) in
    lays_sub a.g a.image.now a.levels a.e d (parent_of a.name a.at) _ _ c.further_pages-further.ensures _ _ _ _ r c.lay_directory.ensures

pub lay_entry-copy_run-requires : goal.lay_entry-copy_run-requires
lay_entry-copy_run-requires t c =
    let a = c.args in
    let s = c.requires in
    let d = sym c.is_directory.ensures ∙ c.if-is_directory.false in record { fit = s.fit.0; fit_2 = s.fit_2; known_run = known_run a.g a.image.now a.levels a.e d _ s.levels_bound.1 }

pub lay_entry-returns : goal.lay_entry-returns
lay_entry-returns t c =
    let a = c.args in
    let s = c.requires in
    let d = sym c.is_directory.ensures ∙ c.if-is_directory.false in
    lays_chain a.g a.image.now a.levels a.e d _ _ _ _ _ c.copy_run.ensures
