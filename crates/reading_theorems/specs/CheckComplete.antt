-- Completeness of the check: a well-formed image is accepted with its tree, and with any bitmap bits the scan gives tree and bits.
use Rattle.std.specs.Prelude.{◌≡◌, ℕ, suc, ◌≤◌}
use Rattle.std.proofs.Math.Path.{refl}
use Rattle.std.proofs.Common.{ap, ◌∙◌, arith, drop_at}
use mathlib.Core.List.{List, [], ◌++◌}
use Rattle.std.proofs.Math.ListN.{length}
use borrow.Author.Tests.{eq-eqb, lt-ltb}
use Rattle.geometry.specs.declared.Geometry.{Geometry}
use Rattle.geometry.specs.ChooseLaws.{choose_true, choose_false}
use Rattle.geometry.specs.Geometry.{control_size, bitmap_size, Valid}
use Rattle.packet.specs.Packet.{good}
use Rattle.rules.specs.Result.{ok}
use Rattle.rules.proofs.ResultLaws.{then_ok, refuse_true}
use Rattle.rules.specs.PageSets.{hit, count, Within}
use Rattle.rules.proofs.PageSetLaws.{hit_same, range_le}
use Rattle.rules.specs.Chain.{Views, first, content, linked, any_page}
use Rattle.rules.proofs.ChainLaws.{packet_good, first_nonzero, any_passes, walk_accepts}
use Rattle.rules.specs.Tree.{Items, end, page, file, dir, start_of, tokens, token_bytes, token_links, directory_links, all_pages, Map, in_root, in_file, map_pages, Image, used}
use Rattle.rules.specs.Control.{root_control, the_root, root_page}
use Rattle.rules.specs.Bitmap.{map_size}
use Rattle.rules.proofs.BitmapLaws.{bits_complete}
use Rattle.rules.specs.WellFormed.{HasPackets, map_packets, IsDirectory, MapHolds, WellFormedWith, WellFormedIn}
use Rattle.rules.specs.Check.{raw_bits, judge_sub, judge_map, scan, check, scan_with, judge_map_file}
use Rattle.reading_theorems.specs.ControlLaws.{whole_ok, head_for, MapFits, head_written, length_root, start_written, count_written}
use Rattle.reading_theorems.specs.SubControlLaws.{AboveFits}
use Rattle.reading_theorems.specs.Directory.{FirstPasses, root_later, rest_zero, root_holds}
use Rattle.reading_theorems.specs.DirectoryComplete.{pages_fit, first_below, length_below, directory_complete, sub_complete}

module _ (g : Geometry) (valid : Valid g) where
  map_fits : (bits : List ℕ) (m : Map) → MapHolds g bits m → length bits ≡ map_size g m → count 0 (map_pages m) ≡ 0 → Within g.pages (map_pages m)
      → MapFits g bits m
  map_fits bits in_root h r z f = (h, r)
  map_fits bits (in_file ls) h r z f =
      let a = first_below g.pages ls h.0 f in
      let b = length_below g.pages ls (omega (arith, valid.some)) z f in
      (omega (arith, pages_fit g valid), omega (arith, pages_fit g valid))

  raw_written : (bits : List ℕ) (m : Map) → MapHolds g bits m → raw_bits (head_for g.width bits m) m ≡ bits
  raw_written bits in_root h = refl
  raw_written bits (in_file ls) h = h.1

  root_passes : (control : List ℕ) → length control ≡ control_size g → FirstPasses g (root_page g) control
  unfolding root_page
  root_passes control e p rest h = rw (drop_at control rest (control_size g) e) (whole_ok g p rest h)

  module _ (vs : Views) where
    map_complete : (bits : List ℕ) (m : Map) → MapHolds g bits m → length bits ≡ map_size g m → HasPackets vs.pages (map_packets m) → count 0 (map_pages m) ≡ 0
        → Within g.pages (map_pages m)
        → judge_map g vs (suc g.pages) (head_for g.width bits m) ≡ ok m
    unfolding judge_map judge_map_file
    map_complete bits in_root h r s z f = simp choose_true
    map_complete bits (in_file ls) h r s z f =
        let k = map_fits bits (in_file ls) h r z f in
        let n = first_nonzero ls h.0 z in
        let w = walk_accepts g.pages vs.pages any_page 0 [] 0 (first ls) ls (record {
          some = h.0;
          start = refl;
          packets = s;
          passes = any_passes 0 ls;
          clear = λ x. omega (arith, f x);
          onward = rest_zero ls z;
        }) in
        simp (
          choose_false,
          start_written g valid.one valid.two bits ls k,
          count_written g valid.one valid.two bits ls k,
          lt-ltb 0 (first ls) (omega arith),
          w,
          eq-eqb (length ls) (length ls) refl,
          eq-eqb (length (content ls)) (bitmap_size g) (ap length h.1 ∙ r),
          refuse_true,
          then_ok,
        )

    -- the root's first page
    root_page_lem : (control : List ℕ) (t : Items) → IsDirectory t → start_of t ≡ 0 → HasPackets vs.pages (linked (directory_links g control t))
        → (rest : List ℕ) × (next : ℕ) × (vs.pages 0 ≡ good (control ++ rest) next) × (1 ≤ count 0 (all_pages t))
    root_page_lem control end i e s = absurd i
    root_page_lem control (file l ls t) i e s = absurd i
    root_page_lem control (dir l d t) i e s = absurd i
    root_page_lem control (page p t) i e s =
        let k : 1 ≤ count 0 (all_pages (page p t)) = omega (arith, ap (hit 0) e, hit_same 0) in
        (token_bytes g.width (tokens t), first (token_links g.width [] (tokens t)), rw (← e) s.0, k)

    pub scan_complete : (bits : List ℕ) (i : Image) → WellFormedWith g vs bits i → scan g vs ≡ ok (record { image = i; raw = bits })
    unfolding scan scan_with
    scan_complete bits i h =
        let m = i.map in
        let t = i.tree in
        let control = root_control g.width bits m in
        let w = root_holds g vs bits m t h in
        let r = root_page_lem control t w.is_directory w.start w.chain in
        let z : count 0 (map_pages m) ≡ 0 = omega (arith, w.clear 0, range_le 0 g.pages, r.3) in
        let f : Within g.pages (map_pages m) = λ x. omega (arith, w.clear x) in
        let k = map_fits bits m h.map h.room z f in
        let l = length_root g valid.one valid.two bits m k in
        let j = map_complete bits m h.map h.room h.packets.map z f in
        let a : AboveFits g.width the_root = record { four = omega arith; start = omega (arith, pages_fit g valid, valid.some) } in
        let d = directory_complete g valid vs 8 (judge_sub g vs (suc g.pages) 8) (sub_complete g valid vs 8) the_root a (root_page g) control (root_later g)
        (root_passes control l) l (map_pages m) 0 t w (omega (arith, hit_same 0)) in
        simp (
          packet_good vs.pages 0 (control ++ r.0) r.1 r.2,
          head_written g valid.one valid.two bits m r.0 k,
          j,
          d,
          raw_written bits m h.map,
          then_ok,
        )

    pub check_complete : (i : Image) → WellFormedIn g vs i → check g vs ≡ ok i
    unfolding check
    check_complete i h = simp (scan_complete _ i h, then_ok, bits_complete (used i) (map_size g i.map))
