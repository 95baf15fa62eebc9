-- Soundness of the check: an accepted image is well formed, and so is, but for the bitmap's bits, one that the scan accepts.
use Rattle.std.specs.Prelude.{◌≡◌, refl, ℕ, suc, length, take, drop}
use Rattle.std.proofs.Math.Path.{ap, subst}
use Rattle.std.proofs.Common.{sym, ◌∙◌, arith}
use mathlib.Core.List.{List, [], ◌∷◌}
use borrow.Author.Tests.{eqb-true}
use Rattle.geometry.specs.declared.Geometry.{Geometry}
use Rattle.geometry.specs.ChooseLaws.{on_choose}
use Rattle.geometry.specs.Geometry.{control_size, Valid}
use Rattle.geometry.specs.Number.{Bytes}
use Rattle.geometry.specs.NumberLaws.{bytes_append}
use Rattle.packet.specs.Packet.{good}
use Rattle.rules.specs.Result.{ok}
use Rattle.rules.proofs.ResultLaws.{ok_inj, on_then, on_refuse}
use Rattle.rules.specs.PageSets.{Within}
use Rattle.rules.specs.Chain.{Views, Link, link, first, content, linked, Body, any_page}
use Rattle.rules.proofs.ChainLaws.{packet_inv, walk_sound}
use Rattle.rules.specs.Tree.{Map, map_pages, Image, used}
use Rattle.rules.specs.Control.{root_control, the_root, Head, map_start, root_page}
use Rattle.rules.specs.Bitmap.{bitmap_from, map_size}
use Rattle.rules.proofs.BitmapLaws.{bits_sound}
use Rattle.rules.specs.WellFormed.{HasPackets, map_packets, MapHolds, WellFormedWith, WellFormedIn}
use Rattle.rules.specs.Check.{raw_bits, Scan, judge_sub, judge_map, scan, check, scan_with, judge_map_file}
use Rattle.reading_theorems.specs.PacketLaws.{ByteView, same_bytes}
use Rattle.reading_theorems.specs.ControlLaws.{whole_inv, HeadRead, head_sound}
use Rattle.reading_theorems.specs.Directory.{FirstReads, root_later, well_formed_lem}
use Rattle.reading_theorems.specs.DirectorySound.{directory_sound, sub_sound}

module _ (g : Geometry) (vs : Views) (valid : Valid g) (bv : ByteView g vs.pages) where
  content_bytes : (ls : List Link) → HasPackets vs.pages (linked ls) → Bytes (content ls)
  content_bytes [] s = tt
  content_bytes (link p b ∷ ls) s = bytes_append b (content ls) (bv.bytes p b (first ls) s.0) (content_bytes ls s.1)

  -- what the bitmap's place says, with the root's first page b
  record MapRead (b : List ℕ) (h : Head) (m : Map) : Type 0 where
    within : Within g.pages (map_pages m)
    packets : HasPackets vs.pages (map_packets m)
    holds : MapHolds g (raw_bits h m) m
    control : take (control_size g) b ≡ root_control g.width (raw_bits h m) m
    room : length (raw_bits h m) ≡ map_size g m
    bytes : Bytes (raw_bits h m)

  map_sound : (b : List ℕ) (h : Head) (m : Map) → HeadRead g b h → judge_map g vs (suc g.pages) h ≡ ok m → MapRead b h m
  unfolding judge_map judge_map_file
  map_sound b h m r q = on_choose _ _ _ _ q
      (λ k q. subst (MapRead b h) (ok_inj q) (record {
        within = λ z. omega arith;
        packets = tt;
        holds = (r.inside k).0;
        control = (r.inside k).1;
        room = r.size;
        bytes = r.bytes;
      }))
      (λ k q. on_refuse _ _ _ _ _ q λ g₁ q. on_then _ _ _ q λ ls w q. on_refuse _ _ _ _ _ q λ g₂ q. on_refuse _ _ _ _ _ q λ g₃ q.
      let c = walk_sound g.pages vs.pages any_page (suc g.pages) 0 [] 0 (map_start g.width h) ls (λ z. omega arith) w in
      subst (MapRead b h) (ok_inj q) (record {
        within = λ z. omega (arith, c.clear z);
        packets = c.packets;
        holds = (c.some, refl);
        control = r.outside k (content ls) ls c.start (sym (eqb-true _ _ g₂));
        room = eqb-true _ _ g₃;
        bytes = content_bytes ls c.packets;
      }))

  root_reads : (x : Body) (control : List ℕ) → vs.pages 0 ≡ good x.bytes x.next → take (control_size g) x.bytes ≡ control
      → FirstReads g vs.pages (root_page g) control 0
  unfolding root_page
  root_reads x control a k b next s u = (ap (take (control_size g)) (same_bytes (sym s ∙ a)) ∙ k, whole_inv g 0 (drop (control_size g) b) u)

  pub scan_sound : (s : Scan) → scan g vs ≡ ok s → WellFormedWith g vs s.raw s.image
  unfolding scan scan_with
  scan_sound s q = on_then _ _ _ q λ x a q. on_then _ _ _ q λ h b q. on_then _ _ _ q λ m c q. on_then _ _ _ q λ t d q.
      let y = packet_inv vs.pages 0 x a in
      let r = map_sound x.bytes h m (head_sound g x.bytes h valid.one valid.two (bv.bytes 0 x.bytes x.next y) b) c in
      let bits = raw_bits h m in
      let control = root_control g.width bits m in
      let f = root_reads x control y r.control in
      let k = directory_sound g vs bv 8 (judge_sub g vs (suc g.pages) 8) (sub_sound g vs bv 8) (root_page g) control the_root (root_later g) f (map_pages m) 0 t r.within d in
      subst (λ (s : Scan). WellFormedWith g vs s.raw s.image) (ok_inj q) (well_formed_lem g vs bits m t k r.holds r.room r.bytes r.packets)

  pub check_sound : (i : Image) → check g vs ≡ ok i → WellFormedIn g vs i
  unfolding check
  check_sound i q = on_then _ _ _ q λ s a q. on_then _ _ _ q λ u b q.
      let w = scan_sound s a in
      let us = used s.image in
      let e : s.raw ≡ bitmap_from us 0 (map_size g s.image.map) = bits_sound s.raw us b w.bytes ∙ ap (bitmap_from us 0) w.room in
      subst (WellFormedIn g vs) (ok_inj q) (subst (λ (bits : List ℕ). WellFormedWith g vs bits s.image) e w)
