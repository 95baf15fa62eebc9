-- A local bitmap takes no page and has N up to 32; a bitmap file is claimed first, and its refusal is the answer.
-- Then the root is walked over what is claimed so far, and the walk's answer is the scan's.
use mathlib.Core.Path.{refl, sym, ◌∙◌}
use mathlib.Core.List.{[]}
use native.Mathlib.Omega.{arith}
use Rattle.owners.specs.Records.{records_of}
use Rattle.rules.specs.Chain.{views_of}
use Rattle.rules.specs.Tree.{in_root}
use Rattle.rules.proofs.AnswerLaws.{passed_up}
use Rattle.volume.proofs.MapLaws.{empty_table}
use Rattle.volume.proofs.ScanLaws.{scan_local, scan_remote, scan_from, mapped, file_mapped, map_refused_is, file_refused, file_scan}
use Rattle.volume.proofs.scan.Goals as goal

pub walk_root-requires : goal.walk_root-requires
walk_root-requires c =
    let s = c.requires in
    let a = c.args in
    let e = empty_table a.g.pages _ s.empty.0.free in
    let k = scan_local a.g (views_of a.g a.image.now) _ s.empty.1 c.in-Local.is in record { fit = s.fit; table_len = (s.empty.0.sized, sym e.2, λ h. omega (arith, k.few)) }

pub walk_root-requires-in-Remote : goal.walk_root-requires-in-Remote
walk_root-requires-in-Remote c =
    let s = c.requires in
    let a = c.args in
    let m = file_mapped _ _ _ _ _ _ _ c.claim_map.ensures c.in_ok-map-in-Remote.was in
    let k = mapped a.g m.map _ _ m.inside m.pages_are m.table_is in record { fit = s.fit; table_len = (c.claim_map.auto.table ∙ s.empty.0.sized, k.used_is, λ h. m.some) }

pub returns-in-Local : goal.returns-in-Local
returns-in-Local c =
    let s = c.requires in
    let a = c.args in
    let e = empty_table a.g.pages _ s.empty.0.free in
    let k = scan_local a.g (views_of a.g a.image.now) _ s.empty.1 c.in-Local.is in
    scan_from _ _ k.head in_root k.scan_is 0 _ refl s.empty.0.free c.walk_root.result (records_of c.walk_root.new.table) (c.walk_root.ensures [] e.0)

pub returns-in_err-map-in-Remote : goal.returns-in_err-map-in-Remote
returns-in_err-map-in-Remote c =
    let s = c.requires in
    rw (passed_up c.from_residual.result _ c.from_residual.ensures.1)
    (file_refused _ _ _ _ _ _ (scan_remote _ _ _ _ _ s.empty.1 c.in-Remote.is) (map_refused_is _ _ _ _ _ _ _ c.claim_map.ensures c.in_err-map-in-Remote.was))

pub returns-in_ok-map-in-Remote : goal.returns-in_ok-map-in-Remote
returns-in_ok-map-in-Remote c =
    let s = c.requires in
    let a = c.args in
    let m = file_mapped _ _ _ _ _ _ _ c.claim_map.ensures c.in_ok-map-in-Remote.was in
    let k = mapped a.g m.map _ _ m.inside m.pages_are m.table_is in
    let f = scan_remote _ _ _ _ _ s.empty.1 c.in-Remote.is in
    scan_from _ _ f.head m.map (file_scan _ _ _ _ _ _ f m) _ _ m.pages_are m.table_is c.walk_root-in-Remote.result (records_of c.walk_root-in-Remote.new.table)
    (c.walk_root-in-Remote.ensures _ k.represents)
