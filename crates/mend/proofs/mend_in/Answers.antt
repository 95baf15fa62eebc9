-- Where the marks are not covered the check's fault is the answer; else the bitmap is written from the table of the scan, and the table filled from the image as it then stands.
use Rattle.rules.proofs.AnswerLaws.{passed_up}
use mathlib.Core.Path.{ap}
use Rattle.geometry.specs.NumberLaws.{bytes_from}
use Rattle.packet.specs.declared.Budget.{Budget}
use Rattle.mend.proofs.Mending.{never, refuses_as, has_root, mended_as}
use Rattle.mend.proofs.mend_in.Goals as goal

pub write_map-requires : goal.write_map-requires
write_map-requires c =
    let a = c.args in
    let root = has_root a.g a.image.now c.requires.fit (bytes_from a.image.now (λ i. (c.slice_known-1.given i).fits)) c.survey_table.result _
    c.survey_table.ensures _ c.in-Some.is in record { fit = c.requires.fit; has_root = (root, ap (λ (x : Budget). x.stopped) c.unlimited.ensures) }

pub returns-in_err-check_table : goal.returns-in_err-check_table
returns-in_err-check_table c =
    let a = c.args in
    rw (passed_up c.from_residual.result _ c.from_residual.ensures.1)
    (refuses_as a.g a.image.now c.requires.fit (bytes_from a.image.now (λ i. (c.slice_known-1.given i).fits)) c.survey_table.result _ c.survey_table.ensures
    c.in_default.is c.check_table.result _ _ c.check_table.ensures c.in_err-check_table.was)

pub returns-in_default : goal.returns-in_default
returns-in_default c =
    let a = c.args in
    never a.g a.image.now c.requires.fit (bytes_from a.image.now (λ i. (c.slice_known-1.given i).fits)) c.survey_table.result _ c.survey_table.ensures
    c.in_default.is c.check_table.result _ _ c.check_table.ensures c.in_ok-check_table.was

pub returns : goal.returns
returns c =
    let a = c.args in
    mended_as a.g a.image.now c.requires.fit (bytes_from a.image.now (λ i. (c.slice_known-1.given i).fits)) c.survey_table.result _ c.survey_table.ensures
    _ c.in-Some.is _ c.unlimited.ensures _ _ c.write_map.ensures c.check_table-2.result _ c.check_table-2.ensures
