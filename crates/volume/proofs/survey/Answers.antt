-- The bytes surveyed are those that the scan found: the four bytes in page 0, which lie inside every page, or the content of the bitmap file's chain.
use native.Mathlib.Omega.{arith}
use Rattle.volume.proofs.CheckLaws.{field_inside, local_raw, remote_raw, remote_known}
use Rattle.volume.proofs.SurveyLaws.{on_raw}
use Rattle.volume.proofs.survey.Goals as goal

pub slice_bounds-survey_local-end : goal.slice_bounds-survey_local-end
slice_bounds-survey_local-end c =
    let k = field_inside _ _ _ c.requires.fit c.page_of-page.ensures in omega arith

pub survey_chain-requires : goal.survey_chain-requires
survey_chain-requires c =
    let s = c.requires in record { fit = s.fit; known_chain = remote_known _ _ _ _ (remote_raw _ _ _ _ _ _ s.root_value.0 c.in-Remote.is s.root_value.1.1) }

pub returns-in-Local : goal.returns-in-Local
returns-in-Local c =
    λ s e used h. on_raw _ _ _ used c.survey_local.result (local_raw _ _ _ _ s c.requires.root_value.0 c.in-Local.is e c.page_of-page.ensures)
    (c.survey_local.ensures used h)

pub returns-in-Remote : goal.returns-in-Remote
returns-in-Remote c =
    λ s e used h.
    let k = remote_raw _ _ _ _ _ s c.requires.root_value.0 c.in-Remote.is e in
    on_raw _ _ _ used c.survey_chain.result k.raw_is (c.survey_chain.ensures k.links k.chain used h)
