-- Laws of the exported answers: their numbers fit 32 bits, and they say what the calls say.
pub mod CallFaults
pub mod EffectLaws
pub mod SmallLaws
pub mod CallLaws
pub mod CarefulAnswers
pub mod GatherTelling
pub mod TreeLaws
pub mod Telling
pub mod ReportTelling
