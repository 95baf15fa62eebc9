-- Laws of the check's two halves, of the whole, and of what an edit's call leaves.
pub mod MapLaws
pub mod ScanLaws
pub mod CheckLaws
pub mod EditLaws
pub mod SurveyLaws
