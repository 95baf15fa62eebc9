pub mod ExportedAnswers
pub mod Small
pub mod ExportedReports
