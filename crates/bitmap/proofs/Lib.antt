-- Laws of the bitmap's comparison: a byte's bits, and a chain's pages one after the other.
pub mod BitLaws
pub mod Comparing
mod PagesRead
pub mod SurveyLaws
pub mod Surveying
