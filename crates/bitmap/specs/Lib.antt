pub mod Bits
pub mod Surveys
