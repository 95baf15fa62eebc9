pub mod Remaining
pub mod PassSteps
pub mod Counting
pub mod AddedEntries
pub mod Laying
pub mod PartLaws
