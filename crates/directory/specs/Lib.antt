pub mod Faults
pub mod EntryPlaces
pub mod Extensions
