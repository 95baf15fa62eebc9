pub mod Scans
pub mod Edits
pub mod Surveyed
