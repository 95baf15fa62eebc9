pub mod Searches
pub mod PlaceLaws
pub mod Targets
pub mod TargetLaws
pub mod ParsedPath
pub mod Spaces
