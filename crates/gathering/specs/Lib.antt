pub mod Gather
pub mod GatherPromises
