pub mod Stores
pub mod Changes
