-- Laws of the search by name, of paths and their directories, and of the page that a new entry goes to.
pub mod Passed
pub mod Finding
pub mod Resolving
pub mod PathPlace
pub mod Cases
pub mod Parts
pub mod Filling
