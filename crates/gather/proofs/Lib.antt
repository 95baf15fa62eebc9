pub mod Copying
pub mod Calling
