-- Laws of the walk over a directory: one entry, all its entries, what is left of them, the whole directory.
pub mod Parts
pub mod Steps
pub mod Left
pub mod Directories
