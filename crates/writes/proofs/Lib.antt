-- Laws of page writes: a chain stored, a page's data put together, a directory's pages changed.
pub mod Storing
pub mod Cutting
pub mod Changing
