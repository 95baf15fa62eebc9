-- Laws of the delete from the inside out: the entry taken out, the path, the call.
pub mod Unlinking
pub mod Removing
pub mod PathDelete
pub mod Calling
