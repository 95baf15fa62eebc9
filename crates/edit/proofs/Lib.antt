-- Laws of an edit's steps: pages taken, an entry's bytes, chain and entry carried out, a file put, an entry removed.
pub mod Taking
pub mod Entries
pub mod Carrying
pub mod FilePut
pub mod Removing
pub mod Told
