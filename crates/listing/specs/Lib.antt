pub mod KnownTree
