-- Laws of the search for a walk position: what an accepted image gives, the lines, what is ahead.
pub mod Accepting
pub mod Lines
pub mod Ahead
