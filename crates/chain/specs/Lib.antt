pub mod Steps
pub mod KnownChain
pub mod Claims
pub mod Contents
