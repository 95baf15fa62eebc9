pub mod EitherOrder
pub mod ShownSeen
pub mod PathEdits
