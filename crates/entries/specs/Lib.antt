pub mod EntrySlots
pub mod TokensAt
