-- Laws of a place in a directory: what is there, what is ahead, and the searches and counts that go from place to place.
pub mod SlotLaws
pub mod KeyLaws
pub mod AtSlot
pub mod Places
pub mod TokenLaws
pub mod Stepping
pub mod ItemLaws
pub mod Looking
pub mod Counting
