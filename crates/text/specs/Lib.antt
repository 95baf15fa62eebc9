pub mod Placed
pub mod PlacedLaws
pub mod TextLaws
