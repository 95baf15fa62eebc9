pub mod Owned
pub mod Records
pub mod RecordLaws
pub mod OwnerLaws
pub mod Free
pub mod FreeLaws
pub mod BitLaws
