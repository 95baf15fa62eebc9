-- The theorems.
pub mod PathBytes
pub mod DirectorySlots
pub mod PagesAfterPuts
pub mod EditCalls
pub mod EitherOrderLaws
