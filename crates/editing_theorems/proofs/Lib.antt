-- The theorems.
pub mod PutDone
pub mod PutCalls
pub mod CallEdits
pub mod Demand3
pub mod Demand3Calls
pub mod Promised
