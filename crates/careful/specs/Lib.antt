pub mod MarkedPuts
pub mod Halts
