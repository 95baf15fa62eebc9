pub mod PrintResult
pub mod Prints
pub mod LineLaws
pub mod DumpLaws
pub mod TextFits
