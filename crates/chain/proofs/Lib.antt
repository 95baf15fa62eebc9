-- Laws of a chain gone through page by page: one step, then claiming, following, releasing and reading.
pub mod StepLaws
pub mod Claiming
pub mod Following
pub mod Releasing
pub mod Reading
