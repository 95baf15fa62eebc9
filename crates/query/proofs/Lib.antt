-- Laws of the questions: a file read along its path, and the calls list and read.
pub mod FileRead
pub mod Calling
