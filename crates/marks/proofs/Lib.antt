-- Laws of the bitmap's bytes as they are written: in page 0, in the bitmap file, and where the root places them.
pub mod Filling
pub mod RootPage
pub mod MapFile
pub mod MapPlace
