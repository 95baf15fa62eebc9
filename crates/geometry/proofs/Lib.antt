-- Laws of the geometry's cases, of numbers byte by byte, and of a part lent out of a slice.
pub mod Shapes
pub mod Numbers
pub mod Parts
