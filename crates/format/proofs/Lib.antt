-- Laws of the format: fields and bits as they are written, the empty image, the call.
pub mod Fields
pub mod Marking
pub mod Bits
pub mod Emptying
pub mod Calling
