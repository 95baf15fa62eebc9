-- Laws of the check sum: exclusive or, the steps of a byte, the bytes of a list.
pub mod Bits
pub mod Bytes
pub mod Steps
