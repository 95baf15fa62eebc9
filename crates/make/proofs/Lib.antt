-- Laws of the making from the inside out: the entry's place, the path, the call.
pub mod Placing
pub mod PathMakes
pub mod Calling
