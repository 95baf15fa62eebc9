-- Laws of the put from the inside out: the entry's place, the path, the call.
pub mod Placing
pub mod RequestPuts
pub mod PathPuts
pub mod Calling
