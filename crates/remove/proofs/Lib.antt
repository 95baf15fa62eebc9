-- Laws of the removal from the inside out: the directory that can be removed, the call.
pub mod PathRemoval
pub mod Calling
