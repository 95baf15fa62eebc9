-- Laws that the proofs of the functions use.
mod Releasing
mod MarkingFile
mod PathPuts
mod Halting
mod Calling
mod Deleting
