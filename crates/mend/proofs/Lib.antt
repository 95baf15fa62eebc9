-- Laws that the proofs of the functions use.
mod Mending
