-- Laws of the program `list`: its buffers have room, and its input is filled read by read.
mod Filled
mod Room
