-- Laws of reading and writing a stream. Assumes nothing.
pub mod Streams
