-- Laws of a salvage from an input: a buffer that slides, and what went out. Assumes nothing.
pub mod Sliding
pub mod Streaming
