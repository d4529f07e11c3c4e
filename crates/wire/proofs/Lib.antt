-- Laws of two-byte numbers. Assumes nothing.
pub mod Words
