-- Laws of a comparison with today's reply, and of the reader. Assumes nothing.
pub mod Asking
pub mod Reading
pub mod Promises
