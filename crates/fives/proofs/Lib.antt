-- Laws of the five numbers and of their lines. Assumes nothing.
pub mod Numbers
pub mod Promises
