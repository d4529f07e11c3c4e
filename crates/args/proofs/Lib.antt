-- Laws of the words of a command line. Assumes nothing.
pub mod Words
