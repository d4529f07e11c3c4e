-- The words of a command line. Assumes nothing.
pub mod Args
