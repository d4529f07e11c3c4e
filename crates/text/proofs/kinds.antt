-- Laws of a line of any kind. Assumes nothing.
pub mod Owed
