-- Pascal's triangle: the laws behind the table. Assumes nothing.
pub mod Triangle
pub mod Entries
