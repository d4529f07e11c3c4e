-- The laws of the lines, and that a contract leaves no choice. Assumes nothing.
pub mod Telling
pub mod Promises
