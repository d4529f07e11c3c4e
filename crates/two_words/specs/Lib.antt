-- A whole number by two words. Assumes nothing.
pub mod Words
