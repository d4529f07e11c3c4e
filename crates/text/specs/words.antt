-- The words of a line and the numbers that they spell, as definitions that compute on lists of bytes. Assumes nothing.
pub mod Words
pub mod Read
