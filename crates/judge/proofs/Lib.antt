-- The tests of the numbers, and a ride's table. Assumes nothing.
pub mod Numbers
pub mod Searching
