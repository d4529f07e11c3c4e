-- Laws of a reading: one step of the array, its size, what number 0 says, the mirror, and that no choice is left. Assumes
-- nothing.
pub mod Steps
mod Sizes
mod Array
pub mod Answered
pub mod Mirror
