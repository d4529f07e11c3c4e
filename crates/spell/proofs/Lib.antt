-- Laws of writing one thing after another, and of a number's digits. Assumes nothing.
pub mod Writing
pub mod Spelling
pub mod Examples
pub mod Determined
