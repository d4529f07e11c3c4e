-- Laws of what a line says. Assumes nothing.
pub mod Readers
pub mod Back
pub mod Determined
pub mod Examples
