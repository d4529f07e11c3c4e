-- Laws of the arrays that hold a state, and that the contract leaves no choice. Assumes nothing.
mod Arrays
pub mod Determined
