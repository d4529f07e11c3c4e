-- Laws of the arrays that hold a converter, and that the contract leaves no choice. Assumes nothing.
mod Arrays
pub mod Determined
