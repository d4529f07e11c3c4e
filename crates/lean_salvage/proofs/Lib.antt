-- How the contract of the look ahead gives that of a call from C or Rust, and that this leaves no choice. Assumes nothing.
mod Crossed
pub mod Determined
