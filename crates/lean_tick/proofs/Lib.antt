-- How the reading's own contract gives that of a call from C or Rust, and that this leaves no choice. Assumes nothing.
mod Crossed
pub mod Determined
