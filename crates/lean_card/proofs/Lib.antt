-- How the card's own contract gives that of a call from C or Rust, and that this leaves no choice. Assumes nothing.
mod Drove
pub mod Determined
