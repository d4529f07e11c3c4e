-- What a call from C or Rust leaves in the lent arrays. Assumes nothing.
pub mod Converts
