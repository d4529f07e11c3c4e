-- Laws of writing one place after the other. Assumes nothing.
pub mod Placing
