-- Numbers that stay at the greatest of 64 bits. Assumes nothing.
pub mod Capped
