-- The daily sheet's lines as bytes, and worked. Assumes nothing.
pub mod Lines
pub mod Examples
