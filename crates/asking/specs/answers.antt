-- The answers to request lines, as bytes by definition, and what is promised of them. Assumes nothing.
pub mod Answer
pub mod Contract
