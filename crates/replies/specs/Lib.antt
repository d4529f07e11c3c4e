-- The reply as a record of bytes, and a slice that is written from its front. Assumes nothing.
pub mod Reply
pub mod Parts
