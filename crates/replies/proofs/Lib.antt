-- Laws of a slice that is written from its front, and of a reply's bytes. Assumes nothing.
pub mod Over
pub mod Replies
