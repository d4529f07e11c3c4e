-- What went through a stream. Assumes nothing.
pub mod Stream
