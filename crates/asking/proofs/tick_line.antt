-- Laws of a tick line. Assumes nothing.
pub mod Behind
pub mod Examples
