-- Laws of the answer line. Assumes nothing.
pub mod Replied
