-- What becomes of an old trace. Assumes nothing.
pub mod Convert
