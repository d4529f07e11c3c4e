-- Laws of an answer line with its refusal by name. Assumes nothing.
pub mod Naming
