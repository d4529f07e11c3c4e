-- Laws of the rooms. Assumes nothing.
pub mod Lent
