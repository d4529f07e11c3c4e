-- The lines of a night told pair by pair. Assumes nothing.
pub mod Text
pub mod Entry
pub mod Ending
pub mod Examples
