-- What the reading of a night promises. Assumes nothing.
pub mod Reading
pub mod listing
