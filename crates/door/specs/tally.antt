-- The reader that gathers the replay's five numbers. Assumes nothing.
pub mod Read
