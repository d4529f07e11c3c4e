-- The refusals by their names. Assumes nothing.
pub mod Number
