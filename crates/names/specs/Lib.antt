-- The refusals' names. Assumes nothing.
pub mod Names
