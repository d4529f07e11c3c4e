-- What stands at a place afterwards. Assumes nothing.
pub mod Written
