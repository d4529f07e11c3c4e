-- The table of a ride, a surface loaded, and that the sum is 01's (rule Composed net). Assumes nothing.
pub mod Filling
pub mod Loading
pub mod Starting
pub mod Riding
pub mod Tabled
