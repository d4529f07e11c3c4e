-- A patch's literal sum is the walk over its terms. Assumes nothing.
pub mod Walked
