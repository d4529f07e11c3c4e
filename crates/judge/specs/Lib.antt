-- The tests from VALUE on, of rides and of patches, and what the search for a place answers. Assumes nothing.
pub mod Places
